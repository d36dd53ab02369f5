-- `base_plan::records::byte` meets its contract. Assumes nothing.
use mathlib.Core.Path.{sym}
use native.Mathlib.Omega.{arith}
use lib.Dec.{lit<}
use lib.ListN.{get_or-eq_default}
use Rattle.base_plan.proofs.records.byte.Goals as goal

pub returns : goal.returns
returns c = (sym (get_or-eq_default c.args.d.now 0 c.if-i-d.false), lit< tt, λ h. omega arith)
