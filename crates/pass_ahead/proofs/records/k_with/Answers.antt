-- `pass_ahead::records::k_with` meets its contract. Assumes nothing.
use Rattle.numbers.proofs.FlagLaws.{flag_of}
use Rattle.std.proofs.Math.Nat.{min_comm}
use native.Mathlib.Omega.{arith}
use mathlib.Core.Path.{ap, ◌∙◌}
use Prim.Native.Nat.{ℕ, ◌-◌}
use lib.Bits.{bit_or}
use lib.Count.{count_leading_zeros}
use Rattle.statistics.proofs.RecordLaws.{sum_lt}
use Rattle.pass_ahead.proofs.UpdateLaws.{Longer, digits_longer, k_found}
use Rattle.pass_ahead.proofs.records.k_with.Goals as goal
use Rattle.pass_ahead.proofs.records.k_with.Goals.{Start}

longer : (c : Start) → Longer c.args.sum c.args.n
longer c =
    digits_longer c.args.sum c.args.n (omega (arith, sum_lt _ c.requires.0)) c.requires.0.some (omega (arith, c.requires.0.most))

pub overflow_sub-least : goal.overflow_sub-least
overflow_sub-least c = (longer c).0

pub overflow_sub-least-2 : goal.overflow_sub-least-2
overflow_sub-least-2 c = omega (arith, (longer c).1, c.requires.1)

pub returns : goal.returns
returns c =
    let t : Rattle.statistics.specs.declared.Record.Record = record { sum = c.args.sum; n = c.args.n } in
    let l = longer (goal.at.returns c).Start in
    k_found t _ _ _ c.requires.0 (ap (λ (d : ℕ). 31 - count_leading_zeros 32 (bit_or (bit_or c.args.sum c.args.n) 1) - d) c.requires.1 ∙ l.2) (c.from.ensures ∙ flag_of _) (c.min.ensures ∙ min_comm _ _)
