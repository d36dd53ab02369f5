-- `pass_ahead::records::digits_table` meets its contract: the table's rule is one test over its 65 entries, which antt computes. Assumes nothing.
use native.Mathlib.Omega.{arith}
use Prim.Native.Nat.{◌-◌}
use lib.Count.{count_leading_zeros}
use Rattle.pass_ahead.specs.Tables.{next_of}
use Rattle.numbers.proofs.TableLaws.{at_each}
use Rattle.pass_ahead.specs.declared.records.TheConstants.{DIGITS}
use Rattle.pass_ahead.proofs.records.digits_table.Goals as goal

pub returns : goal.returns
unfolding count_leading_zeros
returns c = λ n one most. at_each (λ k. 31 - count_leading_zeros 32 (next_of k)) (DIGITS) tt n (omega arith)
