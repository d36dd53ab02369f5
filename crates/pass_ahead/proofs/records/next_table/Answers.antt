-- `pass_ahead::records::next_table` meets its contract: the table's rule is one test over its 65 entries, which antt computes. Assumes nothing.
use native.Mathlib.Omega.{arith}
use Rattle.pass_ahead.specs.Tables.{next_of}
use Rattle.numbers.proofs.TableLaws.{at_each}
use Rattle.pass_ahead.specs.declared.records.TheConstants.{NEXT}
use Rattle.pass_ahead.proofs.records.next_table.Goals as goal

pub returns : goal.returns
returns c = λ n one most. at_each next_of (NEXT) tt n (omega arith)
