-- `stream::length_word` meets its contract. Assumes nothing.
use mathlib.Core.Path.{sym, ap}
use Rattle.stream.specs.Lengths.{length_word}
use Rattle.stream.proofs.length_word.Goals as goal

pub returns-in-Ok : goal.returns-in-Ok
returns-in-Ok c = ap length_word (sym c.in-Ok.is)

pub enum_known-a : goal.enum_known-a
enum_known-a c = c.in-Ok.in-Ok-own.keys1

pub enum_told-1 : goal.enum_told-1
enum_told-1 c = c.in-Err.in-Err-own.keys2
