-- A test as a number, in std's words and in ours. Assumes nothing.
use Rattle.std.proofs.Common.{◌≡◌, ◌≤◌, Bool, true, false, refl, arith}
use Rattle.std.specs.Int.{from_bool}
use Rattle.numbers.specs.Numbers.{flag}

pub flag_of : (b : Bool) → from_bool b ≡ flag b
flag_of true = refl
flag_of false = refl

pub flag_le : (b : Bool) → flag b ≤ 1
flag_le true = omega arith
flag_le false = omega arith
