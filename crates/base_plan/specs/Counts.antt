-- Rules. Records counted, as the functions that count them hand it to each other. A reader of the rules needs none of it but `is_amiss`.
use Rattle.std.specs.Prelude.{Bool, true, false, ℕ, leb, eqb}

-- a line with so many holders has two or more, or none
abbrev pub is_amiss : Bool → ℕ → Bool
is_amiss true count = leb 2 count
is_amiss false count = eqb count 0
