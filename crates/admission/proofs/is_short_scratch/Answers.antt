-- `admission::is_short_scratch` meets its contract. Assumes nothing.
use mathlib.Core.Bool.{Bool, ◌||◌}
use mathlib.Core.Path.{◌≡◌}
use Prim.Native.Nat.{ℕ}
use lib.Dec.{ltb}
use Rattle.admission.specs.Beginnings.{samples_needed, is_short_scratch}
use Rattle.admission.proofs.is_short_scratch.Goals as goal

short : (xtrans : Bool) (samples records n : ℕ) (a b : Bool) → n ≡ samples_needed xtrans → a ≡ ltb samples n → b ≡ ltb records 336
    → (a || b) ≡ is_short_scratch xtrans samples records
short xtrans samples records n a b e f g = rw (f, g, e)

pub returns : goal.returns
returns c =
    short c.args.xtrans c.args.samples c.args.records _ _ _ c.samples_needed.ensures.0 c.is_short.ensures c.is_short-2.ensures
