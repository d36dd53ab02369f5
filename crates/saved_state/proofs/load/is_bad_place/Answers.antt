-- `saved_state::load::is_bad_place` meets its contract. Assumes nothing.
use mathlib.Core.Bool.{Bool, ◌||◌}
use mathlib.Core.List.{List}
use mathlib.Core.Path.{◌≡◌}
use Prim.Native.Nat.{ℕ, ◌+◌, ◌*◌}
use lib.Dec.{ltb}
use native.Mathlib.Omega.{arith}
use Rattle.saved_state.specs.Checkpoints.{be_at, bad_place}
use Rattle.saved_state.proofs.load.is_bad_place.Goals as goal

judged : (s : List ℕ) (lines bytes next at : ℕ) (b : Bool) → b ≡ ltb (8 * bytes + 7) at → next ≡ be_at s 17 2 → at ≡ be_at s 19 8
    → (ltb lines next || b) ≡ bad_place lines bytes s
unfolding bad_place
judged s lines bytes next at b h e f = rw (h, e, f)

pub returns : goal.returns
returns c = judged _ _ _ _ _ _ c.is_past_end.ensures c.be_at-next.ensures.0 c.be_at-at.ensures.0

pub be_at-next-requires : goal.be_at-next-requires
be_at-next-requires c = omega (arith, c.requires)

pub be_at-at-requires : goal.be_at-at-requires
be_at-at-requires c = omega (arith, c.requires)

pub is_past_end-requires : goal.is_past_end-requires
is_past_end-requires c = omega
    (arith, c.requires)
