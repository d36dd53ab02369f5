-- `saved_state::load::is_bad_sample` meets its contract. Assumes nothing.
use mathlib.Core.List.{List}
use mathlib.Core.Path.{◌≡◌}
use Prim.Native.Nat.{ℕ, ◌^◌}
use lib.Dec.{leb}
use native.Mathlib.Omega.{arith}
use Rattle.saved_state.specs.Checkpoints.{stored_sample, bad_sample}
use Rattle.saved_state.proofs.load.is_bad_sample.Goals as goal

judged : (bits : ℕ) (s : List ℕ) (j p x : ℕ) → p ≡ 2 ^ bits → x ≡ stored_sample s j → leb p x ≡ bad_sample bits s j
unfolding bad_sample
judged bits s j p x e f = rw (e, f)

pub returns : goal.returns
returns c = judged _ _ _ _ _ c.power.ensures.0 c.be_at.ensures.0

pub power-requires : goal.power-requires
power-requires c = omega (arith, c.requires)

pub overflow_mul-j : goal.overflow_mul-j
overflow_mul-j c = omega (arith, c.requires)

pub overflow_add-j : goal.overflow_add-j
overflow_add-j c = omega
    (arith, c.requires)

pub be_at-requires : goal.be_at-requires
be_at-requires c = omega (arith, c.requires)
