-- `saved_state::load::is_bad_record` meets its contract. Assumes nothing.
use mathlib.Core.Bool.{Bool, ◌||◌}
use mathlib.Core.List.{List}
use mathlib.Core.Path.{◌≡◌, ◌∙◌}
use Prim.Native.Nat.{ℕ, ◌^◌}
use lib.Dec.{leb, ltb}
use native.Mathlib.Omega.{arith}
use Rattle.saved_state.specs.Checkpoints.{sum_in, n_in, bad_record}
use Rattle.saved_state.proofs.load.is_bad_record.Goals as goal

judged : (s : List ℕ) (j sum n : ℕ) (b : Bool) → b ≡ (leb (2 ^ 26) sum || (ltb n 1 || ltb 64 n)) → sum ≡ sum_in s j → n ≡ n_in s j → b ≡ bad_record s j
unfolding bad_record
judged s j sum n b h e f = h ∙ rw (e, f)

pub returns : goal.returns
returns c = judged _ _ _ _ _ c.is_no_record.ensures c.be_at-sum.ensures.0 c.be_at-n.ensures.0

pub overflow_mul-j : goal.overflow_mul-j
overflow_mul-j c = omega (arith, c.requires)

pub overflow_add-j : goal.overflow_add-j
overflow_add-j c = omega (arith, c.requires)

pub be_at-sum-requires : goal.be_at-sum-requires
be_at-sum-requires c = omega (arith, c.requires)

pub overflow_mul-j-2 : goal.overflow_mul-j-2
overflow_mul-j-2 c = omega (arith, c.requires)

pub overflow_add-j-2 : goal.overflow_add-j-2
overflow_add-j-2 c = omega (arith, c.requires)

pub overflow_add-j-3 : goal.overflow_add-j-3
overflow_add-j-3 c = omega (arith, c.requires)

pub be_at-n-requires : goal.be_at-n-requires
be_at-n-requires c = omega (arith, c.requires)
