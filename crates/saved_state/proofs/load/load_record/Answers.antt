-- `saved_state::load::load_record` meets its contract. Assumes nothing.
use mathlib.Core.Bool.{Bool, true, false, ◌&&◌}
use mathlib.Core.List.{List}
use mathlib.Core.Path.{◌≡◌}
use Prim.Native.Nat.{ℕ, ◌*◌, ◌%◌, min}
use lib.Dec.{leb}
use native.Mathlib.Omega.{arith}
use Rattle.statistics.specs.Statistics.{largest_residual}
use Rattle.statistics.specs.declared.Record.{Record}
use Rattle.saved_state.specs.Checkpoints.{sum_in, n_in, loaded_record}
use Rattle.saved_state.proofs.load.load_record.Goals as goal

module _ (lossless : Bool) (start : Record) (s : List ℕ) (j : ℕ) where
  unused : (f : Bool) → f ≡ leb 41 (j % 56) → (lossless && f) ≡ true → start ≡ loaded_record lossless start s j
  unfolding loaded_record
  unused f ef e = rw (← ef, e)

  used : (flat : Bool) (sum n cut : ℕ) → flat ≡ leb 41 (j % 56) → (lossless && flat) ≡ false → sum ≡ sum_in s j → n ≡ n_in s j → cut ≡ min sum (n * largest_residual)
      → record { sum = cut; n = n } ≡ loaded_record lossless start s j
  unfolding loaded_record
  used flat sum n cut ef e f g h = rw (← ef, e, h, f, g)

pub returns-then-lossless-is_flat : goal.returns-then-lossless-is_flat
returns-then-lossless-is_flat c = unused _ _ _ _ _ c.is_flat.ensures c.if-lossless-is_flat.true

pub returns : goal.returns
returns c =
    used _ _ _ _ _ _ _ _ c.is_flat.ensures c.if-lossless-is_flat.false c.be_at-sum.ensures.0 c.be_at-n.ensures.0 c.min.ensures

pub overflow_mul-j : goal.overflow_mul-j
overflow_mul-j c = omega (arith, c.requires)

pub overflow_add-j : goal.overflow_add-j
overflow_add-j c = omega (arith, c.requires)

pub be_at-sum-requires : goal.be_at-sum-requires
be_at-sum-requires c = omega (arith, c.requires)

pub overflow_cast-sum : goal.overflow_cast-sum
overflow_cast-sum c = omega (arith, c.be_at-sum.ensures)

pub overflow_mul-j-2 : goal.overflow_mul-j-2
overflow_mul-j-2 c = omega (arith, c.requires)

pub overflow_add-j-2 : goal.overflow_add-j-2
overflow_add-j-2 c = omega (arith, c.requires)

pub overflow_add-j-3 : goal.overflow_add-j-3
overflow_add-j-3 c = omega (arith, c.requires)

pub be_at-n-requires : goal.be_at-n-requires
be_at-n-requires c = omega (arith, c.requires)

pub overflow_cast-n : goal.overflow_cast-n
overflow_cast-n c = omega (arith, c.be_at-n.ensures)

pub overflow_mul-n : goal.overflow_mul-n
overflow_mul-n c = omega (arith, c.be_at-n.ensures)
