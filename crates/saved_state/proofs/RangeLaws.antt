-- Any bytes that are not bad: the records that they load are in range, and their samples too. Assumes nothing.
use borrow.Author.Tests.{ltb-false, leb-false}
use mathlib.Core.Bool.{Bool, true, false, cond, not, ◌&&◌, ◌||◌}
use mathlib.Core.List.{List}
use mathlib.Core.Path.{◌≡◌}
use Prim.Native.Nat.{ℕ, ◌*◌, ◌^◌, ◌≤◌, ◌<◌, min}
use native.Mathlib.Nat.{min-le_right}
use lib.Dec.{leb, ltb, eqb}
use lib.ListN.{length}
use Rattle.statistics.specs.Inside.{InRange}
use Rattle.statistics.specs.Statistics.{largest_residual}
use Rattle.statistics.specs.declared.Record.{Record}
use Rattle.saved_state.specs.Checkpoints.{size_of_checkpoint, any_below, sum_in, n_in, stored_sample, bad_record, bad_sample, bad_place, bad_checkpoint}
use Rattle.saved_state.specs.Checkpoints.{is_flat, loaded_record}
use Rattle.saved_state.proofs.ByteLaws.{left, right, none_at}

module _ (W bits lines bytes : ℕ) (s : List ℕ) (good : bad_checkpoint W bits lines bytes s ≡ false) where
  rest : (bad_place lines bytes s || (any_below 336 (bad_record s) || any_below (6 * W) (bad_sample bits s))) ≡ false
  unfolding bad_checkpoint
  rest = right (not (eqb (length s) (size_of_checkpoint W))) (bad_place lines bytes s || (any_below 336 (bad_record s) || any_below (6 * W) (bad_sample bits s))) good

  both : (any_below 336 (bad_record s) || any_below (6 * W) (bad_sample bits s)) ≡ false
  both = right (bad_place lines bytes s) (any_below 336 (bad_record s) || any_below (6 * W) (bad_sample bits s)) rest

  n_in_range : (j : ℕ) → j < 336 → (1 ≤ n_in s j) × (n_in s j ≤ 64)
  unfolding bad_record
  n_in_range j h =
      let e = none_at (bad_record s) 336 j h (left (any_below 336 (bad_record s)) (any_below (6 * W) (bad_sample bits s)) both) in
      let f = right (leb (2 ^ 26) (sum_in s j)) (ltb (n_in s j) 1 || ltb 64 (n_in s j)) e in
      (ltb-false (n_in s j) 1 (left (ltb (n_in s j) 1) (ltb 64 (n_in s j)) f), ltb-false 64 (n_in s j) (right (ltb (n_in s j) 1) (ltb 64 (n_in s j)) f))

  pub loaded_in_range : (lossless : Bool) (start : Record) (j : ℕ) → j < 336 → InRange start → InRange (loaded_record lossless start s j)
  unfolding loaded_record
  loaded_in_range lossless start j h ok = go (lossless && is_flat j)
    where
      go : (t : Bool) → InRange (cond t start (record { sum = min (sum_in s j) (n_in s j * largest_residual); n = n_in s j }))
      go true = ok
      go false =
          record {
            some = (n_in_range j h).0;
            most = (n_in_range j h).1;
            sums = min-le_right (sum_in s j) (n_in s j * largest_residual);
          }

  pub sample_in_range : (j : ℕ) → j < 6 * W → stored_sample s j < 2 ^ bits
  unfolding bad_sample
  sample_in_range j h =
      leb-false (2 ^ bits) (stored_sample s j)
      (none_at (bad_sample bits s) (6 * W) j h (right (any_below 336 (bad_record s)) (any_below (6 * W) (bad_sample bits s)) both))
