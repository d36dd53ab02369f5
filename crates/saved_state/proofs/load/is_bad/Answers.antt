-- `saved_state::load::is_bad` meets its contract, by the first test that holds. Assumes nothing.
use borrow.Author.Tests.{eq-eqb, ne_eqb}
use mathlib.Core.Bool.{Bool, true, false, false≢true}
use mathlib.Core.List.{List}
use mathlib.Core.Path.{◌≡◌, sym}
use Prim.Native.Nat.{ℕ, ◌+◌, ◌*◌}
use lib.ListN.{length}
use native.Mathlib.Omega.{arith}
use Rattle.saved_state.specs.Checkpoints.{any_below, bad_place, bad_record, bad_sample, bad_checkpoint}
use Rattle.saved_state.proofs.load.is_bad.Goals as goal

abbrev Judged : Bool → ℕ → ℕ → ℕ → ℕ → List ℕ → Type 0
Judged r W bits lines bytes s = (r ≡ bad_checkpoint W bits lines bytes s) × (r ≡ false → length s ≡ 1707 + 12 * W)

module _ (W bits lines bytes : ℕ) (s : List ℕ) where
  no : {X : Type 0} → true ≡ false → X
  no e = absurd (false≢true (sym e))

  by_length : (length s ≡ 1707 + 12 * W → ⊥) → Judged true W bits lines bytes s
  unfolding bad_checkpoint
  by_length h = (rw (ne_eqb (length s) (1707 + 12 * W) h), no)

  module _ (h : length s ≡ 1707 + 12 * W) where
    by_place : (t : Bool) → t ≡ bad_place lines bytes s → t ≡ true → Judged true W bits lines bytes s
    unfolding bad_checkpoint
    by_place t e f = (rw (eq-eqb (length s) (1707 + 12 * W) h, ← e, f), no)

    by-record : (t u : Bool) → t ≡ bad_place lines bytes s → t ≡ false → u ≡ any_below 336 (bad_record s) → u ≡ true → Judged true W bits lines bytes s
    unfolding bad_checkpoint
    by-record t u e f g k = (rw (eq-eqb (length s) (1707 + 12 * W) h, ← e, f, ← g, k), no)

    by-sample : (t u r : Bool) → t ≡ bad_place lines bytes s → t ≡ false → u ≡ any_below 336 (bad_record s) → u ≡ false
        → r ≡ any_below (6 * W) (bad_sample bits s) → Judged r W bits lines bytes s
    unfolding bad_checkpoint
    by-sample t u r e f g k m = (rw (eq-eqb (length s) (1707 + 12 * W) h, ← e, f, ← g, k) m, λ q. h)

pub returns-then-s-b : goal.returns-then-s-b
returns-then-s-b c = record {
  value = (by_length c.args.b.w c.args.b.bits c.args.b.lines c.args.b.bytes c.args.s.now c.if-s-b.true).0;
  s_len = (by_length c.args.b.w c.args.b.bits c.args.b.lines c.args.b.bytes c.args.s.now c.if-s-b.true).1;
}

pub returns-then-is_bad_place : goal.returns-then-is_bad_place
returns-then-is_bad_place c = record {
  value = (by_place c.args.b.w c.args.b.bits c.args.b.lines c.args.b.bytes c.args.s.now c.if-s-b.false _ c.is_bad_place.ensures c.if-is_bad_place.true).0;
  s_len = (by_place c.args.b.w c.args.b.bits c.args.b.lines c.args.b.bytes c.args.s.now c.if-s-b.false _ c.is_bad_place.ensures c.if-is_bad_place.true).1;
}

pub returns-then-has_bad_record : goal.returns-then-has_bad_record
returns-then-has_bad_record c =
    record {
      value = (by-record c.args.b.w c.args.b.bits c.args.b.lines c.args.b.bytes c.args.s.now c.if-s-b.false _ _ c.is_bad_place.ensures c.if-is_bad_place.false c.has_bad_record.ensures
          c.if-has_bad_record.true).0;
      s_len = (by-record c.args.b.w c.args.b.bits c.args.b.lines c.args.b.bytes c.args.s.now c.if-s-b.false _ _ c.is_bad_place.ensures c.if-is_bad_place.false c.has_bad_record.ensures
          c.if-has_bad_record.true).1;
    }

pub returns : goal.returns
returns c =
    record {
      value = (by-sample c.args.b.w c.args.b.bits c.args.b.lines c.args.b.bytes c.args.s.now c.if-s-b.false _ _ _ c.is_bad_place.ensures c.if-is_bad_place.false c.has_bad_record.ensures
          c.if-has_bad_record.false c.has_bad_sample.ensures).0;
      s_len = (by-sample c.args.b.w c.args.b.bits c.args.b.lines c.args.b.bytes c.args.s.now c.if-s-b.false _ _ _ c.is_bad_place.ensures c.if-is_bad_place.false c.has_bad_record.ensures
          c.if-has_bad_record.false c.has_bad_sample.ensures).1;
    }

pub overflow_mul-b : goal.overflow_mul-b
overflow_mul-b c = omega (arith, c.requires)

pub overflow_add-b : goal.overflow_add-b
overflow_add-b c = omega (arith, c.requires)

pub is_bad_place-requires : goal.is_bad_place-requires
is_bad_place-requires c = omega (arith, c.requires)

pub has_bad_record-requires : goal.has_bad_record-requires
has_bad_record-requires c = omega (arith, c.requires)

pub has_bad_sample-requires : goal.has_bad_sample-requires
has_bad_sample-requires c = omega (arith, c.requires)
