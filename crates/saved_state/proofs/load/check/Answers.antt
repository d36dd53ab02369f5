-- `saved_state::load::check` meets its contract, by its two tests. Assumes nothing.
use mathlib.Core.Bool.{Bool, true, false}
use mathlib.Core.List.{List}
use mathlib.Core.Path.{◌≡◌}
use Prim.Native.Nat.{ℕ}
use native.Mathlib.Omega.{arith}
use Rattle.saved_state.specs.Checkpoints.{be_at, bad_checkpoint, other_checkpoint, checked_of}
use Rattle.saved_state.proofs.load.check.Goals as goal
use Rattle.std.specs.Prelude.{Err, Ok}
use Rattle.stream.specs.declared.header.Refusal.TheVariants.{BadState}
use Rattle.stream.specs.declared.header.Refusal.TheVariants.{OtherState}

module _ (W bits lines bytes : ℕ) (d : List ℕ) (block : ℕ) (s : List ℕ) where
  bad : (t : Bool) → t ≡ bad_checkpoint W bits lines bytes s → t ≡ true → Err BadState ≡ checked_of W bits lines bytes d block s
  unfolding checked_of
  bad t e f = rw (← e, f)

  other : (t u : Bool) → t ≡ bad_checkpoint W bits lines bytes s → t ≡ false → u ≡ other_checkpoint d block s → u ≡ true
      → Err OtherState ≡ checked_of W bits lines bytes d block s
  unfolding checked_of
  other t u e f g h = rw (← e, f, ← g, h)

  good : (t u : Bool) (next at : ℕ) → t ≡ bad_checkpoint W bits lines bytes s → t ≡ false → u ≡ other_checkpoint d block s → u ≡ false
      → next ≡ be_at s 17 2 → at ≡ be_at s 19 8 → Ok (next, at) ≡ checked_of W bits lines bytes d block s
  unfolding checked_of
  good t u next at e f g h k m = rw (← e, f, ← g, h, k, m)

pub returns-then-is_bad : goal.returns-then-is_bad
returns-then-is_bad c = bad _ _ _ _ _ _ _ _ c.is_bad.ensures.value c.if-is_bad.true

pub is_other-requires : goal.is_other-requires
is_other-requires c = let l = c.is_bad.ensures.s_len c.if-is_bad.false in omega arith

pub returns-then-is_other : goal.returns-then-is_other
returns-then-is_other c =
    other _ _ _ _ _ _ _ _ _ c.is_bad.ensures.value c.if-is_bad.false c.is_other.ensures c.if-is_other.true

pub be_at-requires : goal.be_at-requires
be_at-requires c = let l = c.is_bad.ensures.s_len c.if-is_bad.false in omega arith

pub be_at-requires-2 : goal.be_at-requires-2
be_at-requires-2 c = let l = c.is_bad.ensures.s_len c.if-is_bad.false in omega arith

pub returns : goal.returns
returns c =
    good _ _ _ _ _ _ _ _ _ _ _ c.is_bad.ensures.value c.if-is_bad.false c.is_other.ensures c.if-is_other.false c.be_at.ensures.0
    c.be_at-2.ensures.0

pub is_bad-requires : goal.is_bad-requires
is_bad-requires c = omega (arith, c.requires)
