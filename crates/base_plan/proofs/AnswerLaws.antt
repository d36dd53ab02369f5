-- The answer of a plan, case by case. Assumes nothing.
use mathlib.Core.Bool.{Bool, true, false}
use mathlib.Core.List.{List}
use mathlib.Core.Path.{◌≡◌, refl, ap, ◌∙◌}
use Prim.Native.Nat.{ℕ, ◌+◌, ◌-◌, ◌≤◌, ◌<◌}
use lib.ListN.{length}
use borrow.Author.Tests.{lt-ltb, le-ltb}
use Rattle.numbers.proofs.LeastLaws.{least_same}
use Rattle.stream.specs.declared.header.Refusal.{Refusal}
use Rattle.stream.specs.declared.header.Refusal.TheVariants.{BadRecord, HeldTwice, NotHeld}
use Rattle.base_plan.specs.Records.{start_of, good_records, holders}
use Rattle.base_plan.specs.Counts.{is_amiss}
use Rattle.base_plan.specs.Inside.{sum_before, Marked, amiss_in}
use Rattle.base_plan.specs.Plans.{first_amiss, plan_answer, BasesAfter}
use Rattle.base_plan.specs.Readings.{Written}
use Rattle.base_plan.proofs.RecordLaws.{good_order, good_below}
use Rattle.base_plan.proofs.CountLaws.{Forward, held_is}
use Rattle.std.specs.Prelude.{Err, Ok, Result}

pub forward : (d : List ℕ) (lines m : ℕ) → m ≡ good_records d lines → Forward d m
forward d lines m e k h = good_order d lines (start_of d k) (good_below d lines k (rw e at h))

-- the lowest line that is amiss, by the counts
pub amiss_is : (twice : Bool) (d : List ℕ) (lines m : ℕ) (begins ends : List ℕ) → m ≡ good_records d lines → Marked d m begins ends
    → amiss_in twice begins ends lines ≡ first_amiss twice d lines m
unfolding amiss_in first_amiss
amiss_is twice d lines m begins ends e k =
    least_same lines (λ n. is_amiss twice (sum_before begins (n + 1) - sum_before ends (n + 1))) (λ n. is_amiss twice (holders d n m)) 0
    (λ n. ap (is_amiss twice) (held_is d m begins ends (forward d lines m e) k n))

module _ (d bases : List ℕ) where
  -- what is promised of an answer and the bytes after it
  abbrev pub Promised : Result Unit Refusal → List ℕ → Type 0
  Promised r bases' = (r ≡ plan_answer d (length bases)) × BasesAfter d bases bases' r

  pub unchanged : (x : Refusal) → BasesAfter d bases bases (Err x)
  unchanged x = record { as_long = refl; bytes = λ n h. refl }

  module _ (m : ℕ) (e : m ≡ good_records d (length bases)) where
    pub bad_record_lem : start_of d m < length d → Promised (Err (BadRecord (m + 1))) bases
    unfolding plan_answer
    bad_record_lem h = (rw (← e, lt-ltb (start_of d m) (length d) h), unchanged _)

    module _ (whole : length d ≤ start_of d m) (t : ℕ) (et : t ≡ first_amiss true d (length bases) m) where
      pub held_twice : t < length bases → Promised (Err (HeldTwice t)) bases
      unfolding plan_answer
      held_twice h = (rw (← e, le-ltb (start_of d m) (length d) whole, ← et, lt-ltb t (length bases) h), unchanged _)

      module _ (ok : length bases ≤ t) (u : ℕ) (eu : u ≡ first_amiss false d (length bases) m) where
        pub not_held : u < length bases → Promised (Err (NotHeld u)) bases
        unfolding plan_answer
        not_held h = (rw (← e, le-ltb (start_of d m) (length d) whole, ← et, le-ltb t (length bases) ok, ← eu, lt-ltb u (length bases) h), unchanged _)

        pub accepted : length bases ≤ u → (bases' : List ℕ) → Written d m bases bases' → Promised (Ok tt) bases'
        unfolding plan_answer
        accepted h bases' w = (
          rw (← e, le-ltb (start_of d m) (length d) whole, ← et, le-ltb t (length bases) ok, ← eu, le-ltb u (length bases) h),
          record { as_long = w.as_long; bytes = λ n i. w.bytes n ∙ rw e },
        )
