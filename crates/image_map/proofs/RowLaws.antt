-- A row that is stored entry by entry, and where its samples stand. Assumes nothing.
use mathlib.Core.Bool.{Bool, true, false, cond, ◌&&◌}
use mathlib.Core.List.{List}
use mathlib.Core.Path.{◌≡◌, refl, ◌∙◌}
use Prim.Native.Nat.{ℕ, ◌+◌, ◌-◌, ◌*◌, ◌%◌, ◌≤◌, ◌<◌}
use native.Mathlib.Nat.{mod-lt}
use native.Mathlib.Omega.{arith}
use borrow.Author.Tests.{le-leb, lt-leb, lt-ltb, le-ltb}
use lib.Dec.{leb, ltb, lit<}
use lib.ListN.{length, get_or, set, length-set}
use lib.Seq.{get_or-set_same, get_or-set_other}
use Rattle.numbers.proofs.OrderLaws.{split}
use Rattle.image_map.specs.Places.{place_in, width_of}
use Rattle.image_map.specs.Rows.{InLines}
use Rattle.image_map.proofs.PlaceLaws.{place_lt}

-- the image after f left, f (left + 1), up to f (p - 1) were stored from `at` on
pub record Stored (f : ℕ → ℕ) (left p at : ℕ) (before after : List ℕ) : Type 0 where
  pub kept : length after ≡ length before
  pub entries : (i : ℕ) → get_or after i 0 ≡ cond (leb at i && ltb i (at + (p - left))) (f (left + (i - at))) (get_or before i 0)

-- the test, inside and outside
pub inside : (at n i : ℕ) → at ≤ i → i < at + n → leb at i && ltb i (at + n) ≡ true
inside at n i h k = rw (le-leb at i h, lt-ltb i (at + n) k)

pub outside : (at n i : ℕ) → (at ≤ i → i < at + n → ⊥) → leb at i && ltb i (at + n) ≡ false
outside at n i f =
    split at i
    (λ h. split (at + n) i (λ k. rw (le-leb at i h, le-ltb i (at + n) k)) (λ k. absurd (f h k)))
    (λ h. rw (lt-leb at i h))

pub stored_none : (f : ℕ → ℕ) (left at : ℕ) (before : List ℕ) → Stored f left left at before before
stored_none f left at before =
    record {
      kept = refl;
      entries = λ i. rw (outside at (left - left) i (λ h k. omega arith));
    }

module _ (f : ℕ → ℕ) (left p at v : ℕ) (before after : List ℕ) (F : Stored f left p at before after) (low : left ≤ p)
    (room : at + (p - left) < length before) (e : v ≡ f p) where
  more_here : (i : ℕ) → i ≡ at + (p - left)
      → get_or (set after (at + (p - left)) v) i 0 ≡ cond (leb at i && ltb i (at + (p + 1 - left))) (f (left + (i - at))) (get_or before i 0)
  more_here i h =
      let k : left + (i - at) ≡ p = omega arith in
      let s = get_or-set_same after (at + (p - left)) v 0 (rw F.kept room) in
      rw (inside at (p + 1 - left) i (omega arith) (omega arith), k, h) (s ∙ e)

  more_other : (i : ℕ) → (i ≡ at + (p - left) → ⊥) → leb at i && ltb i (at + (p - left)) ≡ leb at i && ltb i (at + (p + 1 - left))
      → get_or (set after (at + (p - left)) v) i 0 ≡ cond (leb at i && ltb i (at + (p + 1 - left))) (f (left + (i - at))) (get_or before i 0)
  more_other i h t = get_or-set_other after (at + (p - left)) i v 0 h ∙ F.entries i ∙ rw t

  before_it : (i : ℕ) → i < at + (p - left) → leb at i && ltb i (at + (p - left)) ≡ leb at i && ltb i (at + (p + 1 - left))
  before_it i h = rw (lt-ltb i (at + (p - left)) h, lt-ltb i (at + (p + 1 - left)) (omega arith))

  behind_it : (i : ℕ) → at + (p - left) < i → leb at i && ltb i (at + (p - left)) ≡ leb at i && ltb i (at + (p + 1 - left))
  behind_it i h = rw (le-ltb i (at + (p - left)) (omega arith), le-ltb i (at + (p + 1 - left)) (omega arith))

  pub stored_more : Stored f left (p + 1) at before (set after (at + (p - left)) v)
  stored_more =
      record {
        kept = length-set after (at + (p - left)) v ∙ F.kept;
        entries =
            λ i. split i (at + (p - left))
            (λ k. split (at + (p - left)) i
            (λ l. more_here i (omega arith))
            (λ l. more_other i (λ q. omega arith) (before_it i l)))
            (λ k. more_other i (λ q. omega arith) (behind_it i k));
      }

-- the sample of column q stands in the colour lines
pub index_lt : (xtrans : Bool) (W : ℕ) (starts : List ℕ) (q x c : ℕ) → c ≡ q % 6 → InLines W starts → W ≡ width_of xtrans → q < 768 → x ≡ place_in xtrans q
    → get_or starts c 0 + x < 18 * (W + 2)
index_lt xtrans W starts q x c ec S e hq ex =
    omega (arith, S c (rw ec (mod-lt q (lit< tt))), rw (← ex, ← e) at (place_lt xtrans q hq))
