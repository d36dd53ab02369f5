-- The bytes of a plan's lines, record after record. Assumes nothing.
use mathlib.Core.List.{List}
use mathlib.Core.Path.{◌≡◌, refl, sym, ◌∙◌}
use Prim.Native.Nat.{ℕ, ◌+◌, ◌-◌, ◌≤◌, ◌<◌}
use borrow.Rule.Slice.PartMut.{put_mid}
use Rattle.std.proofs.lemmas.Grind.{common_steps}
use lib.ListN.{length, replicate}
use native.Mathlib.Numerals.{add-one}
use native.Mathlib.Omega.{arith}
use lib.Dec.{leb, ltb}
use borrow.Author.Tests.{lt-ltb, le-ltb, le-leb, lt-leb}
use Rattle.numbers.proofs.OrderLaws.{split}
use Rattle.base_plan.specs.Records.{first_line, last_line, base_at, start_of, holds, base_for}
use Rattle.base_plan.specs.Readings.{Filled, Written}

below_next : (n last : ℕ) → ltb n (last + 1) ≡ leb n last
below_next n last =
    split n last (λ a. lt-ltb n (last + 1) (omega arith) ∙ sym (le-leb n last a)) (λ a. le-ltb n (last + 1) (omega arith) ∙ sym (lt-leb n last a))

pub written_none : (d l : List ℕ) → Written d 0 l l
unfolding base_for
written_none d l = record { as_long = refl; bytes = λ n. refl }

pub written_more : (d l₀ l l' : List ℕ) (m at first last base : ℕ) → at ≡ start_of d m → first ≡ first_line d at → last ≡ last_line d at → base ≡ base_at d at
    → Written d m l₀ l → Filled first (last + 1) base l l' → Written d (m + 1) l₀ l'
unfolding base_for holds
written_more d l₀ l l' m at first last base e ef el eb w f =
    record {
      as_long = f.as_long ∙ w.as_long;
      bytes = λ n. f.bytes n ∙ rw (below_next n last, w.bytes n, add-one m, ← e, ← ef, ← el, ← eb);
    }

-- the bytes of lines first to last, once they are filled
filled_from : (first n base : ℕ) (l y : List ℕ) → first + n ≤ length l → y ≡ replicate n base → Filled first (first + n) base l (put_mid first n l y)
filled_from first n base l y h e = record { as_long = grind (arith, common_steps); bytes = λ i. grind (arith, common_steps) }

pub filled_now : (first last base : ℕ) (l y : List ℕ) → first ≤ last → last < length l → y ≡ replicate (last + 1 - first) base
    → Filled first (last + 1) base l (put_mid first (last + 1 - first) l y)
filled_now first last base l y a b e =
    let k : first + (last + 1 - first) ≡ last + 1 = omega arith in
    rw k at (filled_from first (last + 1 - first) base l y (omega arith) e)
