-- Every sheet is whole. Assumes nothing.
use mathlib.Core.Bool.{Bool, true, false}
use mathlib.Core.List.{List, [], ◌∷◌}
use mathlib.Core.Logic.{◌⊎◌, inl, inr}
use mathlib.Core.Path.{◌≡◌, refl, sym, ap}
use Prim.Native.Nat.{ℕ, zero, suc, ◌*◌, ◌/◌, ◌^◌, ◌≤◌, ◌<◌}
use native.Mathlib.Nat.{mod-lt}
use native.Mathlib.Omega.{arith}
use lib.ListN.{length}
use lib.Pow.{pow_pos, pow_mono, shr_mono, split as digits}
use Rattle.numbers.proofs.OrderLaws.{split}
use Rattle.bits.specs.BitLists.{number_of}
use Rattle.bits.proofs.PackLaws.{number_lt}
use Rattle.short_codes.specs.Inside.{Bounded}
use Rattle.short_codes.specs.Sheets.{string_of, value_of, entry_of, count_of, entry_at}
use Rattle.short_codes.specs.Whole.{TightString, Stands, IsString, AllWhole}
use Rattle.short_codes.proofs.SheetLaws.{bounded, short_string, string_length, entry_is, counted, is_counted}

-- ---- lists of one length with one number are equal

same_number : (k : ℕ) (l m : List Bool) → length l ≡ k → length m ≡ k → number_of k l ≡ number_of k m → l ≡ m
unfolding number_of
same_number zero [] [] a b e = refl
same_number (suc k) [] m a b e = absurd (omega arith)
same_number zero (x ∷ l) m a b e = absurd (omega arith)
same_number zero [] (y ∷ m) a b e = absurd (omega arith)
same_number (suc k) (x ∷ l) [] a b e = absurd (omega arith)
same_number (suc k) (true ∷ l) (true ∷ m) a b e = ap (λ (r : List Bool). true ∷ r) (same_number k l m (omega arith) (omega arith) (omega arith))
same_number (suc k) (false ∷ l) (false ∷ m) a b e = ap (λ (r : List Bool). false ∷ r) (same_number k l m (omega arith) (omega arith) (omega arith))
same_number (suc k) (true ∷ l) (false ∷ m) a b e = absurd (omega (arith, number_lt k m))
same_number (suc k) (false ∷ l) (true ∷ m) a b e = absurd (omega (arith, number_lt k l))

-- ---- the order of entries

value_small : (n : ℕ) (l : List Bool) → n ≤ 16 → length l ≤ n → value_of l < 65536
value_small n l hn h = let p : 2 ^ length l ≤ 2 ^ 16 = pow_mono {j = 16} (omega arith) in omega (arith, number_lt (length l) l)

module _ (n : ℕ) (hn : n ≤ 16) (l m : List Bool) (hl : length l ≤ n) (hm : length m ≤ n) where
  ordered : entry_of l < entry_of m → (length l < length m) ⊎ ((length l ≡ length m) × (value_of l < value_of m))
  unfolding entry_of
  ordered h =
      let a = value_small n l hn hl in
      let b = value_small n m hn hm in
      split (length m) (length l) (λ u. inr (omega arith, omega arith)) (λ u. inl u)

  told_apart : entry_of l ≡ entry_of m → l ≡ m
  unfolding entry_of
  told_apart e =
      let a = value_small n l hn hl in
      let b = value_small n m hn hm in
      let same : length l ≡ length m = omega arith in
      let v : value_of l ≡ value_of m = omega arith in
      same_number (length m) l m same refl (rw same at v)

-- ---- the entries of codes

module _ (d k n : ℕ) (b : Bounded d k n) where
  few : (c : ℕ) → c < count_of d k n → c / 2 ^ k < 31
  few c h = omega (arith, b.n_high, counted d k n c h)

  rising : (i j : ℕ) → i < j → j < count_of d k n → entry_at d k i < entry_at d k j
  rising i j h hj =
      let hi : i < count_of d k n = omega arith in
      let p : 2 ^ k ≤ 2 ^ 15 = pow_mono b.k_high in
      let mi = mod-lt i (pow_pos k) in
      let ei = digits i k in
      let ej = digits j k in
      let le : i / 2 ^ k ≤ j / 2 ^ k = shr_mono k (omega arith) in
      rw (entry_is d k i b.depth_low (few i hi), entry_is d k j b.depth_low (few j hj))
      (split (j / 2 ^ k) (i / 2 ^ k)
      (λ u. let q : i / 2 ^ k ≡ j / 2 ^ k = omega arith in let r : i / 2 ^ k * 2 ^ k ≡ j / 2 ^ k * 2 ^ k = rw q in omega arith)
      (λ u. omega arith))

  complete : (l : List Bool) → TightString d k l → length l ≤ n → Stands d k n l
  complete l t h =
      let c : ℕ = t.code in
      let g : length (string_of d k c) ≤ n = rw t.bits at h in
      let s : c / 2 ^ k < 31 = short_string d k c b.depth_low (omega (arith, b.n_high)) in
      record {
        index = c;
        inside = is_counted d k n c (omega (arith, string_length d k c b.depth_low s)) t.small;
        there = ap entry_of (sym t.bits);
      }

  sound : (i : ℕ) → i < count_of d k n → IsString d k n i
  sound i h =
      let t = counted d k n i h in
      record {
        string = string_of d k i;
        tight = record { code = i; small = t.1; bits = refl };
        short = omega (arith, string_length d k i b.depth_low (few i h));
        there = refl;
      }

pub whole : AllWhole
whole d k n e =
    let b = bounded d k n e in
    record {
      complete = complete d k n b;
      sound = sound d k n b;
      rising = rising d k n b;
      ordered = ordered n b.n_high;
      told_apart = told_apart n b.n_high;
    }
