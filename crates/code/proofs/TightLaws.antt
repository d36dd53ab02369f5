-- The bits of tight codes: how many they are, that they are read back with anything after them, and that a tight code which is read stands
-- there as its own bits. Assumes nothing.
use Rattle.std.proofs.Common.{◌≡◌, ℕ, ◌+◌, ◌-◌, ◌*◌, ◌/◌, ◌%◌, ◌^◌, ◌<◌, ◌≤◌, Bool, true, false, eqb, leb, List, ◌∷◌, ◌++◌, length, drop, replicate, sym, refl, ◌∙◌, subst, append_assoc, le_refl, mod-lt, arith, length-append, pow_pos, le-ltb, lt-ltb, eq-eqb, eqb-true, le-leb, leb-true}
use lib.ListN.{length-replicate}
use lib.Pow.{shr_le, split as digits, high, low}
use Rattle.bits.specs.Bits.{bits_at, zero_run}
use Rattle.bits.specs.BitLists.{binary, bits_of}
use Rattle.bits.proofs.BitLaws.{bits_at_lt}
use Rattle.bits.proofs.ListLaws.{length_binary, run_there, run_after, run_bits, bits_there, bits_after, bits_next}
use Rattle.numbers.proofs.BoolLaws.{both}
use Rattle.numbers.proofs.OrderLaws.{split}
use Rattle.code.specs.Codes.{short_code, long_code, code_at}
use Rattle.code.specs.Tight.{run_then, code_bits, is_tight}
use Rattle.code.specs.Inside.{code_length}
use Rattle.code.specs.declared.Code.{Code}
use Rattle.code.proofs.CodeLaws.{code_cases, code_short, code_long}
use Rattle.std.specs.Prelude.{Some}

-- the two forms, and their lengths
module _ (k limit raw c : ℕ) where
  pub bits_short : c / 2 ^ k < limit → code_bits k limit raw c ≡ run_then (c / 2 ^ k) k (c % 2 ^ k)
  unfolding code_bits
  bits_short h = rw (lt-ltb (c / 2 ^ k) limit h)

  bits_long : limit ≤ c / 2 ^ k → code_bits k limit raw c ≡ run_then limit raw (c - 1)
  unfolding code_bits
  bits_long h = rw (le-ltb (c / 2 ^ k) limit h)

  pub short_length : c / 2 ^ k < limit → code_length k limit raw c ≡ c / 2 ^ k + 1 + k
  unfolding code_length
  short_length h = rw (lt-ltb (c / 2 ^ k) limit h)

  pub long_length : limit ≤ c / 2 ^ k → code_length k limit raw c ≡ limit + 1 + raw
  unfolding code_length
  long_length h = rw (le-ltb (c / 2 ^ k) limit h)

length_run : (z n v : ℕ) → length (run_then z n v) ≡ z + 1 + n
length_run z n v = simp (length-append, length-replicate) (omega (arith, length_binary n v))

pub length_code_bits : (k limit raw c : ℕ) → length (code_bits k limit raw c) ≡ code_length k limit raw c
length_code_bits k limit raw c =
    split limit (c / 2 ^ k)
    (λ h. rw (bits_long k limit raw c h, long_length k limit raw c h) (length_run limit raw (c - 1)))
    (λ h. rw (bits_short k limit raw c h, short_length k limit raw c h) (length_run (c / 2 ^ k) k (c % 2 ^ k)))

-- a tight code is up to M
pub tight_small : (M : ℕ) (x : Code) → is_tight M x ≡ true → x.value ≤ M
unfolding is_tight
tight_small M x t = leb-true x.value M (both (leb x.value M) x.minimal t).0

-- where it is long, it has exactly limit zeros and does not fit the short form
pub tight_long : (M : ℕ) (s : List ℕ) (p k limit raw z : ℕ) → is_tight M (long_code s p k limit raw z) ≡ true
    → (z ≡ limit) × (limit ≤ (long_code s p k limit raw z).value / 2 ^ k)
unfolding is_tight
tight_long M s p k limit raw z t =
    let x : Code = long_code s p k limit raw z in
    let b = both (eqb z limit) (leb limit (x.value / 2 ^ k)) (both (leb x.value M) x.minimal t).1 in
    (eqb-true z limit b.0, leb-true limit (x.value / 2 ^ k) b.1)

-- a run of z and the number v in n bits stand at p, and rest follows them
record Found (s : List ℕ) (p z n v : ℕ) (rest : List Bool) : Type 0 where
  run : zero_run s p ≡ Some z
  bits : bits_at s (p + z + 1) n ≡ v
  after : drop (p + z + 1 + n) (bits_of s) ≡ rest

find : (s : List ℕ) (p z n v : ℕ) (rest : List Bool) → v < 2 ^ n → drop p (bits_of s) ≡ run_then z n v ++ rest → Found s p z n v rest
find s p z n v rest lt e =
    let f : drop p (bits_of s) ≡ replicate z false ++ true ∷ (binary n v ++ rest) = e ∙ append_assoc (replicate z false) (true ∷ binary n v) rest in
    let a = run_after s p z (binary n v ++ rest) f in
    record {
      run = run_there s p z (binary n v ++ rest) f;
      bits = bits_there s (p + z + 1) n v rest lt a;
      after = bits_after s (p + z + 1) n v rest a;
    }

-- the other way
standing : (s : List ℕ) (p z n : ℕ) → zero_run s p ≡ Some z → p + z + 1 + n ≤ 8 * length s
    → drop p (bits_of s) ≡ run_then z n (bits_at s (p + z + 1) n) ++ drop (p + z + 1 + n) (bits_of s)
standing s p z n run h =
    run_bits s p z run ∙ rw (bits_next s (p + z + 1) n h) (sym (append_assoc (replicate z false) (true ∷ binary n (bits_at s (p + z + 1) n)) (drop (p + z + 1 + n) (bits_of s))))

module _ (M : ℕ) (s : List ℕ) (p k limit raw : ℕ) where
  -- what is read where the bits of c stand, and rest after them
  pub record ReadBack (c : ℕ) (rest : List Bool) : Type 0 where
    pub code : Code
    pub read : code_at s p k limit raw ≡ Some code
    pub value : code.value ≡ c
    pub after : code.after.0 ≡ p + code_length k limit raw c
    pub tight : is_tight M code ≡ true
    pub rest_after : drop code.after.0 (bits_of s) ≡ rest

  back_short : (c : ℕ) (rest : List Bool) → c ≤ M → c / 2 ^ k < limit → Found s p (c / 2 ^ k) k (c % 2 ^ k) rest → ReadBack c rest
  unfolding is_tight
  back_short c rest h l f =
      let z : ℕ = c / 2 ^ k in
      let v : z * 2 ^ k + bits_at s (p + z + 1) k ≡ c = rw f.bits (digits c k) in
      record {
        code = short_code s p k z;
        read = code_short s p k limit raw z f.run l;
        value = v;
        after = omega (arith, short_length k limit raw c l);
        tight = rw (v, le-leb c M h);
        rest_after = f.after;
      }

  back_long : (c : ℕ) (rest : List Bool) → c ≤ M → 0 < limit → limit ≤ c / 2 ^ k → Found s p limit raw (c - 1) rest → ReadBack c rest
  unfolding is_tight
  back_long c rest h l u f =
      let v : bits_at s (p + limit + 1) raw + 1 ≡ c = rw f.bits (omega (arith, shr_le c k)) in
      record {
        code = long_code s p k limit raw limit;
        read = code_long s p k limit raw limit f.run (le_refl limit);
        value = v;
        after = omega (arith, long_length k limit raw c u);
        tight = rw (v, le-leb c M h, eq-eqb limit limit refl, le-leb limit (c / 2 ^ k) u);
        rest_after = f.after;
      }

  -- the bits of a code up to M are read as that code, which is tight
  pub read_back : 0 < limit → M ≤ 2 ^ raw → (c : ℕ) (rest : List Bool) → c ≤ M → drop p (bits_of s) ≡ code_bits k limit raw c ++ rest → ReadBack c rest
  read_back l m c rest h e =
      split limit (c / 2 ^ k)
      (λ u. back_long c rest h l u (find s p limit raw (c - 1) rest (omega (arith, shr_le c k)) (rw (bits_long k limit raw c u) at e)))
      (λ u. back_short c rest h u (find s p (c / 2 ^ k) k (c % 2 ^ k) rest (mod-lt c (pow_pos k)) (rw (bits_short k limit raw c u) at e)))

  -- what is known of a tight code that was read at p
  pub record Stands (x : Code) : Type 0 where
    pub there : drop p (bits_of s) ≡ code_bits k limit raw x.value ++ drop x.after.0 (bits_of s)
    pub small : x.value ≤ M
    pub after : x.after.0 ≡ p + code_length k limit raw x.value

  stands_short : (z : ℕ) → zero_run s p ≡ Some z → z < limit → (short_code s p k z).value ≤ M → p + z + 1 + k ≤ 8 * length s → Stands (short_code s p k z)
  stands_short z run l m i =
      let b : ℕ = bits_at s (p + z + 1) k in
      let lt : b < 2 ^ k = bits_at_lt s (p + z + 1) k in
      let hi : (z * 2 ^ k + b) / 2 ^ k ≡ z = high z k lt in
      let lo : (z * 2 ^ k + b) % 2 ^ k ≡ b = low z k lt in
      let short : (z * 2 ^ k + b) / 2 ^ k < limit = rw hi l in
      record {
        there = rw (bits_short k limit raw (z * 2 ^ k + b) short, hi, lo) (standing s p z k run i);
        small = m;
        after = omega (arith, short_length k limit raw (z * 2 ^ k + b) short);
      }

  stands_long : (z : ℕ) → zero_run s p ≡ Some z → z ≡ limit → limit ≤ (long_code s p k limit raw z).value / 2 ^ k → (long_code s p k limit raw z).value ≤ M
      → p + z + 1 + raw ≤ 8 * length s → Stands (long_code s p k limit raw z)
  stands_long z run e u m i =
      let b : ℕ = bits_at s (p + z + 1) raw in
      let one : b + 1 - 1 ≡ b = omega arith in
      record {
        there = rw (bits_long k limit raw (b + 1) u, ← e, one) (standing s p z raw run i);
        small = m;
        after = omega (arith, long_length k limit raw (b + 1) u);
      }

  -- a tight code that was read inside the block stands there as its own bits
  pub stands_there : (x : Code) → code_at s p k limit raw ≡ Some x → is_tight M x ≡ true → x.after.0 ≤ 8 * length s → Stands x
  stands_there x e t =
      code_cases s p k limit raw {X = Inside x → Stands x}
      (λ r g. let no : ◌≡◌ {A = ℕ} 0 1 = cc in absurd (omega arith))
      (λ z r h g.
      let is : short_code s p k z ≡ x = cc in
      subst (λ (y : Code). is_tight M y ≡ true → Inside y → Stands y) is
      (λ a i. stands_short z r h (tight_small M (short_code s p k z) a) i) t)
      (λ z r h g.
      let is : long_code s p k limit raw z ≡ x = cc in
      subst (λ (y : Code). is_tight M y ≡ true → Inside y → Stands y) is
      (λ a i. let l = tight_long M s p k limit raw z a in stands_long z r l.0 l.1 (tight_small M (long_code s p k limit raw z) a) i) t)
    where
      Inside : Code → Type 0
      Inside y = y.after.0 ≤ 8 * length s
