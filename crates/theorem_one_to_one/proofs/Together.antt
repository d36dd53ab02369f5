-- What it means that reading and writing go together: bits at the start of a block, clean readings, and the writing that goes with one. Assumes nothing.
use mathlib.Core.Bool.{Bool, true}
use mathlib.Core.List.{List, ◌++◌, append_assoc}
use mathlib.Core.Path.{◌≡◌, refl, sym, ap, ◌∙◌}
use Prim.Native.Nat.{ℕ, ◌+◌, ◌*◌, ◌≤◌}
use native.Mathlib.Omega.{arith}
use lib.ListN.{length, take, drop, length-append, length-drop, take-append-drop}
use lib.Seq.{drop_at, take_at, length-take-le}
use Rattle.bits.specs.BitLists.{bits_of}
use Rattle.bits.proofs.ListLaws.{length_bits}
use Rattle.quantiser.specs.Quantisers.{largest}
use Rattle.read_pass.specs.Readings.{Reading, and_then}
use Rattle.pass_steps.proofs.ContextLaws.{AllLe}
use Rattle.write_pass.specs.Writings.{Writing}
use Rattle.std.specs.Prelude.{None, Option, Some}

-- ---- bits

-- the bits l stand at the start of the bytes s
abbrev pub Starts : List ℕ → List Bool → Type 0
Starts s l = bits_of s ≡ l ++ drop (length l) (bits_of s)

-- bits that are followed by others
pub starts_cut : (s : List ℕ) (l m : List Bool) → Starts s (l ++ m) → Starts s l
starts_cut s l m e =
    let f : bits_of s ≡ l ++ (m ++ drop (length (l ++ m)) (bits_of s)) = e ∙ append_assoc l m (drop (length (l ++ m)) (bits_of s)) in
    f ∙ ap (λ (r : List Bool). l ++ r) (sym (ap (drop (length l)) f ∙ drop_at l (m ++ drop (length (l ++ m)) (bits_of s)) (length l) refl))

-- where the bits up to p and then m stand at the start, m stands at p
pub starts_at : (s : List ℕ) (p : ℕ) (m : List Bool) → p ≤ 8 * length s → Starts s (take p (bits_of s) ++ m)
    → drop p (bits_of s) ≡ m ++ drop (p + length m) (bits_of s)
starts_at s p m h e =
    let B : List Bool = bits_of s in
    let n : length (take p B) ≡ p = length-take-le p B (rw (length_bits s) h) in
    let q : length (take p B ++ m) ≡ p + length m = rw (length-append (take p B) m, n) in
    let f : B ≡ take p B ++ (m ++ drop (p + length m) B) = (rw q at e) ∙ append_assoc (take p B) m (drop (p + length m) B) in
    ap (drop p) f ∙ drop_at (take p B) (m ++ drop (p + length m) B) p n

-- and it ends inside
pub within : (s : List ℕ) (p : ℕ) (m : List Bool) → p ≤ 8 * length s → drop p (bits_of s) ≡ m ++ drop (p + length m) (bits_of s) → p + length m ≤ 8 * length s
within s p m h e = omega (arith, length_bits s, simp (length-drop, length-append) at (ap length e))

-- where m stands at p, up to q, the bits up to q are those up to p and m
pub taken_more : (s : List ℕ) (p q : ℕ) (m : List Bool) → p ≤ 8 * length s → q ≡ p + length m → drop p (bits_of s) ≡ m ++ drop q (bits_of s)
    → take q (bits_of s) ≡ take p (bits_of s) ++ m
taken_more s p q m h e d =
    let B : List Bool = bits_of s in
    let n : length (take p B) ≡ p = length-take-le p B (rw (length_bits s) h) in
    let l : length (take p B ++ m) ≡ q = rw (length-append (take p B) m, n, e) in
    let f : B ≡ (take p B ++ m) ++ drop q B = sym (take-append-drop p B) ∙ ap (λ (r : List Bool). take p B ++ r) d ∙ sym (append_assoc (take p B) m (drop q B)) in
    ap (take q) f ∙ take_at (take p B ++ m) (drop q B) q l

-- ---- what goes with what

-- a reading of the bytes s that has read tight codes alone, and no bit past the end
pub record Clean (s : List ℕ) (at : ℕ) (verdict : Bool) : Type 0 where
  pub tight : verdict ≡ true
  pub inside : at ≤ 8 * length s

-- a writing whose bits stand at the start of s, with each interpolated sample its prediction
pub record Stored (s : List ℕ) (l : List Bool) (wrong : Option ℕ) : Type 0 where
  pub starts : Starts s l
  pub right : wrong ≡ None

-- a writing of which others were written before
pub stored_cut : (s : List ℕ) (l m : List Bool) (o p : Option ℕ) → Stored s (l ++ m) o → (o ≡ None → p ≡ None) → Stored s l p
stored_cut s l m o p h f = record { starts = starts_cut s l m h.starts; right = f h.right }

-- colour lines of the right length, with samples in 0..M
pub record Sound (bits W : ℕ) (lines : List ℕ) : Type 0 where
  pub long : length lines ≡ 18 * (W + 2)
  pub small : AllLe (largest bits) lines

-- the writing that goes with a clean reading of s
abbrev pub writing_of : List ℕ → Reading → Writing
writing_of s r = record { lines = r.lines; set = r.set; bits = take r.at.0 (bits_of s); wrong = None }

abbrev pub CleanReading : List ℕ → Reading → Type 0
CleanReading s r = Clean s r.at.0 r.tight

abbrev pub StoredWriting : List ℕ → Writing → Type 0
StoredWriting s w = Stored s w.bits w.wrong

-- ---- a reading and a writing that go together

module _ {A B : Type 0} (IsClean : A → Type 0) (to : A → B) where
  -- f reads from r to z, cleanly, and g writes what goes with it
  pub record Together (f : A → Option A) (g : B → B) (r z : A) : Type 0 where
    pub read : f r ≡ Some z
    pub clean : IsClean z
    pub same : g (to r) ≡ to z

  -- a reading from r to z was clean, and g writes what goes with it
  pub record Back (g : B → B) (r z : A) : Type 0 where
    pub clean : IsClean r
    pub same : g (to r) ≡ to z

  -- one after the other
  pub together_then : (f h : A → Option A) (g k : B → B) (r y z : A) → Together f g r y → Together h k y z → Together (λ a. and_then (f a) h) (λ b. k (g b)) r z
  unfolding and_then
  together_then f h g k r y z S T = record { read = rw S.read T.read; clean = T.clean; same = rw S.same T.same }

  pub back_then : (g k : B → B) (r y z : A) → Back g r y → Back k y z → Back (λ b. k (g b)) r z
  back_then g k r y z S T = record { clean = S.clean; same = rw S.same T.same }
