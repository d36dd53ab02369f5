-- Lists that are put over others, and the twelve colour lines. Assumes nothing.
use mathlib.Core.List.{List, [], ◌∷◌, ◌++◌, append_assoc}
use mathlib.Core.Path.{◌≡◌, refl, sym, ap, ◌∙◌}
use Prim.Native.Nat.{ℕ, zero, suc, ◌+◌, ◌-◌, ◌*◌, ◌≤◌, ◌<◌}
use native.Mathlib.Nat.{mul-le-mul_right}
use native.Mathlib.Numerals.{add-one}
use native.Mathlib.Omega.{arith}
use lib.ListN.{length, get_or, set, take, drop, length-append, length-take, length-drop, take-append-drop}
use Rattle.std.proofs.lemmas.Grind.{common_steps}
use lib.Seq.{set_split, take-suc, take_at, drop-append-add, drop-drop, get_or-drop, length-take-le}
use borrow.Author.Tests.{lt-ltb, le-ltb, eq-eqb, ne_eqb}
use Rattle.image_map.specs.Places.{width_of}
use Rattle.stream.specs.declared.header.FujiHeader.{FujiHeader}
use Rattle.stream.specs.declared.header.Refusal.{Refusal}
use Rattle.stream.specs.declared.header.Refusal.TheVariants.{NoBlock, WrongCount}
use Rattle.stream.specs.Streams.{open_of}
use Rattle.admission.specs.Beginnings.{with_scratch}
use Rattle.colour_lines.proofs.LineLaws.{line_inside}
use Rattle.colour_lines.specs.Sets.{set_size, line_of_rank}
use Rattle.pass_schedule.specs.Steps.{upto}
use Rattle.read_set.specs.HandedSets.{put_over, set_begins}
use Rattle.read_set.specs.Inside.{twelve}
use Rattle.std.specs.Prelude.{Err, Ok, Result}

pub put_none : (d : List ℕ) (at : ℕ) → d ≡ put_over d at []
put_none d at = let z : at + 0 ≡ at = omega arith in rw z (sym (take-append-drop at d))

module _ (d : List ℕ) (at : ℕ) (s : List ℕ) (fits : at + length s ≤ length d) where
  head : List ℕ
  head = take at d ++ s

  head_long : length (take at d ++ s) ≡ at + length s
  head_long = length-append (take at d) s ∙ rw (length-take-le at d (omega arith))

  joined : put_over d at s ≡ (take at d ++ s) ++ drop (at + length s) d
  joined = sym (append_assoc (take at d) s (drop (at + length s) d))

  pub put_length : length (put_over d at s) ≡ length d
  put_length =
      ap length joined ∙ length-append (take at d ++ s) (drop (at + length s) d) ∙ rw (head_long, length-drop (at + length s) d) (omega arith)

  -- what is put straight behind it
  pub put_next : (t : List ℕ) → put_over (put_over d at s) (at + length s) t ≡ put_over d at (s ++ t)
  put_next t =
      let front : take (at + length s) (put_over d at s) ≡ take at d ++ s =
      ap (take (at + length s)) joined ∙ take_at (take at d ++ s) (drop (at + length s) d) (at + length s) head_long in
      let behind : drop (at + length s + length t) (put_over d at s) ≡ drop (at + (length s + length t)) d =
      ap (drop (at + length s + length t)) joined
      ∙ (rw head_long at (drop-append-add (take at d ++ s) (drop (at + length s) d) (length t)))
      ∙ drop-drop (length t) (at + length s) d ∙ (let n : at + length s + length t ≡ at + (length s + length t) = omega arith in ap
      (λ (n : ℕ). drop n d) n) in
      rw (front, behind) (append_assoc (take at d) s (t ++ drop (at + (length s + length t)) d)
      ∙ rw (length-append s t) (ap (λ (l : List ℕ). take at d ++ l) (sym (append_assoc s t (drop (at + (length s + length t)) d)))))

pub put_after : (d : List ℕ) (at : ℕ) (s t : List ℕ) (n : ℕ) → length s ≡ n → at + length s ≤ length d → put_over (put_over d at s) (at + n) t ≡ put_over
    d at (s ++ t)
put_after d at s t n e fits = ap (λ (m : ℕ). put_over (put_over d at s) (at + m) t) (sym e) ∙ put_next d at s fits t

-- a store is one sample put
pub set_put : (l : List ℕ) (i v : ℕ) → i < length l → set l i v ≡ put_over l i (v ∷ [])
set_put l i v h = set_split l i v h ∙ rw (← (add-one i))

-- a copy: one sample more
pub copy_more : (d from : List ℕ) (start at n j : ℕ) → at + n ≤ length from → start + n ≤ length d → j < n
    → set (put_over d start (take j (drop at from))) (start + j) (get_or from (at + j) 0) ≡ put_over d start (take (j + 1) (drop at from))
copy_more d from start at n j hf hd hj =
    let x : List ℕ = drop at from in
    let long : length x ≡ length from - at = length-drop at from in
    let taken : length (take j x) ≡ j = length-take-le j x (omega arith) in
    let fits : start + length (take j x) ≤ length d = omega arith in
    let inside : start + j < length (put_over d start (take j x)) = omega (arith, put_length d start (take j x) fits) in
    set_put (put_over d start (take j x)) (start + j) (get_or from (at + j) 0) inside
    ∙ put_after d start (take j x) (get_or from (at + j) 0 ∷ []) j taken fits
    ∙ ap (λ (l : List ℕ). put_over d start l) (one_more x at from j refl (omega arith))
  where
    one_more : (x : List ℕ) (at : ℕ) (from : List ℕ) (j : ℕ) → x ≡ drop at from → j < length x → take j x ++ get_or from (at + j) 0 ∷ [] ≡ take (j + 1) x
    one_more x at from j e l =
        ap (λ (v : ℕ). take j x ++ v ∷ []) (sym (ap (λ (y : List ℕ). get_or y j 0) e ∙ get_or-drop at from j 0)) ∙ sym (take-suc x j 0 l) ∙ ap
        (λ (m : ℕ). take m x) (sym (add-one j))

-- ---- the twelve colour lines

abbrev pub colour : ℕ → List ℕ → ℕ → List ℕ
colour w lines c = take w (drop (line_of_rank c * (w + 2) + 1) lines)

pub rank_small : (c : ℕ) → c < 12 → line_of_rank c ≤ 17
unfolding line_of_rank
rank_small c h = grind (arith, common_steps)

module _ (w : ℕ) (lines : List ℕ) (long : length lines ≡ 18 * (w + 2)) where
  pub colours_long : (c : ℕ) → c ≤ 12 → length (upto (colour w lines) c) ≡ c * w
  unfolding upto
  colours_long zero h = omega arith
  colours_long (suc c) h =
      let m = line_inside w (line_of_rank c) (rank_small c (omega arith)) in
      let one : length (colour w lines c) ≡ w = simp (length-take, length-drop) (omega arith) in
      length-append (upto (colour w lines) c) (colour w lines c) ∙ rw (colours_long c (omega arith), one) (omega arith)

  -- one colour line more
  pub colour_more : (d set' : List ℕ) (first c : ℕ) → c < 12 → first + 12 * w ≤ length d
      → set' ≡ put_over (put_over d first (upto (colour w lines) c)) (first + c * w) (colour w lines c) → set' ≡ put_over d first (upto (colour w lines) (c + 1))
  unfolding upto
  colour_more d set' first c h room e =
      let n = colours_long c (omega arith) in
      let m : c * w ≤ 12 * w = mul-le-mul_right w (omega arith) in
      e ∙ put_after d first (upto (colour w lines) c) (colour w lines c) (c * w) n (omega arith) ∙ rw (add-one c)

-- as the program finds it
pub colour_step : (w : ℕ) (lines d set set' : List ℕ) (first c l : ℕ) → length lines ≡ 18 * (w + 2) → l ≡ line_of_rank c → c < 12 → first + 12 * w ≤ length d
    → set ≡ put_over d first (upto (colour w lines) c) → set' ≡ put_over set (first + c * w) (take w (drop (l * (w + 2) + 1) lines))
    → (length set' ≡ length d) × (set' ≡ put_over d first (upto (colour w lines) (c + 1)))
colour_step w lines d set set' first c l long el h room es e =
    let is : set' ≡ put_over d first (upto (colour w lines) (c + 1)) = colour_more w lines long d set' first c h room (e ∙ rw (es, el)) in
    let m : (c + 1) * w ≤ 12 * w = mul-le-mul_right w (omega arith) in
    (ap length is ∙ put_length d first (upto (colour w lines) (c + 1)) (omega (arith, colours_long w lines long (c + 1) (omega arith))), is)

pub all_twelve : (w : ℕ) (lines d set' : List ℕ) (first : ℕ) → set' ≡ put_over d first (upto (colour w lines) 12) → set' ≡ put_over d first (twelve w lines)
unfolding twelve
all_twelve w lines d set' first e = e

-- ---- how a call begins

module _ (d : List ℕ) (b count samples records : ℕ) (p : Result FujiHeader Refusal) (opens : p ≡ open_of d) where
  pub begins_refused : (x : Refusal) → p ≡ Err x → Err x ≡ set_begins d b count samples records
  unfolding set_begins
  begins_refused x e = let f : open_of d ≡ Err x = sym opens ∙ e in rw f

  module _ (h : FujiHeader) (e : p ≡ Ok h) where
    is : open_of d ≡ Ok h
    is = sym opens ∙ e

    pub begins_no_block : h.blocks ≤ b → Err NoBlock ≡ set_begins d b count samples records
    unfolding set_begins
    begins_no_block k = rw (is, le-ltb b h.blocks k)

    pub begins_wrong : (n : ℕ) → n ≡ set_size (width_of h.xtrans) h.lines → b < h.blocks → (count ≡ n → ⊥) → Err WrongCount ≡
        set_begins d b count samples records
    unfolding set_begins
    begins_wrong n en k ne = rw (is, lt-ltb b h.blocks k, ← en, ne_eqb count n ne)

    pub begins_on : (n : ℕ) (r : Result FujiHeader Refusal) → n ≡ set_size (width_of h.xtrans) h.lines → b < h.blocks → count ≡ n → r ≡ with_scratch h samples records
        → r ≡ set_begins d b count samples records
    unfolding set_begins
    begins_on n r en k f er = er ∙ rw (is, lt-ltb b h.blocks k, ← en, eq-eqb count n f)
