-- Where samples are after lines were moved or turned, and after guards were set. Place d of line l is at l·(W + 2) + d; 0 and W + 1 are its
-- guards. Assumes nothing.
use mathlib.Core.List.{List, ◌++◌}
use mathlib.Core.Logic.{◌≢◌}
use mathlib.Core.Path.{◌≡◌, sym, ap, ◌∙◌}
use Prim.Native.Nat.{ℕ, ◌+◌, ◌-◌, ◌*◌, ◌/◌, ◌%◌, ◌≤◌, ◌<◌}
use native.Mathlib.Nat.{mul-le-mul_right}
use native.Mathlib.Omega.{arith}
use lib.Arith.{digits_div, digits_mod}
use lib.ListN.{length, get_or, take, drop, length-set, length-drop, get_or-append}
use lib.Seq.{paste, take-paste, length-take-le, get_or-take, get_or-drop, get_or-append-add, get_or-set_same, get_or-set_other}
use Rattle.colour_lines.specs.ColourLines.{left_guard, guarded, moved, turned}
use Rattle.colour_lines.specs.Inside.{shifted}
use Rattle.colour_lines.proofs.LineLaws.{after_paste, apart, length_moved}

-- two places: their lines, and where they are in them
pub place_is : (W l a m b : ℕ) → a < W + 2 → b < W + 2 → l * (W + 2) + a ≡ m * (W + 2) + b → (l ≡ m) × (a ≡ b)
place_is W l a m b ha hb e = (
  sym (digits_div l ha) ∙ ap (λ (z : ℕ). z / (W + 2)) e ∙ digits_div m hb,
  sym (digits_mod l ha) ∙ ap (λ (z : ℕ). z % (W + 2)) e ∙ digits_mod m hb,
)

-- ---- a copy

module _ (d s : List ℕ) (at n : ℕ) (hd : at ≤ length d) (hs : n ≤ length s) where
  head_at : (i : ℕ) → i < at + n → get_or (paste d at s n) i 0 ≡ get_or (take at d ++ take n s) i 0
  head_at i h = sym (get_or-take (at + n) (paste d at s n) i 0 h) ∙ ap (λ (l : List ℕ). get_or l i 0) (take-paste d at s n hd hs)

  -- what lies before it is as it was
  before_paste : (i : ℕ) → i < at → get_or (paste d at s n) i 0 ≡ get_or d i 0
  before_paste i h =
      head_at i (omega arith) ∙ get_or-append (take at d) (take n s) 0 i (omega (arith, length-take-le at d hd)) ∙ get_or-take at d i 0 h

  in_paste : (j : ℕ) → j < n → get_or (paste d at s n) (at + j) 0 ≡ get_or s j 0
  in_paste j h =
      head_at (at + j) (omega arith)
      ∙ (rw (length-take-le at d hd) at (get_or-append-add (take at d) (take n s) j 0))
      ∙ get_or-take n s j 0 h

-- ---- a line that is moved

module _ (W from to : ℕ) (lines : List ℕ) (up : to < from) (long : (from + 1) * (W + 2) ≤ length lines) where
  abbrev end : to * (W + 2) + (W + 2) ≤ from * (W + 2)
  end = apart W from to up

  abbrev inside : from * (W + 2) + (W + 2) ≤ length lines
  inside = omega (arith, long)

  -- it is there
  pub moved_there : (d : ℕ) → d < W + 2 → get_or (moved W from to lines) (to * (W + 2) + d) 0 ≡ get_or lines (from * (W + 2) + d) 0
  unfolding moved
  moved_there d h =
      in_paste lines (drop (from * (W + 2)) lines) (to * (W + 2)) (W + 2) (omega (arith, end, inside)) (omega (arith, length-drop (from * (W + 2)) lines, inside)) d h
      ∙ get_or-drop (from * (W + 2)) lines d 0

  -- lines further up and further down are as they were
  pub moved_above : (l d : ℕ) → l < to → d < W + 2 → get_or (moved W from to lines) (l * (W + 2) + d) 0 ≡ get_or lines (l * (W + 2) + d) 0
  unfolding moved
  moved_above l d k h =
      before_paste lines (drop (from * (W + 2)) lines) (to * (W + 2)) (W + 2) (omega (arith, end, inside)) (omega (arith, length-drop (from * (W + 2)) lines, inside))
      (l * (W + 2) + d) (omega (arith, apart W to l k))

  pub moved_below : (l d : ℕ) → to < l → get_or (moved W from to lines) (l * (W + 2) + d) 0 ≡ get_or lines (l * (W + 2) + d) 0
  unfolding moved
  moved_below l d k =
      after_paste lines (drop (from * (W + 2)) lines) (to * (W + 2)) (W + 2) (l * (W + 2) + d) (omega (arith, end, inside)) (omega (arith, length-drop (from * (W + 2)) lines, inside))
      (omega (arith, apart W l to k))

-- ---- windows: the two lines before a new one go one further up

module _ (W l : ℕ) (lines : List ℕ) (low : 2 ≤ l) (long : (l + 1) * (W + 2) ≤ length lines) (d : ℕ) (h : d < W + 2) where
  abbrev once : List ℕ
  once = moved W (l - 1) (l - 2) lines

  first_long_lem : (l - 1 + 1) * (W + 2) ≤ length lines
  first_long_lem = let m : (l - 1 + 1) * (W + 2) ≤ (l + 1) * (W + 2) = mul-le-mul_right (W + 2) (omega arith) in omega (arith, long)

  once_long : (l + 1) * (W + 2) ≤ length once
  once_long = rw (length_moved W (l - 1) (l - 2) lines (omega (arith, low)) first_long_lem) long

  pub shifted_two : get_or (shifted W l lines) ((l - 2) * (W + 2) + d) 0 ≡ get_or lines ((l - 1) * (W + 2) + d) 0
  unfolding shifted
  shifted_two =
      moved_above W l (l - 1) once (omega (arith, low)) once_long (l - 2) d (omega (arith, low)) h
      ∙ moved_there W (l - 1) (l - 2) lines (omega (arith, low)) first_long_lem d h

  pub shifted_one : get_or (shifted W l lines) ((l - 1) * (W + 2) + d) 0 ≡ get_or lines (l * (W + 2) + d) 0
  unfolding shifted
  shifted_one =
      moved_there W l (l - 1) once (omega (arith, low)) once_long d h
      ∙ moved_below W (l - 1) (l - 2) lines (omega (arith, low)) first_long_lem l d (omega (arith, low))

  -- other windows stay
  pub shifted_above : (m : ℕ) → m < l - 2 → get_or (shifted W l lines) (m * (W + 2) + d) 0 ≡ get_or lines (m * (W + 2) + d) 0
  unfolding shifted
  shifted_above m k =
      moved_above W l (l - 1) once (omega (arith, low)) once_long m d (omega (arith, k)) h
      ∙ moved_above W (l - 1) (l - 2) lines (omega (arith, low)) first_long_lem m d k h

  pub shifted_below : (m : ℕ) → l ≤ m → get_or (shifted W l lines) (m * (W + 2) + d) 0 ≡ get_or lines (m * (W + 2) + d) 0
  unfolding shifted
  shifted_below m k =
      moved_below W l (l - 1) once (omega (arith, low)) once_long m d (omega (arith, k, low))
      ∙ moved_below W (l - 1) (l - 2) lines (omega (arith, low)) first_long_lem m d (omega (arith, k, low))

pub length_shifted : (W l : ℕ) (lines : List ℕ) → 2 ≤ l → (l + 1) * (W + 2) ≤ length lines → length (shifted W l lines) ≡ length lines
unfolding shifted
length_shifted W l lines low long =
    let e = length_moved W (l - 1) (l - 2) lines (omega arith) (first_long_lem W l lines low long 0 (omega arith)) in
    length_moved W l (l - 1) (moved W (l - 1) (l - 2) lines) (omega arith) (rw e long) ∙ e

-- ---- the turn to the next line

module _ (W : ℕ) (l₀ : List ℕ) (long : 18 * (W + 2) ≤ length l₀) (d : ℕ) (h : d < W + 2) where
  abbrev l₁ : List ℕ
  l₁ = moved W 3 0 l₀

  abbrev l₂ : List ℕ
  l₂ = moved W 4 1 l₁

  abbrev l₃ : List ℕ
  l₃ = moved W 11 5 l₂

  abbrev l₄ : List ℕ
  l₄ = moved W 12 6 l₃

  abbrev l₅ : List ℕ
  l₅ = moved W 16 13 l₄

  long₁ : 18 * (W + 2) ≤ length l₁
  long₁ = rw (length_moved W 3 0 l₀ (omega arith) (omega (arith, long))) long

  long₂ : 18 * (W + 2) ≤ length l₂
  long₂ = rw (length_moved W 4 1 l₁ (omega arith) (omega (arith, long₁))) long₁

  long₃ : 18 * (W + 2) ≤ length l₃
  long₃ = rw (length_moved W 11 5 l₂ (omega arith) (omega (arith, long₂))) long₂

  long₄ : 18 * (W + 2) ≤ length l₄
  long₄ = rw (length_moved W 12 6 l₃ (omega arith) (omega (arith, long₃))) long₃

  long₅ : 18 * (W + 2) ≤ length l₅
  long₅ = rw (length_moved W 16 13 l₄ (omega arith) (omega (arith, long₄))) long₄

  -- what stands at place d of line l after the moves so far
  abbrev at : List ℕ → ℕ → ℕ
  at lines l = get_or lines (l * (W + 2) + d) 0

  -- a line below all that the first moves change is as it was before them
  from₁ : (l : ℕ) → 0 < l → at l₁ l ≡ at l₀ l
  from₁ l k = moved_below W 3 0 l₀ (omega arith) (omega (arith, long)) l d k

  from₂ : (l : ℕ) → 1 < l → at l₂ l ≡ at l₀ l
  from₂ l k = moved_below W 4 1 l₁ (omega arith) (omega (arith, long₁)) l d k ∙ from₁ l (omega arith)

  from₃ : (l : ℕ) → 5 < l → at l₃ l ≡ at l₀ l
  from₃ l k = moved_below W 11 5 l₂ (omega arith) (omega (arith, long₂)) l d k ∙ from₂ l (omega arith)

  from₄ : (l : ℕ) → 6 < l → at l₄ l ≡ at l₀ l
  from₄ l k = moved_below W 12 6 l₃ (omega arith) (omega (arith, long₃)) l d k ∙ from₃ l (omega arith)

  from₅ : (l : ℕ) → 13 < l → at l₅ l ≡ at l₀ l
  from₅ l k = moved_below W 16 13 l₄ (omega arith) (omega (arith, long₄)) l d k ∙ from₄ l (omega arith)

  -- a line above all that the last moves change is as it is after the first ones
  abbrev all : List ℕ
  all = moved W 17 14 l₅

  upto₅ : (l : ℕ) → l < 14 → at all l ≡ at l₅ l
  upto₅ l k = moved_above W 17 14 l₅ (omega arith) (omega (arith, long₅)) l d k h

  upto₄ : (l : ℕ) → l < 13 → at all l ≡ at l₄ l
  upto₄ l k = upto₅ l (omega arith) ∙ moved_above W 16 13 l₄ (omega arith) (omega (arith, long₄)) l d k h

  upto₃ : (l : ℕ) → l < 6 → at all l ≡ at l₃ l
  upto₃ l k = upto₄ l (omega arith) ∙ moved_above W 12 6 l₃ (omega arith) (omega (arith, long₃)) l d k h

  upto₂ : (l : ℕ) → l < 5 → at all l ≡ at l₂ l
  upto₂ l k = upto₃ l (omega arith) ∙ moved_above W 11 5 l₂ (omega arith) (omega (arith, long₂)) l d k h

  upto₁ : (l : ℕ) → l < 1 → at all l ≡ at l₁ l
  upto₁ l k = upto₂ l (omega arith) ∙ moved_above W 4 1 l₁ (omega arith) (omega (arith, long₁)) l d k h

  -- the last two lines of each colour are its first two
  pub turned_at : (at (turned W l₀) 0 ≡ at l₀ 3) × (at (turned W l₀) 1 ≡ at l₀ 4) × (at (turned W l₀) 5 ≡ at l₀ 11) × (at (turned W l₀) 6 ≡ at l₀ 12)
      × (at (turned W l₀) 13 ≡ at l₀ 16) × (at (turned W l₀) 14 ≡ at l₀ 17)
  unfolding turned
  turned_at = (
    upto₁ 0 (omega arith) ∙ moved_there W 3 0 l₀ (omega arith) (omega (arith, long)) d h,
    upto₂ 1 (omega arith) ∙ moved_there W 4 1 l₁ (omega arith) (omega (arith, long₁)) d h ∙ from₁ 4 (omega arith),
    upto₃ 5 (omega arith) ∙ moved_there W 11 5 l₂ (omega arith) (omega (arith, long₂)) d h ∙ from₂ 11 (omega arith),
    upto₄ 6 (omega arith) ∙ moved_there W 12 6 l₃ (omega arith) (omega (arith, long₃)) d h ∙ from₃ 12 (omega arith),
    upto₅ 13 (omega arith) ∙ moved_there W 16 13 l₄ (omega arith) (omega (arith, long₄)) d h ∙ from₄ 16 (omega arith),
    moved_there W 17 14 l₅ (omega arith) (omega (arith, long₅)) d h ∙ from₅ 17 (omega arith),
  )

-- ---- guards

-- guards leave samples as they are
pub samples_stay : (W l p m : ℕ) (lines : List ℕ) → p < W → get_or (guarded W m lines) (l * (W + 2) + p + 1) 0 ≡ get_or lines (l * (W + 2) + p + 1) 0
unfolding guarded
samples_stay W l p m lines h =
    get_or-set_other (left_guard W m lines) (m * (W + 2) + (W + 1)) (l * (W + 2) + p + 1) (get_or (left_guard W m lines) ((m - 1) * (W + 2) + W) 0) 0
    (λ e. not_guard (W + 1) (omega arith) (λ f. omega arith) (omega arith))
    ∙ get_or-set_other lines (m * (W + 2)) (l * (W + 2) + p + 1) (get_or lines ((m - 1) * (W + 2) + 1) 0) 0
    (λ e. not_guard 0 (omega arith) (λ f. omega arith) (omega arith))
  where
    not_guard : (d : ℕ) → d < W + 2 → p + 1 ≢ d → l * (W + 2) + (p + 1) ≢ m * (W + 2) + d
    not_guard d k ne e = ne (place_is W l (p + 1) m d (omega arith) k e).1

-- and other lines
pub guard_leaves : (W m l d : ℕ) (lines : List ℕ) → d < W + 2 → (l ≢ m) → get_or (guarded W m lines) (l * (W + 2) + d) 0 ≡ get_or lines (l * (W + 2) + d) 0
unfolding guarded
guard_leaves W m l d lines h ne =
    get_or-set_other (left_guard W m lines) (m * (W + 2) + (W + 1)) (l * (W + 2) + d) (get_or (left_guard W m lines) ((m - 1) * (W + 2) + W) 0) 0
    (λ e. ne (place_is W l d m (W + 1) h (omega arith) e).0)
    ∙ get_or-set_other lines (m * (W + 2)) (l * (W + 2) + d) (get_or lines ((m - 1) * (W + 2) + 1) 0) 0
    (λ e. let f : l * (W + 2) + d ≡ m * (W + 2) + 0 = omega arith in ne (place_is W l d m 0 h (omega arith) f).0)

-- the left guard of line l holds the first sample of the line above
pub left_guard_lem : (W l : ℕ) (lines : List ℕ) → l * (W + 2) < length lines → get_or (guarded W l lines) (l * (W + 2)) 0 ≡ get_or lines ((l - 1) * (W + 2) + 1) 0
unfolding guarded
left_guard_lem W l lines h =
    get_or-set_other (left_guard W l lines) (l * (W + 2) + (W + 1)) (l * (W + 2)) (get_or (left_guard W l lines) ((l - 1) * (W + 2) + W) 0) 0 (λ e. omega arith)
    ∙ get_or-set_same lines (l * (W + 2)) (get_or lines ((l - 1) * (W + 2) + 1) 0) 0 h

-- and the right guard its last one
pub right_guard_lem : (W l : ℕ) (lines : List ℕ) → 1 ≤ l → l * (W + 2) + (W + 1) < length lines
    → get_or (guarded W l lines) (l * (W + 2) + (W + 1)) 0 ≡ get_or lines ((l - 1) * (W + 2) + W) 0
unfolding guarded
right_guard_lem W l lines h k =
    get_or-set_same (left_guard W l lines) (l * (W + 2) + (W + 1)) (get_or (left_guard W l lines) ((l - 1) * (W + 2) + W) 0) 0 (rw length-set k)
    ∙ get_or-set_other lines (l * (W + 2)) ((l - 1) * (W + 2) + W) (get_or lines ((l - 1) * (W + 2) + 1) 0) 0
    (λ e. let f : (l - 1) * (W + 2) + W ≡ l * (W + 2) + 0 = omega arith in let no = (place_is W (l - 1) W l 0 (omega arith) (omega arith) f).0 in omega arith)
