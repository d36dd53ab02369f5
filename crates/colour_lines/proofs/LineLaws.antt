-- What a move leaves as it was, where lines lie, and lengths. Assumes nothing.
use mathlib.Core.List.{List}
use mathlib.Core.Path.{◌≡◌, sym, ap, ◌∙◌}
use Prim.Native.Nat.{ℕ, suc, ◌+◌, ◌-◌, ◌*◌, ◌≤◌, ◌<◌}
use native.Mathlib.Nat.{mul-le-mul_right}
use native.Mathlib.Omega.{arith}
use lib.ListN.{length, get_or, drop, length-set, length-drop}
use lib.Seq.{paste, drop-paste, length-paste, get_or-drop}
use Rattle.colour_lines.specs.ColourLines.{guarded, moved, turned}

-- what lies behind a copy is as it was
pub after_paste : (d s : List ℕ) (t n i : ℕ) → t ≤ length d → n ≤ length s → t + n ≤ i → get_or (paste d t s n) i 0 ≡ get_or d i 0
after_paste d s t n i ht hn h =
    let e : i ≡ (t + n) + (i - (t + n)) = omega arith in
    rw e
    (sym (get_or-drop (t + n) (paste d t s n) (i - (t + n)) 0)
    ∙ ap (λ (l : List ℕ). get_or l (i - (t + n)) 0) (drop-paste d t s n ht hn)
    ∙ get_or-drop (t + n) d (i - (t + n)) 0)

-- a copy within a list, to a place before it
pub length_copy : (d : List ℕ) (from to n j : ℕ) → to + n ≤ from → from + n ≤ length d → j ≤ n → length (paste d to (drop from d) j) ≡ length d
length_copy d from to n j apart inside h =
    let long : length (drop from d) ≡ length d - from = length-drop from d in
    length-paste d to (drop from d) j (omega arith) (omega arith)

-- a line further up ends before one further down begins
pub apart : (W from to : ℕ) → to < from → to * (W + 2) + (W + 2) ≤ from * (W + 2)
apart W from to h = let m : suc to * (W + 2) ≤ from * (W + 2) = mul-le-mul_right (W + 2) h in omega arith

pub line_inside : (W l : ℕ) → l ≤ 17 → l * (W + 2) + (W + 2) ≤ 18 * (W + 2)
line_inside W l h = let m : suc l * (W + 2) ≤ 18 * (W + 2) = mul-le-mul_right (W + 2) (omega arith) in omega arith

-- guards and moves keep the length
pub length_guarded : (W l : ℕ) (lines : List ℕ) → length (guarded W l lines) ≡ length lines
unfolding guarded
length_guarded W l lines = simp length-set

pub length_moved : (W from to : ℕ) (lines : List ℕ) → to < from → (from + 1) * (W + 2) ≤ length lines → length (moved W from to lines) ≡ length lines
unfolding moved
length_moved W from to lines h long =
    length_copy lines (from * (W + 2)) (to * (W + 2)) (W + 2) (W + 2) (apart W from to h) (omega arith) (omega arith)

-- a turn does too
pub length_turned : (W : ℕ) (lines : List ℕ) → 18 * (W + 2) ≤ length lines → length (turned W lines) ≡ length lines
unfolding turned
length_turned W l₀ h =
    let l₁ : List ℕ = moved W 3 0 l₀ in
    let e₁ : length l₁ ≡ length l₀ = length_moved W 3 0 l₀ (omega arith) (omega arith) in
    let l₂ : List ℕ = moved W 4 1 l₁ in
    let e₂ : length l₂ ≡ length l₁ = length_moved W 4 1 l₁ (omega arith) (omega arith) in
    let l₃ : List ℕ = moved W 11 5 l₂ in
    let e₃ : length l₃ ≡ length l₂ = length_moved W 11 5 l₂ (omega arith) (omega arith) in
    let l₄ : List ℕ = moved W 12 6 l₃ in
    let e₄ : length l₄ ≡ length l₃ = length_moved W 12 6 l₃ (omega arith) (omega arith) in
    let l₅ : List ℕ = moved W 16 13 l₄ in
    let e₅ : length l₅ ≡ length l₄ = length_moved W 16 13 l₄ (omega arith) (omega arith) in
    let e₆ : length (moved W 17 14 l₅) ≡ length l₅ = length_moved W 17 14 l₅ (omega arith) (omega arith) in
    e₆ ∙ e₅ ∙ e₄ ∙ e₃ ∙ e₂ ∙ e₁
