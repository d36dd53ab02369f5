-- The lines that are loaded have the samples of the six lines that were kept, and the guards of the nearer one of each colour. Assumes nothing.
use mathlib.Core.List.{List}
use mathlib.Core.Path.{◌≡◌, ◌∙◌}
use Prim.Native.Nat.{ℕ, zero, suc, ◌+◌, ◌-◌, ◌*◌, ◌≤◌, ◌<◌}
use native.Mathlib.Omega.{arith}
use lib.ListN.{length, get_or, set, length-set}
use lib.Seq.{get_or-set_same, get_or-set_other}
use Rattle.numbers.proofs.OrderLaws.{split}
use Rattle.colour_lines.specs.ColourLines.{left_guard, guarded}
use Rattle.colour_lines.proofs.LineLaws.{apart, line_inside, length_guarded}
use Rattle.saved_state.specs.Checkpoints.{stored_sample, kept_line, with_kept, with_six, with_guards, loaded_lines}
use Rattle.saved_state.proofs.PutLaws.{put_length, put_other, put_at_lem}

-- a place of line L that is no place of line j
elsewhere : (W L j d e : ℕ) → d < W + 2 → e < W + 2 → (L ≡ j → d ≡ e → ⊥) → L * (W + 2) + d ≡ j * (W + 2) + e → ⊥
elsewhere W L j d e a b never q =
    split L j
    (λ x. split j L (λ y. let same : L ≡ j = omega arith in never same (let r = rw same at q in omega arith)) (λ y. omega (arith, apart W j L y)))
    (λ x. omega (arith, apart W L j x))

guarded_leaves : (W l L p : ℕ) (lines : List ℕ) → p < W → get_or (guarded W l lines) (L * (W + 2) + (p + 1)) 0 ≡ get_or lines (L * (W + 2) + (p + 1)) 0
unfolding guarded
guarded_leaves W l L p lines h =
    get_or-set_other (left_guard W l lines) (l * (W + 2) + (W + 1)) (L * (W + 2) + (p + 1)) (get_or (left_guard W l lines) ((l - 1) * (W + 2) + W) 0) 0
    (elsewhere W L l (p + 1) (W + 1) (omega arith) (omega arith) (λ q r. omega arith))
    ∙ get_or-set_other lines (l * (W + 2)) (L * (W + 2) + (p + 1)) (get_or lines ((l - 1) * (W + 2) + 1) 0) 0
    (λ q. elsewhere W L l (p + 1) 0 (omega arith) (omega arith) (λ r t. omega arith) (omega arith))

-- the guards of another line, and those that are set
guarded_elsewhere : (W l L d : ℕ) (lines : List ℕ) → d < W + 2 → (L ≡ l → ⊥) → get_or (guarded W l lines) (L * (W + 2) + d) 0 ≡ get_or lines (L * (W + 2) + d) 0
unfolding guarded
guarded_elsewhere W l L d lines h never =
    get_or-set_other (left_guard W l lines) (l * (W + 2) + (W + 1)) (L * (W + 2) + d) (get_or (left_guard W l lines) ((l - 1) * (W + 2) + W) 0) 0
    (elsewhere W L l d (W + 1) h (omega arith) (λ q r. never q))
    ∙ get_or-set_other lines (l * (W + 2)) (L * (W + 2) + d) (get_or lines ((l - 1) * (W + 2) + 1) 0) 0
    (λ q. elsewhere W L l d 0 h (omega arith) (λ r t. never r) (omega arith))

module _ (W j : ℕ) (lines : List ℕ) (room : suc j * (W + 2) + (W + 2) ≤ length lines) where
  guard_left : get_or (guarded W (suc j) lines) (suc j * (W + 2) + 0) 0 ≡ get_or lines (j * (W + 2) + 1) 0
  unfolding guarded
  guard_left =
      let e : suc j * (W + 2) + 0 ≡ suc j * (W + 2) = omega arith in
      let f : suc j - 1 ≡ j = omega arith in
      rw (e, f)
      (get_or-set_other (set lines (suc j * (W + 2)) (get_or lines (j * (W + 2) + 1) 0)) (suc j * (W + 2) + (W + 1)) (suc j * (W + 2))
      (get_or (set lines (suc j * (W + 2)) (get_or lines (j * (W + 2) + 1) 0)) (j * (W + 2) + W) 0) 0 (λ q. omega arith)
      ∙ get_or-set_same lines (suc j * (W + 2)) (get_or lines (j * (W + 2) + 1) 0) 0 (omega arith))

  guard_right : get_or (guarded W (suc j) lines) (suc j * (W + 2) + (W + 1)) 0 ≡ get_or lines (j * (W + 2) + W) 0
  unfolding guarded
  guard_right =
      let f : suc j - 1 ≡ j = omega arith in
      rw f
      (get_or-set_same (set lines (suc j * (W + 2)) (get_or lines (j * (W + 2) + 1) 0)) (suc j * (W + 2) + (W + 1))
      (get_or (set lines (suc j * (W + 2)) (get_or lines (j * (W + 2) + 1) 0)) (j * (W + 2) + W) 0) 0 (simp length-set (omega arith))
      ∙ get_or-set_other lines (suc j * (W + 2)) (j * (W + 2) + W) (get_or lines (j * (W + 2) + 1) 0) 0 (λ q. omega (arith, apart W (suc j) j (omega arith))))

module _ (W : ℕ) (s : List ℕ) where
  -- another line stays, and the m-th line has its samples
  other : (m L p : ℕ) (l : List ℕ) → p < W → (L ≡ kept_line m → ⊥) → get_or (with_kept W s m l) (L * (W + 2) + (p + 1)) 0 ≡ get_or l (L * (W + 2) + (p + 1)) 0
  other m L p l h never =
      put_other (λ i. stored_sample s (m * W + i)) (kept_line m * (W + 2) + 1) l W (L * (W + 2) + (p + 1)) 0
      (λ k b q. elsewhere W L (kept_line m) (p + 1) (k + 1) (omega arith) (omega arith) (λ r t. never r) (omega arith))

  here : (m p : ℕ) (l : List ℕ) → p < W → kept_line m ≤ 17 → 18 * (W + 2) ≤ length l
      → get_or (with_kept W s m l) (kept_line m * (W + 2) + (p + 1)) 0 ≡ stored_sample s (m * W + p)
  here m p l h low long =
      let e : kept_line m * (W + 2) + (p + 1) ≡ kept_line m * (W + 2) + 1 + p = omega arith in
      rw e (put_at_lem (λ i. stored_sample s (m * W + i)) (kept_line m * (W + 2) + 1) l W p 0 h (omega (arith, line_inside W (kept_line m) low)))

  kept_long : (m : ℕ) (l : List ℕ) → 18 * (W + 2) ≤ length l → 18 * (W + 2) ≤ length (with_kept W s m l)
  kept_long m l h = rw (put_length (λ i. stored_sample s (m * W + i)) (kept_line m * (W + 2) + 1) l W) h

  module _ (l₀ : List ℕ) (long : 18 * (W + 2) ≤ length l₀) where
    abbrev l₁ : List ℕ
    l₁ = with_kept W s 0 l₀

    abbrev l₂ : List ℕ
    l₂ = with_kept W s 1 l₁

    abbrev l₃ : List ℕ
    l₃ = with_kept W s 2 l₂

    abbrev l₄ : List ℕ
    l₄ = with_kept W s 3 l₃

    abbrev l₅ : List ℕ
    l₅ = with_kept W s 4 l₄

    long₁ : 18 * (W + 2) ≤ length l₁
    long₁ = kept_long 0 l₀ long

    long₂ : 18 * (W + 2) ≤ length l₂
    long₂ = kept_long 1 l₁ long₁

    long₃ : 18 * (W + 2) ≤ length l₃
    long₃ = kept_long 2 l₂ long₂

    long₄ : 18 * (W + 2) ≤ length l₄
    long₄ = kept_long 3 l₃ long₃

    long₅ : 18 * (W + 2) ≤ length l₅
    long₅ = kept_long 4 l₄ long₄

    six : (m p : ℕ) → m < 6 → p < W → get_or (with_six W s l₀) (kept_line m * (W + 2) + (p + 1)) 0 ≡ stored_sample s (m * W + p)
    unfolding with_six kept_line
    six zero p a h =
        other 5 3 p l₅ h (λ q. omega arith) ∙ other 4 3 p l₄ h (λ q. omega arith) ∙ other 3 3 p l₃ h (λ q. omega arith)
        ∙ other 2 3 p l₂ h (λ q. omega arith) ∙ other 1 3 p l₁ h (λ q. omega arith) ∙ here 0 p l₀ h (omega arith) long
    six (suc zero) p a h =
        other 5 4 p l₅ h (λ q. omega arith) ∙ other 4 4 p l₄ h (λ q. omega arith) ∙ other 3 4 p l₃ h (λ q. omega arith)
        ∙ other 2 4 p l₂ h (λ q. omega arith) ∙ here 1 p l₁ h (omega arith) long₁
    six (suc (suc zero)) p a h =
        other 5 11 p l₅ h (λ q. omega arith) ∙ other 4 11 p l₄ h (λ q. omega arith) ∙ other 3 11 p l₃ h (λ q. omega arith)
        ∙ here 2 p l₂ h (omega arith) long₂
    six (suc (suc (suc zero))) p a h =
        other 5 12 p l₅ h (λ q. omega arith) ∙ other 4 12 p l₄ h (λ q. omega arith) ∙ here 3 p l₃ h (omega arith) long₃
    six (suc (suc (suc (suc zero)))) p a h = other 5 16 p l₅ h (λ q. omega arith) ∙ here 4 p l₄ h (omega arith) long₄
    six (suc (suc (suc (suc (suc zero))))) p a h = here 5 p l₅ h (omega arith) long₅
    six (suc (suc (suc (suc (suc (suc m)))))) p a h = absurd (omega arith)

    -- sample p of the m-th line, where it stood
    pub loaded_sample : (m p : ℕ) → m < 6 → p < W → get_or (loaded_lines W s l₀) (kept_line m * (W + 2) + (p + 1)) 0 ≡ stored_sample s (m * W + p)
    unfolding loaded_lines with_guards
    loaded_sample m p a h =
        guarded_leaves W 17 (kept_line m) p (guarded W 12 (guarded W 4 (with_six W s l₀))) h
        ∙ guarded_leaves W 12 (kept_line m) p (guarded W 4 (with_six W s l₀)) h ∙ guarded_leaves W 4 (kept_line m) p (with_six W s l₀) h ∙ six m p a h

    -- ---- the guards of lines 4, 12 and 17 are the ends of lines 3, 11 and 16

    abbrev six_lines : List ℕ
    six_lines = with_six W s l₀

    six_long : 18 * (W + 2) ≤ length six_lines
    unfolding with_six
    six_long = kept_long 5 l₅ long₅

    last : (some : 1 ≤ W) (m : ℕ) → m < 6 → get_or six_lines (kept_line m * (W + 2) + W) 0 ≡ stored_sample s (m * W + (W - 1))
    last some m a =
        let e : W - 1 + 1 ≡ W = omega arith in
        rw e at (six m (W - 1) a (omega arith))

    guarded_last : (l L : ℕ) (lines : List ℕ) → 1 ≤ W → get_or (guarded W l lines) (L * (W + 2) + W) 0 ≡ get_or lines (L * (W + 2) + W) 0
    guarded_last l L lines some =
        let e : W - 1 + 1 ≡ W = omega arith in
        rw e at (guarded_leaves W l L (W - 1) lines (omega arith))

    module _ (some : 1 ≤ W) where
      pub left_of_4 : get_or (loaded_lines W s l₀) (4 * (W + 2) + 0) 0 ≡ stored_sample s (0 * W + 0)
      unfolding loaded_lines with_guards kept_line
      left_of_4 =
          guarded_elsewhere W 17 4 0 (guarded W 12 (guarded W 4 six_lines)) (omega arith) (λ q. omega arith)
          ∙ guarded_elsewhere W 12 4 0 (guarded W 4 six_lines) (omega arith) (λ q. omega arith)
          ∙ guard_left W 3 six_lines (omega (arith, six_long)) ∙ six 0 0 (omega arith) (omega arith)

      pub right_of_4 : get_or (loaded_lines W s l₀) (4 * (W + 2) + (W + 1)) 0 ≡ stored_sample s (0 * W + (W - 1))
      unfolding loaded_lines with_guards kept_line
      right_of_4 =
          guarded_elsewhere W 17 4 (W + 1) (guarded W 12 (guarded W 4 six_lines)) (omega arith) (λ q. omega arith)
          ∙ guarded_elsewhere W 12 4 (W + 1) (guarded W 4 six_lines) (omega arith) (λ q. omega arith)
          ∙ guard_right W 3 six_lines (omega (arith, six_long)) ∙ last some 0 (omega arith)

      pub left_of_12 : get_or (loaded_lines W s l₀) (12 * (W + 2) + 0) 0 ≡ stored_sample s (2 * W + 0)
      unfolding loaded_lines with_guards kept_line
      left_of_12 =
          guarded_elsewhere W 17 12 0 (guarded W 12 (guarded W 4 six_lines)) (omega arith) (λ q. omega arith)
          ∙ guard_left W 11 (guarded W 4 six_lines) (rw (length_guarded W 4 six_lines) (omega (arith, six_long)))
          ∙ guarded_leaves W 4 11 0 six_lines (omega arith) ∙ six 2 0 (omega arith) (omega arith)

      pub right_of_12 : get_or (loaded_lines W s l₀) (12 * (W + 2) + (W + 1)) 0 ≡ stored_sample s (2 * W + (W - 1))
      unfolding loaded_lines with_guards kept_line
      right_of_12 =
          guarded_elsewhere W 17 12 (W + 1) (guarded W 12 (guarded W 4 six_lines)) (omega arith) (λ q. omega arith)
          ∙ guard_right W 11 (guarded W 4 six_lines) (rw (length_guarded W 4 six_lines) (omega (arith, six_long)))
          ∙ guarded_last 4 11 six_lines some ∙ last some 2 (omega arith)

      pub left_of_17 : get_or (loaded_lines W s l₀) (17 * (W + 2) + 0) 0 ≡ stored_sample s (4 * W + 0)
      unfolding loaded_lines with_guards kept_line
      left_of_17 =
          guard_left W 16 (guarded W 12 (guarded W 4 six_lines))
          (rw (length_guarded W 12 (guarded W 4 six_lines), length_guarded W 4 six_lines) (omega (arith, six_long)))
          ∙ guarded_leaves W 12 16 0 (guarded W 4 six_lines) (omega arith) ∙ guarded_leaves W 4 16 0 six_lines (omega arith)
          ∙ six 4 0 (omega arith) (omega arith)

      pub right_of_17 : get_or (loaded_lines W s l₀) (17 * (W + 2) + (W + 1)) 0 ≡ stored_sample s (4 * W + (W - 1))
      unfolding loaded_lines with_guards kept_line
      right_of_17 =
          guard_right W 16 (guarded W 12 (guarded W 4 six_lines))
          (rw (length_guarded W 12 (guarded W 4 six_lines), length_guarded W 4 six_lines) (omega (arith, six_long)))
          ∙ guarded_last 12 16 (guarded W 4 six_lines) some ∙ guarded_last 4 16 six_lines some ∙ last some 4 (omega arith)
