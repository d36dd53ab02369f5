-- Lines in windows before a pass: there is room for the two that it reads, their guards are set, and the lines above them are those of the 18. Assumes nothing.
use mathlib.Core.List.{List}
use mathlib.Core.Logic.{◌≢◌}
use mathlib.Core.Path.{◌≡◌, sym, ap, ◌∙◌}
use Prim.Native.Nat.{ℕ, ◌+◌, ◌-◌, ◌*◌, ◌≤◌, ◌<◌}
use native.Mathlib.Nat.{mul-le-mul_right}
use native.Mathlib.Omega.{arith}
use lib.ListN.{length, get_or}
use Rattle.colour_lines.specs.ColourLines.{guarded}
use Rattle.colour_lines.specs.Inside.{shifted}
use Rattle.colour_lines.proofs.LineLaws.{length_guarded}
use Rattle.colour_lines.proofs.MoveLaws.{shifted_two, shifted_one, shifted_above, shifted_below, length_shifted, guard_leaves, left_guard_lem, right_guard_lem}
use Rattle.read_pass.proofs.WindowLaws.{Rows}
use Rattle.read_block.specs.WindowedLines.{Latest}

-- ---- places

-- a line and the two above it
pub at_above : (W m j : ℕ) → 2 ≤ m → (m - 2) * (W + 2) + (W + 2 + j) ≡ (m - 1) * (W + 2) + j
at_above W m j h = let e : m - 1 ≡ m - 2 + 1 = omega arith in rw e (omega arith)

two_less : (m : ℕ) → 2 ≤ m → m ≡ m - 2 + 2
two_less m h = omega arith

pub at_line : (W m j : ℕ) → 2 ≤ m → (m - 2) * (W + 2) + (2 * (W + 2) + j) ≡ m * (W + 2) + j
at_line W m j h =
    let f : (k : ℕ) → k * (W + 2) + (2 * (W + 2) + j) ≡ (k + 2) * (W + 2) + j = λ k. omega arith in
    f (m - 2) ∙ ap (λ (k : ℕ). k * (W + 2) + j) (sym (two_less m h))

pub line_two : (W m : ℕ) → 2 ≤ m → m * (W + 2) ≡ (m - 2) * (W + 2) + 2 * (W + 2)
line_two W m h =
    let f : (k : ℕ) → (k + 2) * (W + 2) ≡ k * (W + 2) + 2 * (W + 2) = λ k. omega arith in
    ap (λ (k : ℕ). k * (W + 2)) (two_less m h) ∙ f (m - 2)

line_room : (W m n : ℕ) → m + 1 ≤ n → (m + 1) * (W + 2) ≤ n * (W + 2)
line_room W m n h = mul-le-mul_right (W + 2) h

three_lines : (W m n : ℕ) → 2 ≤ m → m + 1 ≤ n → (m - 2) * (W + 2) + 3 * (W + 2) ≤ n * (W + 2)
three_lines W m n h k = omega (arith, line_room W m n k, line_two W m h)

pub apart_lines : (W a c : ℕ) → 2 ≤ a → a + 3 ≤ c → (a - 2) * (W + 2) + 3 * (W + 2) ≤ (c - 2) * (W + 2)
apart_lines W a c h k =
    let f : (x : ℕ) → x * (W + 2) + 3 * (W + 2) ≡ (x + 3) * (W + 2) = λ x. omega arith in
    let m : (a - 2 + 3) * (W + 2) ≤ (c - 2) * (W + 2) = mul-le-mul_right (W + 2) (omega arith) in
    omega (arith, f (a - 2))

-- ---- before a pass

module _ (W : ℕ) (l v : List ℕ) (A C a c : ℕ) (low : 2 ≤ A) (far : A + 3 ≤ C) (high : C ≤ 17) (low' : 2 ≤ a) (far' : a + 3 ≤ c) (high' : c ≤ 8)
    (long : length l ≡ 18 * (W + 2)) (long' : length v ≡ 9 * (W + 2)) where
  abbrev l₁ : List ℕ
  l₁ = guarded W C (guarded W A l)

  abbrev u : List ℕ
  u = shifted W a v

  abbrev v₀ : List ℕ
  v₀ = shifted W c u

  abbrev v₁ : List ℕ
  v₁ = guarded W c (guarded W a v₀)

  room_a : (a + 1) * (W + 2) ≤ length v
  room_a = omega (arith, line_room W a 9 (omega (arith, far', high')), long')

  length_u : length u ≡ length v
  length_u = length_shifted W a v low' room_a

  low_c : 2 ≤ c
  low_c = omega (arith, far', low')

  room_c : (c + 1) * (W + 2) ≤ length u
  room_c = omega (arith, line_room W c 9 (omega (arith, high')), long', length_u)

  length_v₀ : length v₀ ≡ length v
  length_v₀ = length_shifted W c u low_c room_c ∙ length_u

  pub length_l₁ : length l₁ ≡ length l
  length_l₁ = length_guarded W C (guarded W A l) ∙ length_guarded W A l

  pub length_v₁ : length v₁ ≡ length v
  length_v₁ = length_guarded W c (guarded W a v₀) ∙ length_guarded W a v₀ ∙ length_v₀

  -- lines whose guards are not set
  pub l_stays : (m d : ℕ) → d < W + 2 → m ≢ A → m ≢ C → get_or l₁ (m * (W + 2) + d) 0 ≡ get_or l (m * (W + 2) + d) 0
  l_stays m d h x y = guard_leaves W C m d (guarded W A l) h y ∙ guard_leaves W A m d l h x

  v_stays : (m d : ℕ) → d < W + 2 → m ≢ a → m ≢ c → get_or v₁ (m * (W + 2) + d) 0 ≡ get_or v₀ (m * (W + 2) + d) 0
  v_stays m d h x y = guard_leaves W c m d (guarded W a v₀) h y ∙ guard_leaves W a m d v₀ h x

  -- the window of the first line
  a_two : (d : ℕ) → d < W + 2 → get_or v₁ ((a - 2) * (W + 2) + d) 0 ≡ get_or v ((a - 1) * (W + 2) + d) 0
  a_two d h =
      v_stays (a - 2) d h (λ e. omega (arith, low')) (λ e. omega (arith, low', far'))
      ∙ shifted_above W c u low_c room_c d h (a - 2) (omega (arith, low', far'))
      ∙ shifted_two W a v low' room_a d h

  a_one : (d : ℕ) → d < W + 2 → get_or v₁ ((a - 1) * (W + 2) + d) 0 ≡ get_or v (a * (W + 2) + d) 0
  a_one d h =
      v_stays (a - 1) d h (λ e. omega (arith, low')) (λ e. omega (arith, low', far'))
      ∙ shifted_above W c u low_c room_c d h (a - 1) (omega (arith, low', far'))
      ∙ shifted_one W a v low' room_a d h

  -- and of the second
  c_two : (d : ℕ) → d < W + 2 → get_or v₁ ((c - 2) * (W + 2) + d) 0 ≡ get_or v ((c - 1) * (W + 2) + d) 0
  c_two d h =
      v_stays (c - 2) d h (λ e. omega (arith, low', far')) (λ e. omega (arith, low', far'))
      ∙ shifted_two W c u low_c room_c d h
      ∙ shifted_below W a v low' room_a d h (c - 1) (omega (arith, far'))

  c_one : (d : ℕ) → d < W + 2 → get_or v₁ ((c - 1) * (W + 2) + d) 0 ≡ get_or v (c * (W + 2) + d) 0
  c_one d h =
      v_stays (c - 1) d h (λ e. omega (arith, low', far')) (λ e. omega (arith, low', far'))
      ∙ shifted_one W c u low_c room_c d h
      ∙ shifted_below W a v low' room_a d h c (omega (arith, far'))

  -- the third window stays
  pub third_below : (m d : ℕ) → d < W + 2 → c < m → get_or v₁ (m * (W + 2) + d) 0 ≡ get_or v (m * (W + 2) + d) 0
  third_below m d h k =
      v_stays m d h (λ e. omega (arith, far')) (λ e. omega arith)
      ∙ shifted_below W c u low_c room_c d h m (omega arith)
      ∙ shifted_below W a v low' room_a d h m (omega (arith, far'))

  pub third_above : (m d : ℕ) → d < W + 2 → m < a - 2 → get_or v₁ (m * (W + 2) + d) 0 ≡ get_or v (m * (W + 2) + d) 0
  third_above m d h k =
      v_stays m d h (λ e. omega arith) (λ e. omega (arith, far'))
      ∙ shifted_above W c u low_c room_c d h m (omega (arith, far'))
      ∙ shifted_above W a v low' room_a d h m k

  -- guards
  zero_place : (m : ℕ) → m * (W + 2) + 0 ≡ m * (W + 2)
  zero_place m = omega arith

  left_of_first : get_or l₁ (A * (W + 2) + 0) 0 ≡ get_or l ((A - 1) * (W + 2) + 1) 0
  left_of_first =
      guard_leaves W C A 0 (guarded W A l) (omega arith) (λ e. omega (arith, far))
      ∙ ap (λ (k : ℕ). get_or (guarded W A l) k 0) (zero_place A)
      ∙ left_guard_lem W A l (omega (arith, line_room W A 18 (omega (arith, far, high)), long))

  right_of_first : get_or l₁ (A * (W + 2) + (W + 1)) 0 ≡ get_or l ((A - 1) * (W + 2) + W) 0
  right_of_first =
      guard_leaves W C A (W + 1) (guarded W A l) (omega arith) (λ e. omega (arith, far))
      ∙ right_guard_lem W A l (omega (arith, low)) (omega (arith, line_room W A 18 (omega (arith, far, high)), long))

  left_of_second : get_or l₁ (C * (W + 2) + 0) 0 ≡ get_or l ((C - 1) * (W + 2) + 1) 0
  left_of_second =
      ap (λ (k : ℕ). get_or l₁ k 0) (zero_place C)
      ∙ left_guard_lem W C (guarded W A l) (omega (arith, line_room W C 18 (omega (arith, high)), long, length_guarded W A l))
      ∙ guard_leaves W A (C - 1) 1 l (omega arith) (λ e. omega (arith, far))

  right_of_second : get_or l₁ (C * (W + 2) + (W + 1)) 0 ≡ get_or l ((C - 1) * (W + 2) + W) 0
  right_of_second =
      right_guard_lem W C (guarded W A l) (omega (arith, far)) (omega (arith, line_room W C 18 (omega (arith, high)), long, length_guarded W A l))
      ∙ guard_leaves W A (C - 1) W l (omega arith) (λ e. omega (arith, far))

  left_of_a : get_or v₁ (a * (W + 2) + 0) 0 ≡ get_or v₀ ((a - 1) * (W + 2) + 1) 0
  left_of_a =
      guard_leaves W c a 0 (guarded W a v₀) (omega arith) (λ e. omega (arith, far'))
      ∙ ap (λ (k : ℕ). get_or (guarded W a v₀) k 0) (zero_place a)
      ∙ left_guard_lem W a v₀ (omega (arith, room_a, length_v₀))

  right_of_a : get_or v₁ (a * (W + 2) + (W + 1)) 0 ≡ get_or v₀ ((a - 1) * (W + 2) + W) 0
  right_of_a =
      guard_leaves W c a (W + 1) (guarded W a v₀) (omega arith) (λ e. omega (arith, far'))
      ∙ right_guard_lem W a v₀ (omega (arith, low')) (omega (arith, room_a, length_v₀))

  left_of_c : get_or v₁ (c * (W + 2) + 0) 0 ≡ get_or v₀ ((c - 1) * (W + 2) + 1) 0
  left_of_c =
      ap (λ (k : ℕ). get_or v₁ k 0) (zero_place c)
      ∙ left_guard_lem W c (guarded W a v₀) (omega (arith, room_c, length_u, length_v₀, length_guarded W a v₀))
      ∙ guard_leaves W a (c - 1) 1 v₀ (omega arith) (λ e. omega (arith, far'))

  right_of_c : get_or v₁ (c * (W + 2) + (W + 1)) 0 ≡ get_or v₀ ((c - 1) * (W + 2) + W) 0
  right_of_c =
      right_guard_lem W c (guarded W a v₀) (omega (arith, far')) (omega (arith, room_c, length_u, length_v₀, length_guarded W a v₀))
      ∙ guard_leaves W a (c - 1) W v₀ (omega arith) (λ e. omega (arith, far'))

  v₀_a : (d : ℕ) → d < W + 2 → get_or v₀ ((a - 1) * (W + 2) + d) 0 ≡ get_or v (a * (W + 2) + d) 0
  v₀_a d h = shifted_above W c u low_c room_c d h (a - 1) (omega (arith, low', far')) ∙ shifted_one W a v low' room_a d h

  v₀_c : (d : ℕ) → d < W + 2 → get_or v₀ ((c - 1) * (W + 2) + d) 0 ≡ get_or v (c * (W + 2) + d) 0
  v₀_c d h = shifted_one W c u low_c room_c d h ∙ shifted_below W a v low' room_a d h c (omega (arith, far'))

  -- what a line of a pass goes by
  pub first_rows : Latest W (A - 1) a l v → Rows W 0 0 ((A - 2) * (W + 2)) ((a - 2) * (W + 2)) l₁ v₁
  first_rows L =
      record {
        room = omega (arith, three_lines W A 18 low (omega (arith, far, high)), long, length_l₁);
        room' = omega (arith, three_lines W a 9 low' (omega (arith, far', high')), long', length_v₁);
        two_up =
            λ p h. let e : A - 1 - 1 ≡ A - 2 = omega (arith, low) in
            l_stays (A - 2) (p + 1) (omega (arith, h)) (λ x. omega (arith, low)) (λ x. omega (arith, low, far)) ∙ (rw e at (L.above p h))
            ∙ sym (a_two (p + 1) (omega (arith, h)));
        one_up =
            λ j h. rw (at_above W A j low, at_above W a j low')
            (l_stays (A - 1) j h (λ x. omega (arith, low)) (λ x. omega (arith, low, far)) ∙ L.line j h ∙ sym (a_one j h));
        left = rw (sym (line_two W A low), sym (line_two W a low')) (rw (zero_place A) at left_of_first ∙ L.line 1 (omega arith)
            ∙ sym (rw (zero_place a) at left_of_a ∙ v₀_a 1 (omega arith)));
        right =
            rw (at_line W A (W + 1) low, at_line W a (W + 1) low')
            (right_of_first ∙ L.line W (omega arith) ∙ sym (right_of_a ∙ v₀_a W (omega arith)));
        evens = λ p t h w. absurd (omega (arith, h));
        odds = λ p t h w. absurd (omega (arith, h));
      }

  pub second_rows : Latest W (C - 1) c l v → Rows W 0 0 ((C - 2) * (W + 2)) ((c - 2) * (W + 2)) l₁ v₁
  second_rows L =
      let low-C : 2 ≤ C = omega (arith, low, far) in
      record {
        room = omega (arith, three_lines W C 18 low-C (omega (arith, high)), long, length_l₁);
        room' = omega (arith, three_lines W c 9 low_c (omega (arith, high')), long', length_v₁);
        two_up =
            λ p h. let e : C - 1 - 1 ≡ C - 2 = omega (arith, low, far) in
            l_stays (C - 2) (p + 1) (omega (arith, h)) (λ x. omega (arith, low, far)) (λ x. omega (arith, low, far)) ∙ (rw e at (L.above p h))
            ∙ sym (c_two (p + 1) (omega (arith, h)));
        one_up =
            λ j h. rw (at_above W C j low-C, at_above W c j low_c)
            (l_stays (C - 1) j h (λ x. omega (arith, low, far)) (λ x. omega (arith, low, far)) ∙ L.line j h ∙ sym (c_one j h));
        left = rw (sym (line_two W C low-C), sym (line_two W c low_c)) (rw (zero_place C) at left_of_second ∙ L.line 1 (omega arith)
            ∙ sym (rw (zero_place c) at left_of_c ∙ v₀_c 1 (omega arith)));
        right =
            rw (at_line W C (W + 1) low-C, at_line W c (W + 1) low_c)
            (right_of_second ∙ L.line W (omega arith) ∙ sym (right_of_c ∙ v₀_c W (omega arith)));
        evens = λ p t h w. absurd (omega (arith, h));
        odds = λ p t h w. absurd (omega (arith, h));
      }
