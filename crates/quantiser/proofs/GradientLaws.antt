-- Levels and gradients: how the program counts them, and how large they are. Assumes nothing.
use mathlib.Core.Bool.{Bool, true, false}
use mathlib.Core.Path.{◌≡◌, ap}
use Prim.Native.Nat.{ℕ, ◌+◌, ◌*◌, ◌≤◌, ◌<◌, zero-le}
use native.Mathlib.Nat.{mul-add, mul-le-mul_left}
use native.Mathlib.Omega.{arith}
use lib.Dec.{leb, ltb, lit≤}
use borrow.Author.Tests.{lt-ltb, le-ltb, le-leb, lt-leb}
use Rattle.numbers.specs.Numbers.{minus, up, down, flag}
use Rattle.numbers.specs.declared.Signed.{Signed}
use Rattle.numbers.proofs.OrderLaws.{split, cond_le}
use Rattle.quantiser.specs.Quantisers.{level_size, level_of, gradient_of}

-- the level is the number of thresholds that are reached
pub level_count : (q m : ℕ) → flag (leb (q + 1) m) + flag (leb (3 * q + 18) m) + flag (leb (5 * q + 67) m) + flag (leb (7 * q + 276) m) ≡ level_size q m
unfolding level_size
level_count q m =
    split (q + 1) m
    (λ h1. split (3 * q + 18) m
    (λ h2. split (5 * q + 67) m
    (λ h3. split (7 * q + 276) m
    (λ h4. rw (lt-leb m q (omega arith), le-ltb m (3 * q + 18) h2, le-ltb m (5 * q + 67) h3, le-ltb m (7 * q + 276) h4, le-leb (q + 1) m h1, le-leb (3 * q + 18) m h2, le-leb (5 * q + 67) m h3, le-leb (7 * q + 276) m h4))
    (λ h4. rw (lt-leb m q (omega arith), le-ltb m (3 * q + 18) h2, le-ltb m (5 * q + 67) h3, lt-ltb m (7 * q + 276) h4, le-leb (q + 1) m h1, le-leb (3 * q + 18) m h2, le-leb (5 * q + 67) m h3, lt-leb (7 * q + 276) m h4)))
    (λ h3. rw (lt-leb m q (omega arith), le-ltb m (3 * q + 18) h2, lt-ltb m (5 * q + 67) h3, le-leb (q + 1) m h1, le-leb (3 * q + 18) m h2, lt-leb (5 * q + 67) m h3, lt-leb (7 * q + 276) m (omega arith))))
    (λ h2. rw (lt-leb m q (omega arith), lt-ltb m (3 * q + 18) h2, le-leb (q + 1) m h1, lt-leb (3 * q + 18) m h2, lt-leb (5 * q + 67) m (omega arith), lt-leb (7 * q + 276) m (omega arith))))
    (λ h1. rw (le-leb m q (omega arith), lt-leb (q + 1) m h1, lt-leb (3 * q + 18) m (omega arith), lt-leb (5 * q + 67) m (omega arith), lt-leb (7 * q + 276) m (omega arith)))

pub level_le : (q m : ℕ) → level_size q m ≤ 4
unfolding level_size
level_le q m =
    cond_le 4 (leb m q) _ _ zero-le
    (cond_le 4 (ltb m (3 * q + 18)) _ _ (lit≤ tt)
    (cond_le 4 (ltb m (5 * q + 67)) _ _ (lit≤ tt)
    (cond_le 4 (ltb m (7 * q + 276)) _ _ (lit≤ tt) (lit≤ tt))))

-- below the second threshold it is at most 1
pub level_small : (q m : ℕ) → m < 3 * q + 18 → level_size q m ≤ 1
unfolding level_size
level_small q m h = rw (lt-ltb m (3 * q + 18) h) (cond_le 1 (leb m q) 0 1 zero-le (lit≤ tt))

-- a number's two parts are within its size
up_le : (x : Signed) (m : ℕ) → x.size ≤ m → up x ≤ m
up_le x m h = cond_le m x.negative 0 x.size zero-le h

down_le : (x : Signed) (m : ℕ) → x.size ≤ m → down x ≤ m
down_le x m h = cond_le m x.negative x.size 0 h zero-le

-- levels that are at most n give a gradient of at most (weight + 1)·n
pub gradient_le : (q weight n : ℕ) (first second : Signed) → level_size q first.size ≤ n → level_size q second.size ≤ n
    → (gradient_of q weight first second).size ≤ weight * n + n
unfolding gradient_of level_of
gradient_le q weight n first second ha hb =
    let a : Signed = level_of q first in
    let b : Signed = level_of q second in
    let ua : weight * up a ≤ weight * n = mul-le-mul_left weight (up_le a n ha) in
    let da : weight * down a ≤ weight * n = mul-le-mul_left weight (down_le a n ha) in
    omega (arith, up_le b n hb, down_le b n hb)

-- the main quantisers' gradients are at most 40
pub main_le : (q : ℕ) (first second : Signed) → (gradient_of q 9 first second).size ≤ 40
main_le q first second = gradient_le q 9 4 first second (level_le q first.size) (level_le q second.size)

-- the flat quantisers', where the flatness is below the least second threshold, at most 4
pub flat_le : (q : ℕ) (first second : Signed) → first.size + second.size < 18 → (gradient_of q 3 first second).size ≤ 4
flat_le q first second h =
    gradient_le q 3 1 first second (level_small q first.size (omega arith)) (level_small q second.size (omega arith))

-- both sides of a difference moved by the same amount
pub minus_moved : (x c u d : ℕ) → x + d ≡ c + u → minus x c ≡ minus u d
minus_moved x c u d e =
    split c x
    (λ h. rw (le-ltb x c h, le-ltb u d (omega arith)) (ap (λ (n : ℕ). signed false n) (omega arith)))
    (λ h. rw (lt-ltb x c h, lt-ltb u d (omega arith)) (ap (λ (n : ℕ). signed true n) (omega arith)))
  where
    signed : Bool → ℕ → Signed
    signed b n = record { negative = b; size = n }

-- a sum of levels that are raised by 4 is the gradient, raised
pub raised : (q weight : ℕ) (first second : Signed) (x y : ℕ) → x + down (level_of q first) ≡ 4 + up (level_of q first)
    → y + down (level_of q second) ≡ 4 + up (level_of q second)
    → minus (weight * x + y) (4 * weight + 4) ≡ gradient_of q weight first second
unfolding gradient_of
raised q weight first second x y ex ey =
    let a : Signed = level_of q first in
    let w : weight * x + weight * down a ≡ weight * 4 + weight * up a = rw (mul-add, mul-add) at (ap (λ (n : ℕ). weight * n) ex) in
    minus_moved (weight * x + y) (4 * weight + 4) (weight * up a + up (level_of q second)) (weight * down a + down (level_of q second)) (omega arith)
