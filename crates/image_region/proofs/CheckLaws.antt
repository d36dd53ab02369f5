-- The answers of a check, and what holds of a region that is accepted. Assumes nothing.
use mathlib.Core.Bool.{Bool, true, false, cond, ◌||◌}
use mathlib.Core.Path.{◌≡◌, refl}
use Prim.Native.Nat.{ℕ, ◌+◌, ◌-◌, ◌*◌, ◌^◌, ◌≤◌, ◌<◌}
use native.Mathlib.Nat.{mul-le-mul}
use native.Mathlib.Omega.{arith}
use lib.Dec.{ltb, eqb}
use borrow.Author.Tests.{lt-ltb, le-ltb, ltb-false, eqb-false, ne_eqb}
use Rattle.stream.specs.Inside.{Ruled}
use Rattle.stream.specs.declared.header.FujiHeader.{FujiHeader}
use Rattle.stream.specs.declared.header.Refusal.TheVariants.{OutsideImage}
use Rattle.image_region.specs.Regions.{right_of, bottom_of, is_outside, is_empty, span_of, checked_of}
use Rattle.image_region.specs.Inside.{Accepted}
use Rattle.image_region.specs.declared.Rect.{Rect}
use Rattle.image_region.specs.declared.Span.{Span}
use Rattle.std.specs.Prelude.{Err, None, Ok, Some}

-- ---- refusal 7

module _ (h : FujiHeader) (r : Rect) (n right : ℕ) (re : right ≡ right_of r) where
  pub passes_right : h.width < right → true ≡ is_outside h r n
  unfolding is_outside
  passes_right l = rw (← re, lt-ltb h.width right l)

  module _ (bottom : ℕ) (be : bottom ≡ bottom_of r) (k : right ≤ h.width) where
    pub passes_bottom : h.height < bottom → true ≡ is_outside h r n
    unfolding is_outside
    passes_bottom l = rw (← re, ← be, le-ltb h.width right k, lt-ltb h.height bottom l)

    pub room_decides : bottom ≤ h.height → ltb n (r.width * r.height) ≡ is_outside h r n
    unfolding is_outside
    room_decides l = rw (← re, ← be, le-ltb h.width right k, le-ltb h.height bottom l)

-- a product of two numbers of 32 bits fits 64
pub product_fits : (a b : ℕ) → a < 2 ^ 32 → b < 2 ^ 32 → a * b < 2 ^ 64
product_fits a b k l =
    let x : a ≤ 2 ^ 32 - 1 = omega arith in
    let y : b ≤ 2 ^ 32 - 1 = omega arith in
    omega (arith, mul-le-mul x y)

-- ---- the answers

neither : (s t : Bool) → (s || t) ≡ false → (s ≡ false) × (t ≡ false)
neither false t e = (refl, e)
neither true t e = absurd (let no : ◌≡◌ {A = ℕ} 0 1 = cc in omega arith)

not_zero : (a : ℕ) → eqb a 0 ≡ false → 1 ≤ a
not_zero a e = let n = eqb-false a 0 e in omega (arith, n)

pub not_empty : (r : Rect) → is_empty r ≡ false → (1 ≤ r.width) × (1 ≤ r.height)
not_empty r e =
    let z = neither (eqb r.width 0) (eqb r.height 0) e in
    (not_zero r.width z.0, not_zero r.height z.1)

pub has_samples : (r : Rect) → 1 ≤ r.width → 1 ≤ r.height → is_empty r ≡ false
has_samples r k l = rw (ne_eqb r.width 0 (λ e. omega (arith, e)), ne_eqb r.height 0 (λ e. omega (arith, e)))

module _ (h : FujiHeader) (r : Rect) (n : ℕ) where
  pub says_refused : is_outside h r n ≡ true → Err OutsideImage ≡ checked_of h r n
  unfolding checked_of
  says_refused e = rw e

  pub says_empty : is_outside h r n ≡ false → is_empty r ≡ true → (Ok None) ≡ checked_of h r n
  unfolding checked_of
  says_empty e f = rw (e, f)

  pub says_touched : (s : Span) → is_outside h r n ≡ false → is_empty r ≡ false → s ≡ span_of r → Ok (Some s) ≡ checked_of h r n
  unfolding checked_of
  says_touched s e f g = rw (e, f, g)

-- ---- what is accepted

three : (s t u : Bool) → (s || t || u) ≡ false → (s ≡ false) × (t ≡ false) × (u ≡ false)
three s t u e =
    let y = neither (s || t) u e in
    let x = neither s t y.0 in
    (x.0, x.1, y.1)

-- what a region that is not refused keeps
module _ (h : FujiHeader) (r : Rect) (n : ℕ) where
  pub inside_edges : is_outside h r n ≡ false → (right_of r ≤ h.width) × (bottom_of r ≤ h.height) × (r.width * r.height ≤ n)
  unfolding is_outside
  inside_edges e =
      let z = three (ltb h.width (right_of r)) (ltb h.height (bottom_of r)) (ltb n (r.width * r.height)) e in
      (ltb-false h.width (right_of r) z.0, ltb-false h.height (bottom_of r) z.1, ltb-false n (r.width * r.height) z.2)

  pub accepted : (s : Span) → Ruled h → checked_of h r n ≡ Ok (Some s) → Accepted h r n × (s ≡ span_of r)
  unfolding checked_of
  accepted s k = go (is_outside h r n) (is_empty r) refl refl
    where
      go : (o e : Bool) → is_outside h r n ≡ o → is_empty r ≡ e → cond o (Err OutsideImage) (cond e (Ok None) (Ok (Some (span_of r)))) ≡ Ok (Some s)
          → Accepted h r n × (s ≡ span_of r)
      go true e p q g = absurd (let no : ◌≡◌ {A = ℕ} 0 1 = cc in omega arith)
      go false true p q g = absurd (let no : ◌≡◌ {A = ℕ} 0 1 = cc in omega arith)
      go false false p q g =
          let z = inside_edges p in
          let m = not_empty r q in
          let x : r.x + r.width ≤ h.width = omega (arith, z.0, k.width_high, k.blocks_high) in
          let y : r.y + r.height ≤ h.height = omega (arith, z.1, k.height_is, k.lines_high) in
          (record { ruled = k; right = x; bottom = y; wide = m.0; high = m.1; room = z.2 }, cc)
