-- Which bytes parse, and what the rules give for a header that does. Assumes nothing.
use mathlib.Core.Bool.{Bool, true, false, cond, ◌&&◌, ◌||◌}
use mathlib.Core.List.{List}
use mathlib.Core.Path.{◌≡◌, refl}
use Prim.Native.Nat.{ℕ, ◌-◌, ◌/◌, ◌%◌, ◌≤◌, ◌<◌}
use native.Mathlib.Omega.{arith}
use lib.Dec.{leb, ltb, eqb, lit≤}
use lib.ListN.{length}
use borrow.Author.Tests.{lt-ltb, le-ltb, ltb-false, leb-true, eqb-true}
use Rattle.numbers.proofs.BoolLaws.{both}
use Rattle.stream.specs.Headers.{byte_at, be16, header_of, within, divides, kind_rules, size_rules, count_rules, all_rules, parse_of}
use Rattle.stream.specs.Inside.{Ruled}
use Rattle.stream.specs.declared.header.FujiHeader.{FujiHeader}
use Rattle.stream.specs.declared.header.Refusal.TheVariants.{ShortHeader, BadHeader}
use Rattle.std.specs.Prelude.{Err, Ok}

-- the three ways in which bytes parse
module _ (d : List ℕ) where
  pub parse_short : length d < 16 → parse_of d ≡ Err ShortHeader
  unfolding parse_of
  parse_short h = rw (lt-ltb (length d) 16 h)

  pub parse_bad : 16 ≤ length d → all_rules d ≡ false → parse_of d ≡ Err BadHeader
  unfolding parse_of
  parse_bad h e = rw (le-ltb (length d) 16 h, e)

  pub parse_good : 16 ≤ length d → all_rules d ≡ true → parse_of d ≡ Ok (header_of d)
  unfolding parse_of
  parse_good h e = rw (le-ltb (length d) 16 h, e)

-- the bytes of a header that parses
pub record IsParsed (d : List ℕ) (h : FujiHeader) : Type 0 where
  pub whole : 16 ≤ length d
  pub rules : all_rules d ≡ true
  pub header : h ≡ header_of d

pub parsed : (d : List ℕ) (h : FujiHeader) → parse_of d ≡ Ok h → IsParsed d h
unfolding parse_of
parsed d h = go (ltb (length d) 16) (all_rules d) refl refl
  where
    go : (s r : Bool) → ltb (length d) 16 ≡ s → all_rules d ≡ r
        → cond s (Err ShortHeader) (cond r (Ok (header_of d)) (Err BadHeader)) ≡ Ok h → IsParsed d h
    go true r l e g = absurd (let no : ◌≡◌ {A = ℕ} 0 1 = cc in omega arith)
    go false true l e g = record { whole = ltb-false (length d) 16 l; rules = e; header = cc }
    go false false l e g = absurd (let no : ◌≡◌ {A = ℕ} 0 1 = cc in omega arith)

-- each test of a chain that holds
four : (a b c d : Bool) → (a && b && c && d) ≡ true → (a ≡ true) × (b ≡ true) × (c ≡ true) × (d ≡ true)
four a b c d e =
    let z = both (a && b && c) d e in
    let y = both (a && b) c z.0 in
    let x = both a b y.0 in
    (x.0, x.1, y.1, z.1)

either : {X : Type 0} (a b : Bool) → (a || b) ≡ true → (a ≡ true → X) → (b ≡ true → X) → X
either true b e f g = f refl
either false b e f g = g e

is_within : (a b x : ℕ) → within a b x ≡ true → (a ≤ x) × (x ≤ b)
is_within a b x e =
    let t = both (leb a x) (leb x b) e in
    (leb-true a x t.0, leb-true x b t.1)

-- 12, 14 or 16
abbrev pub Depth : ℕ → Type 0
Depth n = (12 ≤ n) × (n ≤ 16) × (n % 2 ≡ 0)

pub depth : (n : ℕ) → (eqb n 12 || eqb n 14 || eqb n 16) ≡ true → Depth n
depth n e =
    either (eqb n 12 || eqb n 14) (eqb n 16) e
    (λ f. either (eqb n 12) (eqb n 14) f (λ g. is 12 (eqb-true n 12 g) (lit≤ tt, lit≤ tt, refl)) (λ g. is 14 (eqb-true n 14 g) (lit≤ tt, lit≤ tt, refl)))
    (λ g. is 16 (eqb-true n 16 g) (lit≤ tt, lit≤ tt, refl))
  where
    is : (m : ℕ) → n ≡ m → Depth m → Depth n
    is m g t = rw g t

-- what each group of rules gives
kind : (d : List ℕ) → kind_rules d ≡ true → Depth (header_of d).bits
unfolding kind_rules header_of
kind d e = depth (byte_at d 4) (four (eqb (be16 d 0) 0x4953) (leb (byte_at d 2) 1) (eqb (byte_at d 3) 0 || eqb (byte_at d 3) 16) (eqb (byte_at d 4) 12 || eqb (byte_at d 4) 14 || eqb (byte_at d 4) 16) e).3

record Sizes (h : FujiHeader) : Type 0 where
  height : h.height % 6 ≡ 0
  rounded : h.rounded_width % 768 ≡ 0
  low : h.width ≤ h.rounded_width
  high : h.rounded_width - h.width ≤ 767
  size : h.block_size ≡ 768

module _ (h : FujiHeader) where
  sizes : size_rules h ≡ true → Sizes h
  unfolding size_rules
  sizes e =
      let a : Bool = within 6 0x4002 h.height in
      let b : Bool = divides 6 h.height in
      let c : Bool = within 0x300 0x4200 h.rounded_width in
      let d : Bool = divides 768 h.rounded_width in
      let f : Bool = within 0x300 0x4200 h.width in
      let g : Bool = divides 24 h.width in
      let z = four (a && b && c && d && f && g) (leb h.width h.rounded_width) (leb (h.rounded_width - h.width) 767) (eqb h.block_size 0x300) e in
      let y = four (a && b && c) d f g z.0 in
      let x = both (a && b) c y.0 in
      record {
        height = eqb-true (h.height % 6) 0 (both a b x.0).1;
        rounded = eqb-true (h.rounded_width % 768) 0 y.1;
        low = leb-true h.width h.rounded_width z.1;
        high = leb-true (h.rounded_width - h.width) 767 z.2;
        size = eqb-true h.block_size 0x300 z.3;
      }

  record Counts : Type 0 where
    blocks : (1 ≤ h.blocks) × (h.blocks ≤ 16)
    blocks_is : h.blocks ≡ h.rounded_width / 768
    lines : (1 ≤ h.lines) × (h.lines ≤ 2731)
    lines_is : h.lines ≡ h.height / 6

  counts : count_rules h ≡ true → Counts
  unfolding count_rules
  counts e =
      let z = four (within 1 16 h.blocks) (eqb h.blocks (h.rounded_width / 768)) (within 1 0xAAB h.lines) (eqb h.lines (h.height / 6)) e in
      record {
        blocks = is_within 1 16 h.blocks z.0;
        blocks_is = eqb-true h.blocks (h.rounded_width / 768) z.1;
        lines = is_within 1 0xAAB h.lines z.2;
        lines_is = eqb-true h.lines (h.height / 6) z.3;
      }

  together : Depth h.bits → Sizes h → Counts → Ruled h
  together b s n =
      record {
        bits_low = b.0;
        bits_high = b.1;
        bits_even = b.2;
        blocks_low = n.blocks.0;
        blocks_high = n.blocks.1;
        lines_low = n.lines.0;
        lines_high = n.lines.1;
        height_is = omega arith;
        rounded_is = omega arith;
        width_high = omega arith;
        width_low = omega arith;
        block_size_is = s.size;
      }

pub ruled : (d : List ℕ) (h : FujiHeader) → parse_of d ≡ Ok h → Ruled h
ruled d h e =
    let p = parsed d h e in
    let z = both (kind_rules d && size_rules (header_of d)) (count_rules (header_of d)) p.rules in
    let y = both (kind_rules d) (size_rules (header_of d)) z.0 in
    rw p.header (together (header_of d) (kind d y.0) (sizes (header_of d) y.1) (counts (header_of d) z.1))
