-- `code_reader::short_code` meets its contract: its three tests, and the code that the word has. Assumes nothing.
use borrow.Author.Tests.{lt-ltb, le-ltb, le-leb, lt-leb}
use mathlib.Core.Path.{◌≡◌}
use mathlib.Core.List.{List}
use Prim.Native.Nat.{ℕ, ◌+◌, ◌-◌, ◌*◌, ◌/◌, ◌%◌, ◌^◌, ◌≤◌, ◌<◌}
use native.Mathlib.Omega.{arith}
use lib.Count.{count_leading_zeros}
use Rattle.bits.specs.Bits.{bits_at}
use Rattle.bits.specs.Inside.{word_at}
use Rattle.bits.proofs.RunLaws.{run_inside}
use Rattle.code.specs.Codes.{short_code}
use Rattle.code.specs.Inside.{short_at}
use Rattle.code.proofs.CodeLaws.{short_lt, shifted}
use Rattle.code_reader.proofs.ShortLaws.{Window, window}
use Rattle.code_reader.proofs.short_code.Goals as goal
use Rattle.code_reader.proofs.short_code.Goals.{Else-limit-zeros}
use Rattle.std.specs.Prelude.{None, Some}

module _ (s : List ℕ) (p k limit w z : ℕ) (i : Window s p k w z) (hk : k ≤ 15) (hl : limit < 64) (h : z < limit) where
  abbrev value : ℕ
  value = (z * 2 ^ k) % 2 ^ 32 + (w / 2 ^ (64 - (z + 1 + k)) - (1 * 2 ^ k) % 2 ^ 32)

  value-is : value ≡ (short_code s p k z).value
  value-is =
      let low : w / 2 ^ (64 - (z + 1 + k)) - (1 * 2 ^ k) % 2 ^ 32 ≡ bits_at s (p + z + 1) k = omega (arith, i.top, i.one) in
      rw (shifted z k (omega arith) hk, low)

  small : value < 63 * 2 ^ 15
  small = omega (arith, value-is, short_lt s p k limit 0 z hk hl h)

-- ---- the four answers
module _ (M k limit : ℕ) (s : List ℕ) (p w : ℕ) (e : w ≡ word_at s p) where
  no_word : w < 2 ^ 22 → None ≡ short_at M k limit s p
  unfolding short_at
  no_word h = rw (lt-leb (2 ^ 22) (word_at s p) (rw e at h))

  too_many : 2 ^ 22 ≤ w → limit ≤ count_leading_zeros 64 w → None ≡ short_at M k limit s p
  unfolding short_at
  too_many h l = rw (le-leb (2 ^ 22) (word_at s p) (rw e at h), le-ltb (count_leading_zeros 64 (word_at s p)) limit (rw e at l))

  module _ (v : ℕ) (h : 2 ^ 22 ≤ w) (l : count_leading_zeros 64 w < limit) (ev : v ≡ (short_code s p k (count_leading_zeros 64 w)).value) where
    too_large : M < v → None ≡ short_at M k limit s p
    unfolding short_at
    too_large g =
        rw (le-leb (2 ^ 22) (word_at s p) (rw e at h), lt-ltb (count_leading_zeros 64 (word_at s p)) limit (rw e at l), lt-leb (short_code s p k (count_leading_zeros 64 (word_at s p))).value M (rw (ev, e) at g))

    found : v ≤ M → Some (v, (record { 0 = p + (count_leading_zeros 64 w + 1 + k) })) ≡ short_at M k limit s p
    unfolding short_at
    found g =
        let at : p + (count_leading_zeros 64 w + 1 + k) ≡ p + count_leading_zeros 64 w + 1 + k = omega arith in
        rw (le-leb (2 ^ 22) (word_at s p) (rw e at h), lt-ltb (count_leading_zeros 64 (word_at s p)) limit (rw e at l), le-leb (short_code s p k (count_leading_zeros 64 (word_at s p))).value M (rw (ev, e) at g), at, ev, e)

abbrev word : (c : Else-limit-zeros) → ℕ
word c = c.next_word-w.result

known : (c : Else-limit-zeros) → Window c.args.s.now c.args.at.0 c.args.k (word c) (count_leading_zeros 64 (word c))
known c = window _ _ _ _ c.next_word-w.ensures c.if-w-lt4194304.false c.requires.1.0

is_value : (c : Else-limit-zeros) →
    value c.args.s.now c.args.at.0 c.args.k c.args.limit (word c) _ (known c) c.requires.1.0 c.requires.1.1 c.if-limit-zeros.false
    ≡ (short_code c.args.s.now c.args.at.0 c.args.k (count_leading_zeros 64 (word c))).value
is_value c = value-is _ _ _ _ _ _ (known c) c.requires.1.0 c.requires.1.1 c.if-limit-zeros.false

pub returns-then-w-lt4194304 : goal.returns-then-w-lt4194304
returns-then-w-lt4194304 c = no_word _ _ _ _ _ _ c.next_word-w.ensures c.if-w-lt4194304.true

pub returns-then-limit-zeros : goal.returns-then-limit-zeros
returns-then-limit-zeros c = too_many _ _ _ _ _ _ c.next_word-w.ensures c.if-w-lt4194304.false c.if-limit-zeros.true

pub overflow_sub-low : goal.overflow_sub-low
overflow_sub-low c = omega (arith, (known c).inside)

pub overflow_cast-low-2 : goal.overflow_cast-low-2
overflow_cast-low-2 c = omega (arith, (known c).top, (known c).low, (known c).small)

pub overflow_sub-low-2 : goal.overflow_sub-low-2
overflow_sub-low-2 c = omega (arith, (known c).top, (known c).one)

pub overflow_add-value : goal.overflow_add-value
overflow_add-value c =
    record { fits = omega (arith, small _ _ c.args.k c.args.limit _ _ (known c) c.requires.1.0 c.requires.1.1 c.if-limit-zeros.false) }

pub returns-then-m-value : goal.returns-then-m-value
returns-then-m-value c =
    too_large _ _ _ _ _ _ c.next_word-w.ensures _ c.if-w-lt4194304.false c.if-limit-zeros.false (is_value (goal.at.returns-then-m-value c).Else-limit-zeros) c.if-m-value.true

pub overflow_add-result : goal.overflow_add-result
overflow_add-result c =
    omega (arith, (known (goal.at.overflow_add-result c).Else-limit-zeros).inside, run_inside _ _ _ (known (goal.at.overflow_add-result c).Else-limit-zeros).run, c.requires.0)

pub returns : goal.returns
returns c =
    found _ _ _ _ _ _ c.next_word-w.ensures _ c.if-w-lt4194304.false c.if-limit-zeros.false (is_value (goal.at.returns c).Else-limit-zeros) c.if-m-value.false

pub overflow_add-used : goal.overflow_add-used
overflow_add-used c = omega (arith, c.next_word-w.ensures)

pub overflow_add-used-2 : goal.overflow_add-used-2
overflow_add-used-2 c = omega (arith, c.requires)

pub overflow_cast-low : goal.overflow_cast-low
overflow_cast-low c = omega (arith, c.requires)

pub overflow_shr-low : goal.overflow_shr-low
overflow_shr-low c = omega (arith, c.requires)

pub overflow_shl-low : goal.overflow_shl-low
overflow_shl-low c = omega (arith, c.requires)

pub overflow_shl-value : goal.overflow_shl-value
overflow_shl-value c = omega (arith, c.requires)

pub overflow_cast-result : goal.overflow_cast-result
overflow_cast-result c = omega (arith, c.requires)
