-- `base_plan::records::read_digits` meets its contract. The invariant: n digits are read, and the search from the n-th on gives what the search from the first
-- on gives. Assumes nothing.
use Rattle.std.proofs.Common.{arith, true, ◌≡◌, refl, sym, ◌∙◌, ◌+◌, ◌<◌, length}
use borrow.Author.Tests.{not-true, not-false}
use lib.Dec.{lit<}
use Rattle.base_plan.specs.Records.{is_digit}
use Rattle.base_plan.proofs.DigitLaws.{digit_range, from_start, from_here, from_next, from_last}
use Rattle.base_plan.proofs.DigitLaws.{no_digits, one_digit, found, small_next, small_five}
use Rattle.base_plan.proofs.records.read_digits.Goals as goal
use Rattle.base_plan.proofs.records.read_digits.Goals.{Else-not-is_digit}

-- the n-th byte is a digit
is_digit_lem : (c : Else-not-is_digit) → is_digit c.byte-b.result ≡ true
is_digit_lem c = sym c.is_digit.ensures ∙ not-false _ c.if-not-is_digit.false-raw

-- so it lies inside
inside : (c : Else-not-is_digit) → c.args.i + c.loop-n.n < length c.args.d.now
inside c = c.byte-b.ensures.2 (omega (arith, digit_range c.byte-b.result (is_digit_lem c)))

pub loop-n-init : goal.loop-n-init
loop-n-init c = (omega arith, no_digits _ _, lit< tt, from_start _ _)

pub returns-then-not-is_digit : goal.returns-then-not-is_digit
returns-then-not-is_digit c =
    let none = sym c.is_digit.ensures ∙ not-true _ c.if-not-is_digit.true-raw in
    found c.args.d.now c.args.i c.loop-n.n c.loop-n.number _ (c.loop-n.invariant.3 ∙ from_here c.args.d.now c.args.i c.loop-n.n (rw c.byte-b.ensures.0 at none)) c.loop-n.invariant.1 refl c.loop-n.invariant.0

pub overflow_mul-number : goal.overflow_mul-number
overflow_mul-number c = omega (arith, c.loop-n.invariant.2, small_five c.loop-n.n (omega arith))

pub overflow_sub-number : goal.overflow_sub-number
overflow_sub-number c = (digit_range c.byte-b.result (is_digit_lem c)).0

pub overflow_add-number : goal.overflow_add-number
overflow_add-number c =
    omega (arith, c.loop-n.invariant.2, small_five c.loop-n.n (omega arith), digit_range c.byte-b.result (is_digit_lem c))

pub loop-n-preserved : goal.loop-n-preserved
loop-n-preserved c =
    let is = is_digit_lem c in (
      omega (arith, inside c),
      one_digit c.args.d.now c.args.i c.loop-n.n c.loop-n.number _ c.loop-n.invariant.1 c.byte-b.ensures.0,
      small_next c.loop-n.n c.loop-n.number _ c.loop-n.invariant.2 (digit_range c.byte-b.result is).1,
      c.loop-n.invariant.3 ∙ from_next c.args.d.now c.args.i c.loop-n.n (omega arith) (rw c.byte-b.ensures.0 at is),
    )

pub returns : goal.returns
returns c =
    let e : c.loop-n.n ≡ 5 = omega arith in
    found c.args.d.now c.args.i 5 c.loop-n.number _ (c.loop-n.invariant.3 ∙ rw e (from_last c.args.d.now c.args.i 5 (omega arith) (omega arith))) (rw e at c.loop-n.invariant.1) refl (rw e at c.loop-n.invariant.0)
