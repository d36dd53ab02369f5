-- `base_plan::counts::first_amiss` meets its contract. The invariant: as many are held as have begun and not ended before n, and the search from n on gives
-- what the search from 0 on gives. Assumes nothing.
use mathlib.Core.Bool.{Bool, true, false}
use mathlib.Core.List.{List}
use mathlib.Core.Path.{◌≡◌, refl, sym, ◌∙◌}
use Prim.Native.Nat.{ℕ, ◌+◌, ◌-◌, ◌≤◌, ◌<◌}
use native.Mathlib.Numerals.{add-one}
use native.Mathlib.Omega.{arith}
use lib.ListN.{get_or}
use Rattle.numbers.proofs.LeastLaws.{least_last, least_here, least_next}
use Rattle.base_plan.specs.Counts.{is_amiss}
use Rattle.base_plan.specs.Inside.{sum_before, Balanced, amiss_in}
use Rattle.base_plan.proofs.counts.first_amiss.Invariants.{amissFrom}
use Rattle.base_plan.proofs.counts.first_amiss.Goals as goal

-- how many hold line n
abbrev held_at : List ℕ → List ℕ → ℕ → ℕ
held_at begins ends n = sum_before begins (n + 1) - sum_before ends (n + 1)

start_sum : (begins ends : List ℕ) → 0 + sum_before ends 0 ≡ sum_before begins 0
unfolding sum_before
start_sum begins ends = refl

start : (twice : Bool) (begins ends : List ℕ) (lines : ℕ) → amiss_in twice begins ends lines ≡ amissFrom twice begins ends lines 0
unfolding amiss_in
start twice begins ends lines = let e : lines - 0 ≡ lines = omega arith in rw e

module _ (begins ends : List ℕ) (n held : ℕ) (b : Balanced begins ends) (inv : held + sum_before ends n ≡ sum_before begins n) where
  next-begin : sum_before begins (n + 1) ≡ sum_before begins n + get_or begins n 0
  unfolding sum_before
  next-begin = rw (add-one n)

  next-end : sum_before ends (n + 1) ≡ sum_before ends n + get_or ends n 0
  unfolding sum_before
  next-end = rw (add-one n)

  sum_fits : held + get_or begins n 0 ≤ sum_before begins (n + 1)
  sum_fits = omega (arith, next-begin)

  ended-fits : get_or ends n 0 ≤ held + get_or begins n 0
  ended-fits = omega (arith, next-begin, next-end, b (n + 1))

  held_next : held + get_or begins n 0 - get_or ends n 0 + sum_before ends (n + 1) ≡ sum_before begins (n + 1)
  held_next = omega (arith, next-begin, next-end, ended-fits)

  held_is : held + get_or begins n 0 - get_or ends n 0 ≡ held_at begins ends n
  held_is = omega (arith, held_next)

module _ (twice : Bool) (begins ends : List ℕ) (lines n held : ℕ) (is : held ≡ held_at begins ends n)
    (inv : amiss_in twice begins ends lines ≡ amissFrom twice begins ends lines n) where
  here : is_amiss twice held ≡ true → n ≡ amiss_in twice begins ends lines
  here t = sym (inv ∙ least_here (lines - n) (λ i. is_amiss twice (held_at begins ends i)) n (rw (← is) t))

  next : n < lines → is_amiss twice held ≡ false → amiss_in twice begins ends lines ≡ amissFrom twice begins ends lines (n + 1)
  next h t =
      let e : lines - n - 1 ≡ lines - (n + 1) = omega arith in
      inv ∙ least_next (lines - n) (λ i. is_amiss twice (held_at begins ends i)) n (omega arith) (rw (← is) t) ∙ rw e

pub loop-n-init : goal.loop-n-init
loop-n-init c = (start_sum _ _, start c.args.twice c.args.begins.now c.args.ends.now c.args.lines)

pub overflow_add-held : goal.overflow_add-held
overflow_add-held c =
    omega (arith, sum_fits c.args.begins.now c.args.ends.now c.loop-n.n c.loop-n.held c.requires.1 c.loop-n.invariant.0, c.requires.1 (c.loop-n.n + 1))

pub overflow_sub-held : goal.overflow_sub-held
overflow_sub-held c =
    ended-fits c.args.begins.now c.args.ends.now c.loop-n.n c.loop-n.held c.requires.1 c.loop-n.invariant.0

pub returns-then-is_amiss : goal.returns-then-is_amiss
returns-then-is_amiss c = (
  here c.args.twice c.args.begins.now c.args.ends.now c.args.lines c.loop-n.n _ (held_is c.args.begins.now c.args.ends.now c.loop-n.n c.loop-n.held c.requires.1 c.loop-n.invariant.0) c.loop-n.invariant.1
      (sym c.is_amiss.ensures ∙ c.if-is_amiss.true),
  omega arith,
)

pub loop-n-preserved : goal.loop-n-preserved
loop-n-preserved c = (
  held_next c.args.begins.now c.args.ends.now c.loop-n.n c.loop-n.held c.requires.1 c.loop-n.invariant.0,
  next c.args.twice c.args.begins.now c.args.ends.now c.args.lines c.loop-n.n _ (held_is c.args.begins.now c.args.ends.now c.loop-n.n c.loop-n.held c.requires.1 c.loop-n.invariant.0) c.loop-n.invariant.1 (omega arith)
      (sym c.is_amiss.ensures ∙ c.if-is_amiss.false),
)

pub returns : goal.returns
returns c = let e = c.loop-n.invariant.1 ∙ least_last _ _ _ (omega arith) in omega arith
