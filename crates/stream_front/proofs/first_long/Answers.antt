-- `stream_front::first_long` meets its contract. The invariant: the search from b on gives what the search from 0 on gives. Assumes nothing.
use mathlib.Core.List.{List}
use mathlib.Core.Path.{◌≡◌, sym, ◌∙◌}
use Prim.Native.Nat.{ℕ, ◌+◌, ◌-◌, ◌^◌, ◌≤◌, ◌<◌}
use native.Mathlib.Omega.{arith}
use lib.ListN.{length, get_or}
use borrow.Author.Tests.{lt-ltb, le-ltb}
use Rattle.numbers.proofs.LeastLaws.{least_last, least_here, least_next}
use Rattle.stream_front.specs.Fronts.{is_long, first_long}
use Rattle.stream_front.proofs.first_long.Invariants.{longFrom}
use Rattle.stream_front.proofs.first_long.Goals as goal

start : (lengths : List ℕ) → first_long lengths ≡ longFrom lengths 0
unfolding first_long
start lengths = let e : length lengths - 0 ≡ length lengths = omega arith in rw e

module _ (lengths : List ℕ) (b : ℕ) (inv : first_long lengths ≡ longFrom lengths b) where
  here : 2 ^ 32 - 1 < get_or lengths b 0 → b ≡ first_long lengths
  here l = sym (inv ∙ least_here (length lengths - b) (λ i. is_long lengths i) b (lt-ltb _ _ l))

  next : b < length lengths → get_or lengths b 0 ≤ 2 ^ 32 - 1 → first_long lengths ≡ longFrom lengths (b + 1)
  next k l =
      let e : length lengths - b - 1 ≡ length lengths - (b + 1) = omega arith in
      inv ∙ least_next (length lengths - b) (λ i. is_long lengths i) b (omega arith) (le-ltb _ _ l) ∙ rw e

pub returns-then-length-gt4294967295 : goal.returns-then-length-gt4294967295
returns-then-length-gt4294967295 c = (here _ _ c.loop-b.invariant (omega arith), omega arith)

pub loop-b-preserved : goal.loop-b-preserved
loop-b-preserved c = next _ _ c.loop-b.invariant (omega arith) (omega arith)

pub returns : goal.returns
returns c = let e = c.loop-b.invariant ∙ least_last _ _ _ (omega arith) in omega arith

pub loop-b-init : goal.loop-b-init
loop-b-init c = start _
