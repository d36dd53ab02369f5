-- `stream::bound_in` meets its contract. Assumes nothing.
use borrow.Author.Tests.{not-true, not-false}
use mathlib.Core.Bool.{true}
use mathlib.Core.Path.{◌≡◌}
use Prim.Native.Nat.{ℕ}
use native.Mathlib.Omega.{arith}
use Rattle.stream.specs.Lengths.{length_bound, bound_answer}
use Rattle.stream.specs.declared.header.FujiHeader.{FujiHeader}
use Rattle.stream.proofs.bound_in.Goals as goal
use Rattle.std.specs.Prelude.{Ok}

bounded : (h : FujiHeader) (n : ℕ) → h.lossless ≡ true → n ≡ length_bound h → Ok n ≡ bound_answer (Ok h)
bounded h n l e = rw (l, e)

pub returns-then-not-lossless : goal.returns-then-not-lossless
returns-then-not-lossless c = simp (not-true c.args.h.lossless c.if-not-lossless.true-raw)

pub returns : goal.returns
returns c =
    bounded c.args.h _ (not-false c.args.h.lossless c.if-not-lossless.false-raw) c.most_bytes.ensures

pub overflow_cast-lines : goal.overflow_cast-lines
overflow_cast-lines c = omega (arith, c.requires)

pub overflow_cast-bits : goal.overflow_cast-bits
overflow_cast-bits c = omega (arith, c.requires)

pub most_bytes-requires : goal.most_bytes-requires
most_bytes-requires c = omega
    (arith, c.requires)
