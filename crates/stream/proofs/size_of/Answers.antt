-- `stream::size_of` meets its contract: two pairs of bytes are four bytes. Assumes nothing.
use borrow.Author.Rules.{rules}
use mathlib.Core.List.{List}
use mathlib.Core.Path.{◌≡◌}
use Prim.Native.Nat.{ℕ, ◌+◌, ◌*◌}
use native.Mathlib.Omega.{arith}
use Rattle.bits.specs.Bits.{be32}
use Rattle.stream.specs.Headers.{be16}
use Rattle.stream.proofs.size_of.Goals as goal

pairs : (d : List ℕ) (i a b : ℕ) → a ≡ be16 d i → b ≡ be16 d (i + 2) → a * 0x10000 + b ≡ be32 d i
pairs d i a b ea eb =
    let e : i + 2 + 1 ≡ i + 3 = omega arith in
    rw (ea, eb, e) (omega arith)

pub returns : goal.returns
returns c =
    (pairs c.args.d.now (16 + 4 * c.args.b) _ _ c.pair.ensures.0 c.pair-2.ensures.0, search rules)

pub overflow_mul-i : goal.overflow_mul-i
overflow_mul-i c = omega (arith, c.requires)

pub overflow_add-i : goal.overflow_add-i
overflow_add-i c = omega (arith, c.requires)

pub pair-requires : goal.pair-requires
pair-requires c = omega (arith, c.requires)

pub overflow_mul-result : goal.overflow_mul-result
overflow_mul-result c = omega (arith, c.pair.ensures)

pub overflow_add-i-2 : goal.overflow_add-i-2
overflow_add-i-2 c = omega (arith, c.requires)

pub pair-requires-2 : goal.pair-requires-2
pair-requires-2 c = omega (arith, c.requires)

pub overflow_add-result : goal.overflow_add-result
overflow_add-result c = omega (arith, c.pair.ensures, c.pair-2.ensures)

pub overflow_cast-result : goal.overflow_cast-result
overflow_cast-result c = omega (arith, c.pair.ensures, c.pair-2.ensures)
