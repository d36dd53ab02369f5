-- `bit_output::put_bits` meets its contract: at once where four bytes have room, else byte after byte. Assumes nothing.
use borrow.Author.Tests.{leb-true}
use mathlib.Core.Bool.{true, ◌&&◌}
use mathlib.Core.Path.{◌≡◌}
use Prim.Native.Nat.{ℕ, ◌+◌, ◌≤◌}
use lib.Dec.{leb}
use lib.ListN.{length}
use Rattle.numbers.proofs.BoolLaws.{both}
use Rattle.bit_output.proofs.WordLaws.{put_word}
use Rattle.bit_output.proofs.put_bits.Goals as goal

-- the test of the short way
tests : (used n from k : ℕ) → leb (used + n) 24 && leb (from + 4) k ≡ true → (used + n ≤ 24) × (from + 4 ≤ k)
tests used n from k e = let t = both (leb (used + n) 24) (leb (from + 4) k) e in (leb-true _ _ t.0, leb-true _ _ t.1)

pub returns-then-used-n : goal.returns-then-used-n
returns-then-used-n c =
    let t =
    tests
    c.in_byte-used.result
    c.args.n
    c.byte-from.result.0
    (length c.args.out.now)
    c.if-used-n.true
    in
    put_word
    c.args.out.now
    c.args.at.0
    c.args.n
    c.args.value
    (λ j. (c.slice_known-1.given j).fits)
    c.requires.0
    c.requires.1.1.1
    _
    _
    _
    (rw c.in_byte-used.ensures at t.0)
    (rw c.byte-from.ensures at t.1)
    (λ j. (c.slice_known-then-used-n-1.given j).fits)
    (rw c.byte-from.ensures at c.load32.ensures.0)
    (rw c.in_byte-used.ensures at c.merged.ensures.value)
    (rw c.byte-from.ensures at c.store32.ensures)
