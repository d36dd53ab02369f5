-- `stream_copies::finish` meets its contract. Assumes nothing.
use mathlib.Core.List.{List}
use mathlib.Core.Path.{◌≡◌}
use Prim.Native.Nat.{ℕ, ◌-◌}
use native.Mathlib.Nat.{sub-zero}
use lib.ListN.{take}
use Rattle.stream.specs.Headers.{parse_of}
use Rattle.stream_front.specs.Fronts.{LeftFront}
use Rattle.stream_copies.proofs.finish.Goals as goal
use Rattle.std.specs.Prelude.{Result}
use Rattle.stream.specs.declared.header.FujiHeader.{FujiHeader}
use Rattle.stream.specs.declared.header.Refusal.{Refusal}

left : (head rows lengths : List ℕ) (n m : ℕ) (p : Result FujiHeader Refusal) (out out' : List ℕ) (a : Result ℕ Refusal) → m ≡ n
    → LeftFront head rows (take m lengths) p out out' a → LeftFront head rows (take n lengths) p out out' a
left head rows lengths n m p out out' a e l = rw e at l

pub returns : goal.returns
returns c =
    left c.args.head.now c.args.rows.now c.args.lengths.now c.args.blocks (c.args.blocks - 0) (parse_of c.args.head.now)
    c.args.out.now
    c.put_front.new.out c.put_front.result (sub-zero c.args.blocks)
    c.put_front.ensures
