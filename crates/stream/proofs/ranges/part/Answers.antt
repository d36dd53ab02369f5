-- `stream::ranges::part` meets its contract: a range that lies in the bytes is a part of them. Assumes nothing.
use mathlib.Core.List.{List}
use mathlib.Core.Path.{◌≡◌}
use Prim.Native.Nat.{ℕ, ◌+◌, ◌-◌, ◌≤◌}
use native.Mathlib.Nat.{add-sub_cancel_left}
use native.Mathlib.Omega.{arith}
use lib.ListN.{length, take, drop}
use Rattle.bits.specs.declared.ByteOffset.{ByteOffset}
use Rattle.stream.specs.Ranges.{part_of}
use Rattle.stream.specs.Inside.{Inside}
use Rattle.stream.proofs.ranges.part.Goals as goal
use Rattle.stream.proofs.ranges.part.Goals.{In-Ok}
use Rattle.std.specs.Prelude.{Ok, Result}
use Rattle.stream.specs.declared.header.Refusal.{Refusal}

module _ (d : List ℕ) (r : Result (ByteOffset × ℕ) Refusal) (from : ByteOffset) (n : ℕ) (e : r ≡ Ok (from, n)) where
  inside : Inside d r → from.0 + n ≤ length d
  inside i = rw e at i

  taken : take (from.0 + n - from.0) (drop from.0 d) ≡ part_of d r
  taken = rw (e, add-sub_cancel_left)

inside_of : (c : In-Ok) → c.in-Ok.from.0 + c.in-Ok.n ≤ length c.args.d.now
inside_of c = inside _ _ _ _ c.in-Ok.is c.requires

pub overflow_add-end : goal.overflow_add-end
overflow_add-end c = omega (arith, inside_of c)

pub slice_bounds-result-end : goal.slice_bounds-result-end
slice_bounds-result-end c = omega (arith, inside_of c)

pub returns-in-Ok : goal.returns-in-Ok
returns-in-Ok c = taken _ _ _ _ c.in-Ok.is

pub slice_bounds-result-count : goal.slice_bounds-result-count
slice_bounds-result-count c = omega arith

pub slice_bounds-result-end-in-Err : goal.slice_bounds-result-end-in-Err
slice_bounds-result-end-in-Err c = omega arith
