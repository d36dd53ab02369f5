-- `stream_front::fill_front` meets its contract. The invariant: the bytes before i stand there, and what follows is what it was. Assumes nothing.
use mathlib.Core.List.{List, ◌++◌}
use mathlib.Core.Path.{◌≡◌, refl, ◌∙◌}
use Prim.Native.Nat.{ℕ}
use native.Mathlib.Omega.{arith}
use lib.ListN.{drop, length-set}
use Rattle.read_block.specs.Records.{table}
use Rattle.stream_front.specs.Fronts.{front_byte}
use Rattle.stream_front.proofs.FrontLaws.{fill_next}
use Rattle.stream_front.proofs.fill_front.Goals as goal

done : (f : ℕ → ℕ) (d : List ℕ) (i n m : ℕ) → i ≡ n → n ≡ m → table f i ++ drop i d ≡ table f m ++ drop n d
done f d i n m e g = rw (e, g)

pub loop-i-init : goal.loop-i-init
unfolding table
loop-i-init c = (refl, refl)

pub loop-i-preserved : goal.loop-i-preserved
loop-i-preserved c =
    (simp length-set c.loop-i.invariant.0, rw c.loop-i.invariant.1 (fill_next _ _ c.loop-i.i _ (omega (arith, c.requires.ruled.1.1.1)) c.front_byte.ensures))

pub returns : goal.returns
returns c =
    let e : c.loop-i.i ≡ c.args.n = omega arith in
    c.loop-i.invariant.1 ∙ done (front_byte c.args.header.now c.args.h c.args.rows.now c.args.lengths.now) c.args.out.now c.loop-i.i
    c.args.n _ e c.requires.ruled.1.1.0
