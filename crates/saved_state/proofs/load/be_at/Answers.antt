-- `saved_state::load::be_at` meets its contract: the number of the first k bytes. Assumes nothing.
use mathlib.Core.List.{List}
use mathlib.Core.Path.{◌≡◌, refl}
use Prim.Native.Nat.{ℕ, ◌*◌, ◌^◌, ◌≤◌, ◌<◌}
use native.Mathlib.Omega.{arith}
use lib.Dec.{lit≤}
use lib.Pow.{pow_mono}
use Rattle.saved_state.specs.Checkpoints.{be_at}
use Rattle.saved_state.proofs.PutLaws.{eights}
use Rattle.saved_state.proofs.ByteLaws.{next_power, at_more}
use Rattle.saved_state.proofs.load.be_at.Goals as goal

-- seven bytes before the last one
seven : (k n : ℕ) → k < n → n ≤ 8 → 256 ^ k ≤ 2 ^ 56
seven k n h l = rw (eights k) at (pow_mono {i = 8 * k} {j = 56} (omega arith))

done : (s : List ℕ) (i k n x : ℕ) → k ≡ n → x ≡ be_at s i k → x < 256 ^ k → (x ≡ be_at s i n) × (x < 256 ^ n)
done s i k n x e f g = (rw e at f, rw e at g)

pub loop-k-init : goal.loop-k-init
unfolding be_at
loop-k-init c = (refl, lit≤ tt)

pub overflow_mul-x : goal.overflow_mul-x
overflow_mul-x c = omega (arith, seven c.loop-k.k c.args.n (omega arith) c.requires.0)

pub overflow_add-x : goal.overflow_add-x
overflow_add-x c =
    omega (arith, seven c.loop-k.k c.args.n (omega arith) c.requires.0)

pub loop-k-preserved : goal.loop-k-preserved
loop-k-preserved c =
    (at_more _ _ c.loop-k.k _ _ c.loop-k.invariant.0 c.from.ensures, omega (arith, next_power c.loop-k.k))

pub returns : goal.returns
returns c = done _ _ c.loop-k.k _ _ (omega arith) c.loop-k.invariant.0 c.loop-k.invariant.1
