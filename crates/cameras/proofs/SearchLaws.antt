-- A search through the 16 entries, from the first on. Assumes nothing.
use mathlib.Core.Bool.{Bool, true, false}
use mathlib.Core.Path.{◌≡◌, sym, ◌∙◌}
use Prim.Native.Nat.{ℕ, ◌+◌, ◌-◌, ◌≤◌, ◌<◌}
use native.Mathlib.Omega.{arith}
use Rattle.numbers.specs.Numbers.{least_from}
use Rattle.numbers.proofs.LeastLaws.{least_last, least_here, least_next}

-- none before entry i passed the test
abbrev pub NoneBefore : (ℕ → Bool) → ℕ → Type 0
NoneBefore test i = (i ≤ 16) × (least_from 16 test 0 ≡ least_from (16 - i) test i)

pub found : (test : ℕ → Bool) (i : ℕ) → NoneBefore test i → i < 16 → test i ≡ true → (i ≡ least_from 16 test 0) × (i < 16)
found test i n l t = (sym (n.1 ∙ least_here (16 - i) test i t), l)

pub goes_on : (test : ℕ → Bool) (i : ℕ) → NoneBefore test i → i < 16 → test i ≡ false → NoneBefore test (i + 1)
goes_on test i n l t =
    let e : 16 - i - 1 ≡ 16 - (i + 1) = omega arith in
    (omega arith, rw e at (n.1 ∙ least_next (16 - i) test i (omega arith) t))

pub ended : (test : ℕ → Bool) (i : ℕ) → NoneBefore test i → 16 ≤ i → least_from 16 test 0 ≡ 16
ended test i n l = let e = n.1 ∙ least_last (16 - i) test i (omega arith) in omega (arith, n.0)
