-- Case distinctions on natural numbers. Assumes nothing.
use mathlib.Core.Bool.{Bool, true, false, cond}
use mathlib.Core.Path.{◌≡◌}
use Prim.Native.Nat.{ℕ, ◌+◌, ◌*◌, ◌/◌, ◌%◌, ◌≤◌, ◌<◌}
use native.Mathlib.Nat.{lt_of_not-le}
use native.Mathlib.Decide.{dec_le}
use native.Mathlib.Omega.{arith}

-- one order or the other
pub split {ℓ} : {X : Type ℓ} (a b : ℕ) → (a ≤ b → X) → (b < a → X) → X
split a b f g = elim (dec_le a b) [ yes h ↦ f h | no h ↦ g (lt_of_not-le h) ]

-- every number is even, or one less than even
pub parity {ℓ} : {X : Type ℓ} (c : ℕ) → ((d : ℕ) → c ≡ 2 * d → X) → ((d : ℕ) → c + 1 ≡ 2 * d → X) → X
parity c f g = split (c % 2) 0 (λ h. f (c / 2) (omega arith)) (λ h. g ((c + 1) / 2) (omega arith))

-- what bounds both bounds the one that a test picks
pub cond_le : (m : ℕ) (t : Bool) (a b : ℕ) → a ≤ m → b ≤ m → cond t a b ≤ m
cond_le m true a b ha hb = ha
cond_le m false a b ha hb = hb
