-- Predictions lie among the samples that they are made from, and a step's record is one of 112. Assumes nothing.
use mathlib.Core.Bool.{Bool, true, false, cond}
use mathlib.Core.List.{List}
use mathlib.Core.Path.{◌≡◌, ap, ◌∙◌}
use native.Mathlib.Nat.{add-mul}
use Prim.Native.Nat.{ℕ, ◌+◌, ◌-◌, ◌*◌, ◌%◌, ◌≤◌, ◌<◌}
use native.Mathlib.Omega.{arith}
use lib.Dec.{eqb}
use lib.ListN.{get_or, set}
use Rattle.prediction.specs.Predictions.{even_context, odd_context}
use Rattle.prediction.proofs.PredictionLaws.{even_le, odd_le}
use Rattle.prediction.specs.declared.Context.{Context}
use Rattle.pass_steps.specs.Contexts.{left_in, right_in, even_in, odd_in, context_in, look_of, slot_of}
use Rattle.pass_steps.specs.Values.{even_at, odd_at, context_at}
use Rattle.pass_steps.proofs.LookLaws.{place_lt}
use Rattle.pass_steps.proofs.ZipLaws.{set_keeps}

-- no entry of a list is above m
abbrev pub AllLe : ℕ → List ℕ → Type 0
AllLe m l = (j : ℕ) → get_or l j 0 ≤ m

-- predictions lie among the samples
pub context_le : (m W : ℕ) (lines : List ℕ) (l p : ℕ) → AllLe m lines → (context_in W lines l p).prediction ≤ m
unfolding context_in even_in odd_in even_context odd_context
context_le m W lines l p h = go (eqb (p % 2) 0)
  where
    go : (b : Bool) → (cond b (even_in W lines l p) (odd_in W lines l p)).prediction ≤ m
    go true = even_le m _ _ _ _ (h _) (h _) (h _) (h _)
    go false = odd_le m _ _ _ (left_in W lines (l - 1) p) (right_in W lines (l - 1) p) (h _) (h _) (h _)

-- the context that the program finds by places, S = W + 2 apart, is that of line l
pub context_is : (W l p : ℕ) (lines : List ℕ) {i : ℕ} {x : Context} → 2 ≤ l → i ≡ l * (W + 2) + p → x ≡ context_at lines (W + 2) i p
    → x ≡ context_in W lines l p
unfolding context_at context_in even_at odd_at even_in odd_in
context_is W l p lines {i} low place e =
    let split : (k : ℕ) → k ≤ l → l ≡ (l - k) + k = λ k h. omega arith in
    let a : l * (W + 2) ≡ (l - 2) * (W + 2) + 2 * (W + 2) = ap (λ (m : ℕ). m * (W + 2)) (split 2 low) ∙ add-mul (l - 2) 2 (W + 2) in
    let b : l * (W + 2) ≡ (l - 1) * (W + 2) + 1 * (W + 2) = ap (λ (m : ℕ). m * (W + 2)) (split 1 (omega arith)) ∙ add-mul (l - 1) 1 (W + 2) in
    let rf : i + 1 - 2 * (W + 2) ≡ (l - 2) * (W + 2) + (p + 1) = omega arith in
    let rc : i - (W + 2) ≡ (l - 1) * (W + 2) + p = omega arith in
    let rb : i + 1 - (W + 2) ≡ (l - 1) * (W + 2) + (p + 1) = omega arith in
    let rd : i + 2 - (W + 2) ≡ (l - 1) * (W + 2) + (p + 2) = omega arith in
    let rg : i + 2 ≡ l * (W + 2) + (p + 2) = omega arith in
    e ∙ rw (rf, rc, rb, rd, rg, place)

-- a sample within 0..M is put into the lines
pub stored_le : (m : ℕ) (l : List ℕ) (i v : ℕ) → v ≤ m → AllLe m l → AllLe m (set l i v)
stored_le m l i v h k j = set_keeps (λ (n : ℕ). n ≤ m) l 0 i v j (k j) h

-- where a record is in its set
pub slot_lt : (p q : ℕ) (x : Context) → slot_of p (look_of q x).place < 112
slot_lt p q x = omega (arith, place_lt q x)
