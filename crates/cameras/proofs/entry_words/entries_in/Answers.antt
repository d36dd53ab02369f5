-- `cameras::entry_words::entries_in` meets its contract: the words of all entries, eight for each. Assumes nothing.
use lib.Dec.{lit<}
use mathlib.Core.List.{List, [], ◌∷◌}
use mathlib.Core.Path.{◌≡◌}
use Prim.Native.Nat.{ℕ}
use Rattle.cameras.specs.declared.Entry.{Entry}
use Rattle.cameras.specs.Words.{entry_in, entries_in}
use Rattle.cameras.proofs.entry_words.entries_in.Goals as goal

-- the list of 16 entries, each as the words have it
sixteen : (w : List ℕ) (e₀ e₁ e₂ e₃ e₄ e₅ e₆ e₇ e₈ e₉ f₀ f₁ f₂ f₃ f₄ f₅ : Entry) → e₀ ≡ entry_in w 0 → e₁ ≡ entry_in w 1 → e₂ ≡ entry_in w 2
    → e₃ ≡ entry_in w 3 → e₄ ≡ entry_in w 4 → e₅ ≡ entry_in w 5 → e₆ ≡ entry_in w 6 → e₇ ≡ entry_in w 7 → e₈ ≡ entry_in w 8 → e₉ ≡ entry_in w 9
    → f₀ ≡ entry_in w 10 → f₁ ≡ entry_in w 11 → f₂ ≡ entry_in w 12 → f₃ ≡ entry_in w 13 → f₄ ≡ entry_in w 14 → f₅ ≡ entry_in w 15
    → (e₀ ∷ e₁ ∷ e₂ ∷ e₃ ∷ e₄ ∷ e₅ ∷ e₆ ∷ e₇ ∷ e₈ ∷ e₉ ∷ f₀ ∷ f₁ ∷ f₂ ∷ f₃ ∷ f₄ ∷ f₅ ∷ []) ≡ entries_in w
unfolding entries_in
sixteen w e₀ e₁ e₂ e₃ e₄ e₅ e₆ e₇ e₈ e₉ f₀ f₁ f₂ f₃ f₄ f₅ p₀ p₁ p₂ p₃ p₄ p₅ p₆ p₇ p₈ p₉ q₀ q₁ q₂ q₃ q₄ q₅ =
    rw (p₀, p₁, p₂, p₃, p₄, p₅, p₆, p₇, p₈, p₉, q₀, q₁, q₂, q₃, q₄, q₅)

pub entry_in-requires : goal.entry_in-requires
entry_in-requires c = lit< tt

pub entry_in-requires-2 : goal.entry_in-requires-2
entry_in-requires-2 c = lit< tt

pub entry_in-requires-3 : goal.entry_in-requires-3
entry_in-requires-3 c = lit< tt

pub entry_in-requires-4 : goal.entry_in-requires-4
entry_in-requires-4 c = lit< tt

pub entry_in-requires-5 : goal.entry_in-requires-5
entry_in-requires-5 c = lit< tt

pub entry_in-requires-6 : goal.entry_in-requires-6
entry_in-requires-6 c = lit< tt

pub entry_in-requires-7 : goal.entry_in-requires-7
entry_in-requires-7 c = lit< tt

pub entry_in-requires-8 : goal.entry_in-requires-8
entry_in-requires-8 c = lit< tt

pub entry_in-requires-9 : goal.entry_in-requires-9
entry_in-requires-9 c = lit< tt

pub entry_in-requires-10 : goal.entry_in-requires-10
entry_in-requires-10 c = lit< tt

pub entry_in-requires-11 : goal.entry_in-requires-11
entry_in-requires-11 c = lit< tt

pub entry_in-requires-12 : goal.entry_in-requires-12
entry_in-requires-12 c = lit< tt

pub entry_in-requires-13 : goal.entry_in-requires-13
entry_in-requires-13 c = lit< tt

pub entry_in-requires-14 : goal.entry_in-requires-14
entry_in-requires-14 c = lit< tt

pub entry_in-requires-15 : goal.entry_in-requires-15
entry_in-requires-15 c = lit< tt

pub entry_in-requires-16 : goal.entry_in-requires-16
entry_in-requires-16 c = lit< tt

pub returns : goal.returns
returns c =
    sixteen _ _ _ _ _ _ _ _ _ _ _ _ _ _ _ _ _ c.entry_in.ensures c.entry_in-2.ensures c.entry_in-3.ensures c.entry_in-4.ensures c.entry_in-5.ensures c.entry_in-6.ensures c.entry_in-7.ensures c.entry_in-8.ensures c.entry_in-9.ensures c.entry_in-10.ensures c.entry_in-11.ensures c.entry_in-12.ensures c.entry_in-13.ensures c.entry_in-14.ensures c.entry_in-15.ensures c.entry_in-16.ensures
