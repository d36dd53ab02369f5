-- What a call leaves that stores a state or goes on from one, by how it begins. Assumes nothing.
use mathlib.Core.List.{List}
use mathlib.Core.Path.{◌≡◌, refl}
use Prim.Native.Nat.{ℕ}
use Rattle.line_totals.specs.Totals.{no_totals}
use Rattle.stream.specs.declared.header.FujiHeader.{FujiHeader}
use Rattle.stream.specs.declared.header.Refusal.{Refusal}
use Rattle.image_region.specs.declared.Rect.{Rect}
use Rattle.read_block.specs.Lent.{Buffers, Outputs}
use Rattle.read_block.specs.Totals.{refused_by}
use Rattle.read_block.specs.declared.Counted.{Counted}
use Rattle.saved_state.specs.Storing.{Storing, StoredBy}
use Rattle.saved_state.specs.Resuming.{Resuming, ResumedBy}
use Rattle.std.specs.Prelude.{Err, None, Ok, Option, Result, Some}

-- going on
module _ (d : List ℕ) (b : ℕ) (s : List ℕ) (r : Rect) (tile : List ℕ) (before : Buffers) (begins : Result (Option FujiHeader) Refusal) where
  pub resumed_refused : (x : Refusal) → begins ≡ Err x → (a : Counted) → a ≡ refused_by x → ResumedBy d b s r tile begins before before a
  resumed_refused x e a f = rw e (f, refl)

  pub resumed_nothing : begins ≡ (Ok None) → (a : Counted) → a ≡ record { answer = (Ok tt); totals = no_totals } → ResumedBy d b s r tile begins before before a
  resumed_nothing e a f = rw e (f, refl)

  pub resumed_reading : (h : FujiHeader) → begins ≡ Ok (Some h) → (after : Buffers) (a : Counted) → Resuming d b h s r tile before after a
      → ResumedBy d b s r tile begins before after a
  resumed_reading h e after a l = rw e l

-- storing
module _ (d : List ℕ) (b n : ℕ) (before : Outputs) (begins : Result FujiHeader Refusal) where
  pub stored_refused : (x : Refusal) → begins ≡ Err x → (a : Counted) → a ≡ refused_by x → StoredBy d b n begins before before a
  stored_refused x e a f = rw e (f, refl)

  pub stored_reading : (h : FujiHeader) → begins ≡ Ok h → (after : Outputs) (a : Counted) → Storing d b n h before after a
      → StoredBy d b n begins before after a
  stored_reading h e after a l = rw e l
