-- What a call for a camera leaves, by how it begins. Assumes nothing.
use mathlib.Core.List.{List}
use mathlib.Core.Path.{◌≡◌, refl, ◌∙◌, subst}
use Prim.Native.Nat.{ℕ}
use Rattle.stream.specs.declared.header.FujiHeader.{FujiHeader}
use Rattle.stream.specs.declared.header.Refusal.{Refusal}
use Rattle.image_region.specs.declared.Rect.{Rect}
use Rattle.cameras.specs.Entries.{mended, handed_back}
use Rattle.cameras.specs.declared.Camera.{Camera}
use Rattle.cameras.specs.declared.Entry.{Entry}
use Rattle.read_block.specs.Lent.{Buffers, cleared_lines, cleared_records}
use Rattle.read_block.specs.Sharing.{shared_answer, last_entries, PicturedShared, SharedDecoding, is_refused, call_entries, LeftBuffers, LeftShared}
use Rattle.std.specs.Prelude.{Err, None, Ok, Option, Result, Some}

module _ (c : Camera) (d : List ℕ) (r : Rect) (tile : List ℕ) (l : List Entry) (before : Buffers) (begins : Result (Option FujiHeader) Refusal) where
  -- the answer and the entries as they are handed back
  handed : (after : Buffers) (m : List Entry) (x a : Result Unit Refusal) (l' : List Entry) → LeftBuffers c d r tile begins l before after x
      → m ≡ call_entries c d r begins l → a ≡ x → l' ≡ handed_back c (is_refused x) m → LeftShared c d r tile begins l before after a l'
  handed after m x a l' left is e f = rw e (left, f ∙ rw is)

  module _ (m : List Entry) (mends : m ≡ mended l) where
    pub shared_refused : (x : Refusal) → begins ≡ Err x → (a : Result Unit Refusal) (l' : List Entry) → a ≡ Err x
        → l' ≡ handed_back c (is_refused (Err x)) m → LeftShared c d r tile begins l before before a l'
    shared_refused x e a l' f g = handed before m (Err x) a l' (rw e (refl, refl)) (rw e mends) f g

    pub shared_nothing : begins ≡ (Ok None) → (a : Result Unit Refusal) (l' : List Entry) → a ≡ (Ok tt) → l' ≡ handed_back c (is_refused (Ok tt)) m
        → LeftShared c d r tile begins l before before a l'
    shared_nothing e a l' f g = handed before m (Ok tt) a l' (rw e (refl, refl)) (rw e mends) f g

    pub shared_reading : (h : FujiHeader) → begins ≡ Ok (Some h) → (after : Buffers) (x : Result Unit Refusal) (last : List Entry) → x ≡ shared_answer c d h r m
        → last ≡ last_entries c d h r m → PicturedShared c d h r tile m before.image after.image
        → after.lines ≡ cleared_lines h.xtrans before.lines → after.records ≡ cleared_records before.records → (a : Result Unit Refusal) (l' : List Entry) → a ≡ x
        → l' ≡ handed_back c (is_refused x) last → LeftShared c d r tile begins l before after a l'
    shared_reading h e after x last answered held pictured lines records a l' f g =
        handed after last x a l' (rw e decoded) (rw e (rw mends at held)) f g
      where
        decoded : SharedDecoding c d h r tile (mended l) before after x
        decoded =
            record {
              answered = rw mends at answered;
              pictured = subst (λ (z : List Entry). PicturedShared c d h r tile z before.image after.image) mends pictured;
              lines = lines;
              records = records;
            }

-- the same call, with a camera and entries that are known by other means
pub same_call : (c c' : Camera) (d : List ℕ) (r : Rect) (tile : List ℕ) (begins : Result (Option FujiHeader) Refusal) (l m : List Entry) (before after : Buffers) (a : Result Unit Refusal)
    (l' : List Entry) → c ≡ c' → l ≡ m → LeftShared c d r tile begins l before after a l' → LeftShared c' d r tile begins m before after a l'
same_call c c' d r tile begins l m before after a l' e f p =
    subst (λ (z : Camera). LeftShared z d r tile begins m before after a l') e
    (subst (λ (z : List Entry). LeftShared c d r tile begins z before after a l') f p)
