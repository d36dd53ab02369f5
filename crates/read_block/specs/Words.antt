-- Promises. Answers as numbers, as a caller in C gets them.
use Rattle.std.specs.Prelude.{List, [], ◌∷◌, ◌≡◌, ℕ, Err, Ok, Option, Result}
use Rattle.stream.specs.Refusals.{refusal_in}
use Rattle.image_region.specs.declared.Rect.{Rect}
use Rattle.line_totals.specs.declared.Totals.{Totals}
use Rattle.cameras.specs.Words.{entries_in, AreWords}
use Rattle.cameras.specs.declared.Camera.{Camera}
use Rattle.cameras.specs.declared.Entry.{Entry}
use Rattle.read_block.specs.Images.{Left}
use Rattle.read_block.specs.WindowedImages.{LeftWindowed}
use Rattle.read_block.specs.Sharing.{LeftShared}
use Rattle.read_block.specs.Lent.{Buffers, Scratch}
use Rattle.read_block.specs.BlockReadings.{LeftRead, LeftTight}
use Rattle.read_block.specs.declared.Counted.{Counted}
use Rattle.stream.specs.declared.header.FujiHeader.{FujiHeader}
use Rattle.stream.specs.declared.header.Refusal.{Refusal}

abbrev pub answer_words : Result Unit Refusal → List ℕ
answer_words a = refusal_in a

-- what a call from C leaves: what the same call leaves here, and its answer's words
pub record Told (d : List ℕ) (r : Rect) (tile : List ℕ) (begins : Result (Option FujiHeader) Refusal) (before after : Buffers) (words : List ℕ) : Type 0 where
  pub answer : Result Unit Refusal
  pub left : Left d r tile begins before after answer
  pub told : words ≡ answer_words answer

-- the same in windows
pub record ToldWindowed (d : List ℕ) (r : Rect) (tile : List ℕ) (begins : Result (Option FujiHeader) Refusal) (before after : Buffers) (words : List ℕ) : Type 0 where
  pub answer : Result Unit Refusal
  pub left : LeftWindowed d r tile begins before after answer
  pub told : words ≡ answer_words answer

-- the same for a camera, with the entries as words before and after
pub record ToldShared (c : Camera) (d : List ℕ) (r : Rect) (tile : List ℕ) (begins : Result (Option FujiHeader) Refusal)
    (w w' : List ℕ) (before after : Buffers) (words : List ℕ) : Type 0 where
  pub answer : Result Unit Refusal
  pub entries : List Entry
  pub left : LeftShared c d r tile begins (entries_in w) before after answer entries
  pub told_entries : AreWords entries w'
  pub told : words ≡ answer_words answer

-- bits and long codes
abbrev pub totals_words : Totals → List ℕ
totals_words t = t.bits ∷ t.long ∷ []

pub record ToldRead (d : List ℕ) (b : ℕ) (before after : Scratch) (totals words : List ℕ) : Type 0 where
  pub answer : Counted
  pub left : LeftRead d b before after answer
  pub told_totals : totals ≡ totals_words answer.totals
  pub told : words ≡ answer_words answer.answer

pub record ToldTight (d : List ℕ) (b : ℕ) (before after : Scratch) (totals words : List ℕ) : Type 0 where
  pub answer : Counted
  pub left : LeftTight d b before after answer
  pub told_totals : totals ≡ totals_words answer.totals
  pub told : words ≡ answer_words answer.answer
