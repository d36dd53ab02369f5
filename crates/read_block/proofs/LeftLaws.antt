-- What a call leaves, by how it begins; the form of its header; and scratch of which the first part is lent. Assumes nothing.
use borrow.Rule.Slice.PartMut.{put_mid}
use mathlib.Core.Bool.{Bool}
use mathlib.Core.List.{List, ◌++◌}
use mathlib.Core.Path.{◌≡◌, refl}
use Prim.Native.Nat.{ℕ, ◌-◌}
use native.Mathlib.Nat.{sub-zero}
use lib.ListN.{replicate, drop}
use Rattle.statistics.specs.declared.Record.{Record}
use Rattle.colour_lines.specs.ColourLines.{zero_lines}
use Rattle.image_map.specs.Places.{width_of}
use Rattle.pass_steps.specs.Contexts.{Depth}
use Rattle.stream.specs.Inside.{Ruled}
use Rattle.stream.specs.declared.header.FujiHeader.{FujiHeader}
use Rattle.stream.specs.declared.header.Refusal.{Refusal}
use Rattle.image_region.specs.declared.Rect.{Rect}
use Rattle.admission.specs.Beginnings.{samples_needed}
use Rattle.read_block.specs.Images.{form_of, Decoding, Left}
use Rattle.read_block.specs.WindowedImages.{window_size, WindowedDecoding, LeftWindowed}
use Rattle.read_block.specs.WindowedLines.{ScratchIn, zeros_in}
use Rattle.read_block.specs.Lent.{Buffers, Scratch, cleared_lines, cleared_records}
use Rattle.read_block.specs.Records.{clear_records}
use Rattle.read_block.specs.Totals.{refused_by}
use Rattle.read_block.specs.BlockReadings.{BlockReading, LeftBlock}
use Rattle.read_block.specs.declared.Counted.{Counted}
use Rattle.read_block.specs.declared.Form.{Form}
use Rattle.std.specs.Prelude.{Err, None, Ok, Option, Result, Some}

-- ---- by how a call begins

module _ (d : List ℕ) (r : Rect) (tile : List ℕ) (before : Buffers) (begins : Result (Option FujiHeader) Refusal) where
  pub left_refused : (x : Refusal) → begins ≡ Err x → Left d r tile begins before before (Err x)
  left_refused x e = rw e (refl, refl)

  pub left_nothing : begins ≡ (Ok None) → Left d r tile begins before before (Ok tt)
  left_nothing e = rw e (refl, refl)

  pub left_reading : (h : FujiHeader) → begins ≡ Ok (Some h) → (after : Buffers) (a : Result Unit Refusal) → Decoding d h r tile before after a
      → Left d r tile begins before after a
  left_reading h e after a l = rw e l

-- in windows
module _ (d : List ℕ) (r : Rect) (tile : List ℕ) (before : Buffers) (begins : Result (Option FujiHeader) Refusal) where
  pub windowed_refused : (x : Refusal) → begins ≡ Err x → LeftWindowed d r tile begins before before (Err x)
  windowed_refused x e = rw e (refl, refl)

  pub windowed_nothing : begins ≡ (Ok None) → LeftWindowed d r tile begins before before (Ok tt)
  windowed_nothing e = rw e (refl, refl)

  pub windowed_reading : (h : FujiHeader) → begins ≡ Ok (Some h) → (after : Buffers) (a : Result Unit Refusal) → WindowedDecoding d h r tile before after a
      → LeftWindowed d r tile begins before after a
  windowed_reading h e after a l = rw e l

-- reading one block
module _ (expected : FujiHeader → Counted) (before : Scratch) (begins : Result FujiHeader Refusal) where
  pub block_refused : (x : Refusal) → begins ≡ Err x → (a : Counted) → a ≡ refused_by x → LeftBlock begins expected before before a
  block_refused x e a f = rw e (f, refl)

  pub block_read : (h : FujiHeader) → begins ≡ Ok h → (after : Scratch) (a : Counted) → BlockReading h (expected h) before after a
      → LeftBlock begins expected before after a
  block_read h e after a l = rw e l

-- ---- the form of a header

module _ (F : Form) (h : FujiHeader) (e : F ≡ form_of h) where
  pub form_scratch : (windowed : Bool) (lines : List ℕ) (records : List Record) → ScratchIn windowed h.xtrans lines records
      → ScratchIn windowed F.xtrans lines records
  form_scratch windowed lines records s = rw e s

  pub form_samples : (n : ℕ) → n ≡ samples_needed h.xtrans → n ≡ samples_needed F.xtrans
  form_samples n s = rw e s

  pub form_depth : Ruled h → Depth F.bits
  form_depth k = rw e (k.bits_low, k.bits_high)

  pub form_zero : (lines : List ℕ) → lines ≡ zero_lines (width_of F.xtrans) → lines ≡ zero_lines (width_of h.xtrans)
  form_zero lines z = rw e at z

  pub form_zeros : (windowed : Bool) (lines : List ℕ) → lines ≡ zeros_in windowed F.xtrans → lines ≡ zeros_in windowed h.xtrans
  form_zeros windowed lines z = rw e at z

-- ---- the lent part goes back, with what follows it as it was

pub lines_back : (xtrans : Bool) (n : ℕ) (lines part : List ℕ) → n ≡ samples_needed xtrans → part ≡ zero_lines (width_of xtrans)
    → put_mid 0 (n - 0) lines part ≡ cleared_lines xtrans lines
lines_back xtrans n lines part e p = rw (p, sub-zero n, e) refl

pub windows_back : (xtrans : Bool) (n : ℕ) (lines part : List ℕ) → n ≡ window_size xtrans → part ≡ replicate (window_size xtrans) 0
    → put_mid 0 (n - 0) lines part ≡ replicate (window_size xtrans) 0 ++ drop (window_size xtrans) lines
windows_back xtrans n lines part e p = rw (p, sub-zero n, e) refl

pub records_back : (records part : List Record) → part ≡ clear_records → put_mid 0 (336 - 0) records part ≡ cleared_records records
records_back records part p = rw p refl
