-- Inside. What the functions say that store a state and go on from one. No definition of the format and no entry's contract rests on these.
use Rattle.std.specs.Prelude.{true, false, cond, List, ◌≡◌, ℕ, leb, ltb, Err, Ok, Result}
use Rattle.code.specs.declared.Place.{Place}
use Rattle.statistics.specs.declared.Record.{Record}
use Rattle.image_map.specs.Places.{width_of}
use Rattle.image_map.specs.Inside.{Fits}
use Rattle.image_map.specs.declared.Part.{Part}
use Rattle.stream.specs.declared.header.FujiHeader.{FujiHeader}
use Rattle.stream.specs.declared.header.Refusal.TheVariants.{ShortOutput, BadState}
use Rattle.image_region.specs.Inside.{part_in}
use Rattle.image_region.specs.declared.Rect.{Rect}
use Rattle.saved_state.specs.Checkpoints.{size_of_checkpoint, checkpoint_of}
use Rattle.read_block.specs.Inside.{walked_answer, walked_totals}
use Rattle.saved_state.specs.Resuming.{is_touched, since_totals, checked_in, Resumed}
use Rattle.read_block.specs.declared.Counted.{Counted}
use Rattle.line_totals.specs.declared.TightLines.{TightLines}
use Rattle.line_totals.specs.declared.Totals.{Totals}
use Rattle.stream.specs.declared.header.Refusal.{Refusal}

-- ---- going on

abbrev pub place_at : ℕ → Place
place_at at = record { at = record { 0 = at }; tight = true; long = 0 }

-- where the lines of block b go: to its part of the region, or, if there is none, nowhere
abbrev pub PartWanted : Rect → ℕ → Part → Type 0
PartWanted r b a = (is_touched r b ≡ true → a ≡ part_in r b) × (is_touched r b ≡ false → (image : List ℕ) → Fits a image)

-- what a reading of block b says that began at the bit position `at`
abbrev pub since_counted : ℕ → ℕ → Result (Totals × TightLines) (ℕ × Totals) → Counted
since_counted b at w = record { answer = walked_answer b w; totals = since_totals at (walked_totals w) }

abbrev pub ResumedIn : List ℕ → ℕ → FujiHeader → List ℕ → Rect → List ℕ → (image image' : List ℕ) → Counted → Type 0
ResumedIn d b h s r tile image image' answer = Resumed d b h s r tile (checked_in d b h s) image image' answer

-- ---- storing

-- refusal 21, refusal 13, or none of them
abbrev pub store_judged : FujiHeader → ℕ → ℕ → Result Unit Refusal
store_judged h n room =
    cond (leb h.lines n) (Err BadState) (cond (ltb room (size_of_checkpoint (width_of h.xtrans))) (Err ShortOutput) (Ok tt))

-- the lent bytes after a reading that left these lines and records
abbrev pub StoredWalk : List ℕ → ℕ → ℕ → FujiHeader → Result (Totals × TightLines) (ℕ × Totals) → List ℕ → List Record → (out out' : List ℕ) → Type 0
StoredWalk d b n h (Err (line, before)) lines records out out' = out' ≡ out
StoredWalk d b n h (Ok (all, tight)) lines records out out' =
    out' ≡ checkpoint_of h.lossless (width_of h.xtrans)
    (record { stream = d; block = b; line = n; at = all.bits; records = records; lines = lines }) out
