-- Promises. What a call is lent, and the scratch that it leaves.
use Rattle.std.specs.Prelude.{Bool, List, ◌++◌, ℕ, drop}
use Rattle.statistics.specs.declared.Record.{Record}
use Rattle.colour_lines.specs.ColourLines.{zero_lines}
use Rattle.image_map.specs.Places.{width_of}
use Rattle.admission.specs.Beginnings.{samples_needed, records_needed}
use Rattle.read_block.specs.Records.{clear_records}

-- decoding is lent an image, and the lines and records of its scratch
pub record Buffers : Type 0 where
  pub image : List ℕ
  pub lines : List ℕ
  pub records : List Record

-- the reading of one block and measuring are lent scratch alone
pub record Scratch : Type 0 where
  pub lines : List ℕ
  pub records : List Record

-- the writer is lent an output
pub record Outputs : Type 0 where
  pub out : List ℕ
  pub lines : List ℕ
  pub records : List Record

-- scratch after a call that was not refused: that part is cleared, and what follows it is what it was
abbrev pub cleared_lines : Bool → List ℕ → List ℕ
cleared_lines xtrans lines = zero_lines (width_of xtrans) ++ drop (samples_needed xtrans) lines

abbrev pub cleared_records : List Record → List Record
cleared_records records = clear_records ++ drop records_needed records
