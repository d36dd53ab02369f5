-- Rules. The colour lines and the records of a block between its passes and between its lines. Reading and writing go by the same.
use Rattle.std.specs.Prelude.{cond, List, ℕ}
use Rattle.statistics.specs.declared.Record.{Record}
use Rattle.pass_schedule.specs.declared.Plan.{Plan}
use Rattle.colour_lines.specs.ColourLines.{zero_lines, guarded, turned}
use Rattle.image_map.specs.Places.{width_of}
use Rattle.read_block.specs.Records.{start_records, restarted_main, base_of, is_restarted}
use Rattle.read_block.specs.declared.Form.{Form}

-- a block starts with lines of 0, and with records by the base of its first line
abbrev pub lines_at_start : Form → List ℕ
lines_at_start F = zero_lines (width_of F.xtrans)

abbrev pub records_at_start : Form → List ℕ → List Record
records_at_start F bases = start_records F.bits (base_of bases 0)

-- before line n the last two colour lines of each colour become its first two, and the main records may start anew
abbrev pub lines_before : Form → List ℕ → List ℕ
lines_before F lines = turned (width_of F.xtrans) lines

abbrev pub records_before : Form → List ℕ → ℕ → List Record → List Record
records_before F bases n records = cond (is_restarted bases n) (restarted_main F.bits (base_of bases n) records) records

-- before a pass the guards of its two lines are set
abbrev pub lines_entered : Form → Plan → List ℕ → List ℕ
lines_entered F P lines = guarded (width_of F.xtrans) P.second (guarded (width_of F.xtrans) P.first lines)
