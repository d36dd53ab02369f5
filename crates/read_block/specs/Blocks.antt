-- Rules. Reading a block: six passes make a line, and lines make a block.
use Rattle.std.specs.Prelude.{Bool, true, cond, List, [], ℕ, zero, suc, ◌+◌, ◌*◌, leb, length, None, Option, Some}
use Rattle.bits.specs.declared.BitPosition.{BitPosition}
use Rattle.statistics.specs.declared.Record.{Record}
use Rattle.pass_schedule.specs.Steps.{plan_of}
use Rattle.line_totals.specs.Totals.{no_totals}
use Rattle.line_totals.specs.declared.Totals.{Totals}
use Rattle.read_pass.specs.Readings.{Reading, read_pass, and_then}
use Rattle.pass_schedule.specs.declared.Plan.{Plan}
use Rattle.image_map.specs.Places.{width_of}
use Rattle.read_block.specs.Records.{base_of, set_of, put_set}
use Rattle.read_block.specs.Between.{lines_at_start, records_at_start, lines_before, records_before, lines_entered}
use Rattle.read_block.specs.declared.Form.{Form}

-- what reading a block goes on: the colour lines, the records, the bit position, whether all codes so far were tight, and how many of them were
-- long
pub record State : Type 0 where
  pub lines : List ℕ
  pub records : List Record
  pub at : BitPosition
  pub tight : Bool
  pub long : ℕ

-- f 0, f 1, .. one after the other, n of them, until one fails
unfoldable pub runs : {A : Type 0} → (ℕ → A → Option A) → ℕ → A → Option A
runs f zero r = Some r
runs f (suc n) r = and_then (runs f n r) (λ z. f n z)

-- ---- a line

-- a pass goes on the records of its set, and on lines whose guards are set
abbrev pub enter : Form → Plan → State → Reading
enter F P r =
    record {
      lines = lines_entered F P r.lines;
      set = set_of P.set r.records;
      at = r.at;
      tight = r.tight;
      long = r.long;
    }

-- and its set goes back
abbrev pub leave : Plan → State → Option Reading → Option State
leave P r None = None
leave P r (Some z) = Some (record { lines = z.lines; records = put_set P.set z.set r.records; at = z.at; tight = z.tight; long = z.long })

-- pass i of a line with base q
unfoldable pub pass_at : Form → ℕ → List ℕ → ℕ → State → Option State
pass_at F q s i r =
    let P = plan_of F.xtrans i in
    leave P r (read_pass F.bits q (width_of F.xtrans) s P (enter F P r))

-- at a line's end, over 8·length + 7 bits consumed is truncation
abbrev pub end_line : List ℕ → State → Option State
end_line s r = cond (leb r.at.0 (8 * length s + 7)) (Some r) None

-- six passes
unfoldable pub read_line : Form → ℕ → List ℕ → State → Option State
read_line F q s r = and_then (runs (pass_at F q s) 6 r) (end_line s)

-- ---- a block

-- before line n the colour lines are turned, and the main records may start anew
abbrev pub before_line : Form → List ℕ → ℕ → State → State
before_line F bases n r =
    record {
      lines = lines_before F r.lines;
      records = records_before F bases n r.records;
      at = r.at;
      tight = r.tight;
      long = r.long;
    }

-- line n
unfoldable pub read_line_at : Form → List ℕ → List ℕ → ℕ → State → Option State
read_line_at F bases s n r = read_line F (base_of bases n) s (before_line F bases n r)

-- a block starts with lines of 0, start records, and its first bit
unfoldable pub start_state : Form → List ℕ → State
start_state F bases =
    record {
      lines = lines_at_start F;
      records = records_at_start F bases;
      at = record { 0 = 0 };
      tight = true;
      long = 0;
    }

-- the state after n lines of the block with the bytes s; none if one of them is truncated
unfoldable pub read_lines : Form → List ℕ → List ℕ → ℕ → Option State
read_lines F bases s n = runs (read_line_at F bases s) n (start_state F bases)

-- the state after m lines from line k on, where line k finds the state z
unfoldable pub read_from : Form → List ℕ → List ℕ → ℕ → State → ℕ → Option State
read_from F bases s k z m = runs (λ i. read_line_at F bases s (k + i)) m z

-- the colour lines after n lines: those of line n − 1
abbrev pub lines_of : Option State → List ℕ
lines_of None = []
lines_of (Some r) = r.lines

-- ---- what is counted

-- the bits and the long codes of lines that were read; nothing where one of them is truncated
abbrev pub totals_in : Option State → Totals
totals_in None = no_totals
totals_in (Some r) = record { bits = r.at.0; long = r.long }

-- of the first n lines
abbrev pub totals_after : Form → List ℕ → List ℕ → ℕ → Totals
totals_after F bases s n = totals_in (read_lines F bases s n)
