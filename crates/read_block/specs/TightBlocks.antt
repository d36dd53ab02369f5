-- Rules. Tight blocks, lossless: what the tight reading accepts, and the set of colour lines that is read from a block.
use Rattle.std.specs.Prelude.{Bool, true, cond, List, [], ◌≡◌, ℕ, suc, ◌+◌, ◌*◌, ltb, get_or, Err, Ok, Result, None, Option, Some}
use Rattle.bits.specs.BitLists.{is_tail}
use Rattle.image_map.specs.Places.{width_of}
use Rattle.stream.specs.declared.header.Refusal.TheVariants.{Truncated, NotTight}
use Rattle.colour_lines.specs.Sets.{set_size, line_at, colour_line_at, position_at}
use Rattle.read_block.specs.Records.{table}
use Rattle.read_block.specs.Blocks.{State, read_lines, lines_of}
use Rattle.read_block.specs.Images.{lines_read}
use Rattle.read_block.specs.BadCodes.{BadCode, first_bad}
use Rattle.read_block.specs.declared.Form.{Form}
use Rattle.stream.specs.declared.header.Refusal.{Refusal}

-- the sample at index j of the set that is read from the block s with these bases: it stands in its colour line once its line of six rows is read
abbrev pub read_sample : Form → List ℕ → List ℕ → ℕ → ℕ
read_sample F bases s j =
    let W = width_of F.xtrans in
    get_or (lines_of (read_lines F bases s (suc (line_at W j)))) (colour_line_at W j * (W + 2) + position_at W j + 1) 0

-- the set of colour lines of a block: what the rules read at the places of a set
unfoldable pub set_read : Form → ℕ → List ℕ → List ℕ
set_read F lines s = table (read_sample F [] s) (set_size (width_of F.xtrans) lines)

-- a tight block: all lines are read, each code is tight, and so is the tail
pub record Tight (F : Form) (lines : ℕ) (s : List ℕ) : Type 0 where
  pub end : State
  pub read : read_lines F [] s lines ≡ Some end
  pub codes : end.tight ≡ true
  pub tail : is_tail s end.at.0 ≡ true

-- the bit up to which lines were read
abbrev pub bits_read : Option State → ℕ
bits_read None = 0
bits_read (Some r) = r.at.0

-- the answer where every line reads: refusal 15 with the line of the first bad code, or with `lines` if only the tail is wrong
abbrev pub read_answer : Option BadCode → ℕ → Bool → Result Unit Refusal
read_answer (Some x) lines tail = Err (NotTight x.line)
read_answer None lines tail = cond tail (Ok tt) (Err (NotTight lines))

-- the answer of the tight reading for block b with the bytes s: refusal 14 with the first truncated line, before all that
unfoldable pub tight_answer : Form → ℕ → ℕ → List ℕ → Result Unit Refusal
tight_answer F b lines s =
    let read = lines_read F [] s lines in
    cond (ltb read lines) (Err (Truncated b read))
    (read_answer (first_bad F [] s lines) lines (is_tail s (bits_read (read_lines F [] s lines))))
