-- Inside. What only our own functions say.
use Rattle.std.specs.Prelude.{false, cond, List, ◌++◌, ◌≡◌, ℕ, ◌-◌, ◌*◌, length, take, drop, Err, Result}
use Rattle.stream.specs.declared.header.FujiHeader.{FujiHeader}
use Rattle.stream.specs.declared.header.Refusal.TheVariants.{Truncated}
use Rattle.read_block.specs.Images.{form_of, bytes_in, bases_in, lines_read}
use Rattle.read_block.specs.Lent.{Outputs, cleared_lines, cleared_records}
use Rattle.write_block.specs.WrittenAnswers.{length_answer, written_out}
use Rattle.stream_copies.specs.MadeStreams.{is_tight_call, new_block, is_cut, made_answer, made_bytes}
use Rattle.stream.specs.declared.header.Refusal.{Refusal}

-- no rows, or a byte for each line of each block
abbrev pub RowsFit : FujiHeader → List ℕ → Type 0
RowsFit h rows = is_tight_call rows ≡ false → length rows ≡ h.blocks * h.lines

-- one block, with so many bytes of output from its place on
unfoldable pub put_answer : List ℕ → FujiHeader → List ℕ → (b room : ℕ) → Result ℕ Refusal
put_answer d h rows b room =
    cond (is_cut d h b) (Err (Truncated b (lines_read (form_of h) (bases_in d b) (bytes_in d b) h.lines)))
    (length_answer (length (new_block d h rows b)) room)

pub record BlockPut (d : List ℕ) (h : FujiHeader) (rows : List ℕ) (b at : ℕ) (before after : Outputs) (answer : Result ℕ Refusal) : Type 0 where
  pub answered : answer ≡ put_answer d h rows b (length before.out - at)
  pub output : after.out ≡ take at before.out ++ written_out answer (new_block d h rows b) (drop at before.out)
  pub lines : after.lines ≡ cleared_lines h.xtrans before.lines
  pub records : after.records ≡ cleared_records before.records

-- all blocks, where zeros stand before them
pub record BlocksMade (d : List ℕ) (h : FujiHeader) (rows : List ℕ) (before after : Outputs) (answer : Result ℕ Refusal) : Type 0 where
  pub answered : answer ≡ made_answer d h rows (length before.out)
  pub output : after.out ≡ made_bytes d h rows (length before.out) ++ drop (length (made_bytes d h rows (length before.out))) before.out
  pub lines : after.lines ≡ cleared_lines h.xtrans before.lines
  pub records : after.records ≡ cleared_records before.records
