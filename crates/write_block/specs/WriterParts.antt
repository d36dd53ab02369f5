-- Inside. What the writer's functions below the entries hand back. No definition of the format and no entry's contract rests on these.
use Rattle.std.specs.Prelude.{Bool, true, false, List, [], ◌≡◌, ℕ, ◌+◌, ◌≤◌, length, Err, Ok, Result, None, Option, Some}
use Rattle.statistics.specs.declared.Record.{Record}
use Rattle.write_pass.specs.Puts.{put_if}
use Rattle.read_block.specs.Lent.{Outputs}
use Rattle.read_block.specs.Inside.{scratch_of}
use Rattle.write_block.specs.WrittenAnswers.{written_out, LeftLossy, MeasuredWith}
use Rattle.write_block.specs.WrittenBlocks.{WriteState, repeats, write_pass_at, write_lines, written_block}
use Rattle.read_block.specs.declared.Form.{Form}
use Rattle.bits.specs.declared.BitPosition.{BitPosition}
use Rattle.stream.specs.declared.header.FujiHeader.{FujiHeader}
use Rattle.stream.specs.declared.header.Refusal.{Refusal}

-- ---- lines, and all lines of a set

-- the first i passes of line n, whose base is q, from these lines and records on and with no bits yet
unfoldable pub passes_from : Form → ℕ → Bool → List ℕ → ℕ → ℕ → List ℕ → List Record → WriteState
passes_from F q strict t n i lines rs = repeats (write_pass_at F q strict t n) i (record { lines = lines; records = rs; bits = []; wrong = None })

-- writing these passes of a lossless line, from these lines on and whatever the records are, meets no wrong sample, and leaves those lines
abbrev pub RightPasses : Form → (t : List ℕ) (n i : ℕ) (lines lines' : List ℕ) → Type 0
RightPasses F t n i lines lines' =
    (rs : List Record) (b : List Bool)
    → let z = repeats (write_pass_at F 0 true t n) i (record { lines = lines; records = rs; bits = b; wrong = None }) in
    (z.lines ≡ lines') × (z.wrong ≡ None)

-- lines that were written up to the state z, from no bits on: the position after their bits, or the first interpolated sample that is not its
-- prediction; then lines and records are left free, and so is the output where it is stored
abbrev pub IsLinePut : Option ℕ → WriteState → ℕ → Bool → (out lines' : List ℕ) → List Record → (out' : List ℕ) → Result BitPosition ℕ → Type 0
IsLinePut None z from store out lines' rs' out' r =
    (r ≡ Ok (record { 0 = from + length z.bits })) × (lines' ≡ z.lines) × (rs' ≡ z.records) × (out' ≡ put_if store out from z.bits)
IsLinePut (Some j) z from store out lines' rs' out' r = (r ≡ Err j) × (store ≡ false → out' ≡ out)

pub record LineWritten (z : WriteState) (from : ℕ) (store : Bool) (out lines' : List ℕ) (rs' : List Record) (out' : List ℕ) (r : Result BitPosition ℕ) : Type 0 where
  pub are : IsLinePut z.wrong z from store out lines' rs' out' r

-- the same of all lines, whose scratch counts no more
abbrev pub IsSetPut : Option ℕ → WriteState → Bool → (out out' : List ℕ) → Result BitPosition ℕ → Type 0
IsSetPut None z store out out' r = (r ≡ Ok (record { 0 = length z.bits })) × (out' ≡ put_if store out 0 z.bits)
IsSetPut (Some j) z store out out' r = (r ≡ Err j) × (store ≡ false → out' ≡ out)

pub record SetWritten (z : WriteState) (store : Bool) (out out' : List ℕ) (r : Result BitPosition ℕ) : Type 0 where
  pub are : IsSetPut z.wrong z store out out' r

-- ---- bits that are stored

-- a set of which no sample is wrong, and for whose block there is room
pub record Storable (F : Form) (bases : List ℕ) (lines : ℕ) (t : List ℕ) (room : ℕ) : Type 0 where
  pub right : (write_lines F bases t lines).wrong ≡ None
  pub enough : length (written_block F bases lines t) ≤ room

-- the answer is the length of the block, and the block is at the start of the output
pub record Stored (block out out' : List ℕ) (answer : Result ℕ Refusal) : Type 0 where
  pub answered : answer ≡ Ok (length block)
  pub output : out' ≡ written_out (Ok (length block)) block out

-- ---- a call that writes or only measures

-- the room that counts for a block, and the output afterwards, where a set is only measured and where it is not
abbrev pub room_for : Bool → (block out : List ℕ) → ℕ
room_for true block out = length block
room_for false block out = length out

abbrev pub output_of : Bool → Result ℕ Refusal → (block out : List ℕ) → List ℕ
output_of true answer block out = out
output_of false answer block out = written_out answer block out

abbrev pub LeftBy : Bool → (bases t : List ℕ) → Result FujiHeader Refusal → (before after : Outputs) → Result ℕ Refusal → Type 0
LeftBy true bases t begins before after answer = MeasuredWith bases t begins (scratch_of before) (scratch_of after) answer × (after.out ≡ before.out)
LeftBy false bases t begins before after answer = LeftLossy bases t begins before after answer
