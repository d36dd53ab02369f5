-- Promises. Item 9's layout: what each byte of a stored state is, in the order of the paper. Assumes nothing.
use Rattle.std.specs.Prelude.{Bool, cond, not, ◌&&◌, List, [], ◌∷◌, ◌≡◌, ℕ, suc, ◌+◌, ◌-◌, ◌*◌, ◌≤◌, ◌<◌, eqb, length, get_or, take, Ok, Some}
use Rattle.statistics.specs.declared.Record.{Record}
use Rattle.pass_steps.specs.Contexts.{no_record, place_of, slot_of, sample_in}
use Rattle.image_map.specs.Places.{width_of}
use Rattle.stream.specs.declared.header.FujiHeader.{FujiHeader}
use Rattle.admission.specs.Beginnings.{read_begins}
use Rattle.read_block.specs.Between.{lines_before}
use Rattle.read_block.specs.Blocks.{State, read_lines}
use Rattle.read_block.specs.Images.{form_of, bytes_in, bases_in}
use Rattle.read_block.specs.Lent.{Outputs}
use Rattle.read_block.specs.Records.{set_of}
use Rattle.read_block.specs.declared.Counted.{Counted}
use Rattle.saved_state.specs.Checkpoints.{be_at}
use Rattle.saved_state.specs.Storing.{LeftStored}

-- ---- records

-- the record that reading takes in a statistics set at an even (0) or odd (1) position, for a quantiser, 0 the main one and 1 to 3 the flat ones, and a
-- gradient of that size
abbrev pub record_for : (records : List Record) (set odd quantiser size : ℕ) → Record
record_for records set odd quantiser size = get_or (set_of set records) (slot_of odd (place_of quantiser size)) no_record

-- what is stored of it: flat ones are (0, n 1) if lossless
abbrev pub stored_for : (lossless : Bool) (records : List Record) (set odd quantiser size : ℕ) → Record
stored_for lossless records set odd quantiser size =
    cond (lossless && not (eqb quantiser 0)) (record { sum = 0; n = 1 }) (record_for records set odd quantiser size)

-- the sizes that a gradient can have
abbrev pub largest_size : (quantiser : ℕ) → ℕ
largest_size quantiser = cond (eqb quantiser 0) 40 4

-- the number of that record in the order of the paper: sets 0, 1, 2; even before odd; the 41 main ones, then 5 for each flat quantiser; by gradient size
abbrev pub record_number : (set odd quantiser size : ℕ) → ℕ
record_number set odd quantiser size = 112 * set + 56 * odd + cond (eqb quantiser 0) size (41 + 5 * (quantiser - 1) + size)

-- ---- lines

-- lines 0, 1, 5, 6, 13, 14
abbrev pub found_line : (m : ℕ) → ℕ
found_line m = get_or (0 ∷ 1 ∷ 5 ∷ 6 ∷ 13 ∷ 14 ∷ []) m 0

-- ---- the bytes s that are stored of the state z after line n of block b

pub record StoredLayout (d : List ℕ) (h : FujiHeader) (b n : ℕ) (z : State) (s : List ℕ) : Type 0 where
  -- 1,707 + 12·W bytes
  pub size : length s ≡ 1707 + 12 * width_of h.xtrans
  -- the header's 16 bytes, block number (1 byte), next line to read (2), bit position (8)
  pub header : (i : ℕ) → i < 16 → get_or s i 0 ≡ get_or d i 0
  pub block : get_or s 16 0 ≡ b
  pub next : be_at s 17 2 ≡ n + 1
  pub position : be_at s 19 8 ≡ z.at.0
  -- the records, each with sum (4) and n (1)
  pub sum : (set odd quantiser g : ℕ) → set < 3 → odd < 2 → quantiser ≤ 3 → g ≤ largest_size quantiser
      → be_at s (27 + 5 * record_number set odd quantiser g) 4 ≡ (stored_for h.lossless z.records set odd quantiser g).sum
  pub count : (set odd quantiser g : ℕ) → set < 3 → odd < 2 → quantiser ≤ 3 → g ≤ largest_size quantiser
      → be_at s (27 + 5 * record_number set odd quantiser g + 4) 1 ≡ (stored_for h.lossless z.records set odd quantiser g).n
  -- W samples (2 each) of lines 0, 1, 5, 6, 13, 14 as the next line finds them
  pub sample : let W = width_of h.xtrans in
      (m p : ℕ) → m < 6 → p < W → be_at s (1707 + 2 * (m * W + p)) 2 ≡ sample_in W (lines_before (form_of h) z.lines) (found_line m) p

-- so the lent bytes begin after every call that stores
abbrev pub Layout : Type 0
Layout =
    (d : List ℕ) (h : FujiHeader) (b n : ℕ) (lent lent' : Outputs) (answer : Counted) → ((i : ℕ) → get_or d i 0 < 256)
    → read_begins d b (length lent.lines) (length lent.records) ≡ Ok h → LeftStored d b n lent lent' answer → answer.answer ≡ (Ok tt)
    → (z : State) × (read_lines (form_of h) (bases_in d b) (bytes_in d b) (suc n) ≡ Some z)
    × StoredLayout d h b n z (take (1707 + 12 * width_of h.xtrans) lent'.out)
