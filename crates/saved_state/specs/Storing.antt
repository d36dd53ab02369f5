-- Promises. What a call answers and leaves that stores the state of block b after line n.
use Rattle.std.specs.Prelude.{cond, List, ◌≡◌, ℕ, suc, leb, ltb, length, Err, Ok, Result, None, Option, Some}
use Rattle.image_map.specs.Places.{width_of}
use Rattle.stream.specs.declared.header.FujiHeader.{FujiHeader}
use Rattle.stream.specs.declared.header.Refusal.TheVariants.{ShortOutput, BadState}
use Rattle.saved_state.specs.Checkpoints.{size_of_checkpoint, checkpoint_of}
use Rattle.admission.specs.Beginnings.{read_begins}
use Rattle.read_block.specs.Blocks.{State, read_lines}
use Rattle.saved_state.specs.BlockStates.{saved_of}
use Rattle.read_block.specs.Images.{form_of, bytes_in, bases_in, block_answer}
use Rattle.read_block.specs.Lent.{Outputs, cleared_lines, cleared_records}
use Rattle.read_block.specs.Totals.{counted, refused_by}
use Rattle.read_block.specs.declared.Counted.{Counted}
use Rattle.stream.specs.declared.header.Refusal.{Refusal}

-- refusal 21, a line that is not below lines; refusal 13, fewer bytes than the state has; refusal 14, a truncated line up to it
unfoldable pub stored_counted : List ℕ → ℕ → FujiHeader → ℕ → ℕ → Counted
stored_counted d b h n room =
    cond (leb h.lines n) (refused_by BadState)
    (cond (ltb room (size_of_checkpoint (width_of h.xtrans))) (refused_by ShortOutput)
    (counted (form_of h) (bases_in d b) (bytes_in d b) (suc n) (block_answer (form_of h) (bases_in d b) (bytes_in d b) b (suc n))))

-- the state after line n, stored; what follows it stays
abbrev pub with_state : List ℕ → ℕ → FujiHeader → ℕ → Option State → List ℕ → List ℕ
with_state d b h n None out = out
with_state d b h n (Some z) out = checkpoint_of h.lossless (width_of h.xtrans) (saved_of d b n z) out

-- the lent bytes afterwards: with the state, or what they were
abbrev pub stored_out : Result Unit Refusal → List ℕ → ℕ → FujiHeader → ℕ → List ℕ → List ℕ
stored_out (Ok tt) d b h n out = with_state d b h n (read_lines (form_of h) (bases_in d b) (bytes_in d b) (suc n)) out
stored_out (Err x) d b h n out = out

-- what a call leaves that stores in a stream with this header
pub record Storing (d : List ℕ) (b n : ℕ) (h : FujiHeader) (before after : Outputs) (answer : Counted) : Type 0 where
  pub answered : answer ≡ stored_counted d b h n (length before.out)
  pub output : after.out ≡ stored_out answer.answer d b h n before.out
  pub lines : after.lines ≡ cleared_lines h.xtrans before.lines
  pub records : after.records ≡ cleared_records before.records

-- what a call leaves, by how it begins
abbrev pub StoredBy : List ℕ → ℕ → ℕ → Result FujiHeader Refusal → (before after : Outputs) → Counted → Type 0
StoredBy d b n (Err x) before after answer = (answer ≡ refused_by x) × (after ≡ before)
StoredBy d b n (Ok h) before after answer = Storing d b n h before after answer

abbrev pub LeftStored : List ℕ → ℕ → ℕ → (before after : Outputs) → Counted → Type 0
LeftStored d b n before after answer = StoredBy d b n (read_begins d b (length before.lines) (length before.records)) before after answer
