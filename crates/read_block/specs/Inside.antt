-- Inside. What only our own functions say.
use Rattle.std.specs.Prelude.{Bool, true, cond, ◌&&◌, List, ℕ, zero, suc, eqb, length, ◌≡◌, Err, Ok, Result, None, Option, Some}
use Rattle.statistics.specs.declared.Record.{Record}
use Rattle.line_totals.specs.declared.TightLines.{TightLines}
use Rattle.read_block.specs.declared.Form.{Form}
use Rattle.read_block.specs.Blocks.{State, read_lines, totals_in}
use Rattle.admission.specs.Beginnings.{samples_needed, records_needed}
use Rattle.read_block.specs.Lent.{Scratch, Outputs}
use Rattle.read_block.specs.declared.Counted.{Counted}
use Rattle.stream.specs.declared.header.Refusal.TheVariants.{Truncated}
use Rattle.line_totals.specs.declared.Totals.{Totals}
use Rattle.stream.specs.declared.header.Refusal.{Refusal}

abbrev pub is_tight_state : Option State → Bool
is_tight_state None = true
is_tight_state (Some r) = r.tight

-- how many lines, from the first on, have only tight codes, where `read` reads so many of them
unfoldable pub tight_in : (ℕ → Option State) → ℕ → ℕ
tight_in read zero = 0
tight_in read (suc n) =
    let m = tight_in read n in
    cond (eqb m n && is_tight_state (read (suc n))) (suc n) m

-- of the lines, from the first on, that have only tight codes
abbrev pub tight_of : (ℕ → Option State) → ℕ → TightLines
tight_of read n = record { lines = tight_in read n; totals = totals_in (read (tight_in read n)) }

abbrev pub tight_before : Form → List ℕ → List ℕ → ℕ → TightLines
tight_before F bases s n = tight_of (λ m. read_lines F bases s m) n

abbrev pub scratch_of : Outputs → Scratch
scratch_of o = record { lines = o.lines; records = o.records }

-- the part of scratch that a block is read or written with
abbrev pub ScratchOf : Bool → List ℕ → List Record → Type 0
ScratchOf xtrans lines records = (length lines ≡ samples_needed xtrans) × (length records ≡ records_needed)

-- what a walk over block b says
abbrev pub walked_totals : Result (Totals × TightLines) (ℕ × Totals) → Totals
walked_totals (Ok (all, tight)) = all
walked_totals (Err (line, before)) = before

-- what a walk over block b answers
abbrev pub walked_answer : ℕ → Result (Totals × TightLines) (ℕ × Totals) → Result Unit Refusal
walked_answer b (Ok (all, tight)) = Ok tt
walked_answer b (Err (line, before)) = Err (Truncated b line)

abbrev pub walked_counted : ℕ → Result (Totals × TightLines) (ℕ × Totals) → Counted
walked_counted b w = record { answer = walked_answer b w; totals = walked_totals w }
