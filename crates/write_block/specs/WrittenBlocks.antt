-- Rules. The block of a set of colour lines: line after line, by the rules of reading, each with its base; the tight block has no bases.
use Rattle.std.specs.Prelude.{Bool, List, [], ℕ, zero, suc, eqb, length, None, Option}
use Rattle.bits.specs.BitLists.{bytes_of}
use Rattle.statistics.specs.declared.Record.{Record}
use Rattle.pass_schedule.specs.Steps.{plan_of}
use Rattle.pass_schedule.specs.declared.Plan.{Plan}
use Rattle.image_map.specs.Places.{width_of}
use Rattle.write_pass.specs.Writings.{Writing, write_pass}
use Rattle.read_block.specs.Records.{base_of, set_of, put_set}
use Rattle.read_block.specs.Between.{lines_at_start, records_at_start, lines_before, records_before, lines_entered}
use Rattle.read_block.specs.declared.Form.{Form}

-- what writing a block goes on: the colour lines, the records, the bits so far, and the first interpolated sample that is not its prediction
pub record WriteState : Type 0 where
  pub lines : List ℕ
  pub records : List Record
  pub bits : List Bool
  pub wrong : Option ℕ

-- f 0, f 1, .. one after the other, n of them
unfoldable pub repeats : {A : Type 0} → (ℕ → A → A) → ℕ → A → A
repeats f zero r = r
repeats f (suc n) r = f n (repeats f n r)

-- a pass goes on the records of its set, and on lines whose guards are set
abbrev pub enter_writing : Form → Plan → WriteState → Writing
enter_writing F P r =
    record {
      lines = lines_entered F P r.lines;
      set = set_of P.set r.records;
      bits = r.bits;
      wrong = r.wrong;
    }

-- and its set goes back
abbrev pub leave_writing : Plan → WriteState → Writing → WriteState
leave_writing P r z = record { lines = z.lines; records = put_set P.set z.set r.records; bits = z.bits; wrong = z.wrong }

-- pass i of line n, whose base is q
unfoldable pub write_pass_at : Form → ℕ → Bool → List ℕ → ℕ → ℕ → WriteState → WriteState
write_pass_at F q strict t n i r =
    let P = plan_of F.xtrans i in
    leave_writing P r (write_pass F.bits q (width_of F.xtrans) strict t n P (enter_writing F P r))

-- before line n the colour lines are turned, and the main records may start anew
abbrev pub before_writing : Form → List ℕ → ℕ → WriteState → WriteState
before_writing F bases n r =
    record {
      lines = lines_before F r.lines;
      records = records_before F bases n r.records;
      bits = r.bits;
      wrong = r.wrong;
    }

-- a lossless block has no bases, and its set is held to the predictions of interpolated samples
abbrev pub is_strict : List ℕ → Bool
is_strict bases = eqb (length bases) 0

-- line n: six passes
unfoldable pub write_line : Form → List ℕ → List ℕ → ℕ → WriteState → WriteState
write_line F bases t n r = repeats (write_pass_at F (base_of bases n) (is_strict bases) t n) 6 (before_writing F bases n r)

-- a block starts with lines of 0, start records, and no bits
unfoldable pub start_writing : Form → List ℕ → WriteState
start_writing F bases = record { lines = lines_at_start F; records = records_at_start F bases; bits = []; wrong = None }

-- the state after n lines
unfoldable pub write_lines : Form → List ℕ → List ℕ → ℕ → WriteState
write_lines F bases t n = repeats (write_line F bases t) n (start_writing F bases)

-- the block of the set t with these bases
unfoldable pub written_block : Form → List ℕ → ℕ → List ℕ → List ℕ
written_block F bases lines t = bytes_of (write_lines F bases t lines).bits

-- the tight block of the set t: it is lossless
abbrev pub tight_block : Form → ℕ → List ℕ → List ℕ
tight_block F lines t = written_block F [] lines t
