-- Promises. Under one lossless form and number of lines: tight blocks and sets of colour lines that fit correspond one to one, and the block that is
-- written for a set is the one that corresponds to it. Assumes nothing.
use Rattle.std.specs.Prelude.{true, List, [], ◌++◌, ◌↔◌, ◌≡◌, ℕ, suc, ◌+◌, ◌*◌, ◌≤◌, ◌<◌, length, get_or, drop, Ok}
use Rattle.image_map.specs.Places.{width_of}
use Rattle.stream.specs.Headers.{parse_of}
use Rattle.stream.specs.Streams.{open_of}
use Rattle.stream.specs.declared.header.FujiHeader.{FujiHeader}
use Rattle.colour_lines.specs.Sets.{set_size, line_of_rank, index_in}
use Rattle.read_block.specs.Blocks.{read_lines, lines_of}
use Rattle.read_block.specs.Images.{form_of, bases_in}
use Rattle.read_block.specs.TightBlocks.{Tight, set_read, tight_answer}
use Rattle.write_block.specs.WrittenBlocks.{tight_block}
use Rattle.write_block.specs.WrittenAnswers.{written_answer, written_out}
use Rattle.read_block.specs.declared.Form.{Form}
use Rattle.theorem_one_to_one.specs.PredictedSets.{PredictedSet}

-- bytes are numbers below 256
abbrev pub Bytes : List ℕ → Type 0
Bytes s = (i : ℕ) → get_or s i 0 < 256

-- a tight block from which the set t is read
pub record TightBlockOf (F : Form) (lines : ℕ) (t : List ℕ) : Type 0 where
  pub block : List ℕ
  pub bytes : Bytes block
  pub tight : Tight F lines block
  pub reads : set_read F lines block ≡ t

pub record Correspondence (F : Form) (lines : ℕ) : Type 0 where
  -- two tight blocks are equal exactly when their sets are
  pub same : (a b : List ℕ) → Bytes a → Bytes b → Tight F lines a → Tight F lines b → (a ≡ b) ↔ (set_read F lines a ≡ set_read F lines b)
  -- a set is read from a tight block exactly when its samples are in 0..M and each interpolated position has its prediction
  pub sets : (t : List ℕ) → PredictedSet F lines t ↔ TightBlockOf F lines t
  -- and then from one tight block alone
  pub one : (t : List ℕ) (a b : TightBlockOf F lines t) → a.block ≡ b.block
  -- the tight block of such a set consists of bytes, is tight, and reads back as that set
  pub written : (t : List ℕ) → PredictedSet F lines t
      → Bytes (tight_block F lines t) × Tight F lines (tight_block F lines t) × (set_read F lines (tight_block F lines t) ≡ t)
  -- the tight reading of block b accepts exactly the tight blocks
  pub accepted : (b : ℕ) (s : List ℕ) → (tight_answer F b lines s ≡ (Ok tt)) ↔ Tight F lines s
  -- position p of colour line c of the twelve, in line n of the set that is read from s, is what stands there after that line is read, which is
  -- what decoding fills the image from
  pub shown : (s : List ℕ) (n c p : ℕ) → n < lines → c < 12 → p < width_of F.xtrans
      → get_or (set_read F lines s) (index_in (width_of F.xtrans) n (line_of_rank c) p) 0
      ≡ get_or (lines_of (read_lines F [] s (suc n))) (line_of_rank c * (width_of F.xtrans + 2) + p + 1) 0

-- the correspondence, under every lossless header that breaks no rule
abbrev pub CorrespondenceOfHeaders : Type 0
CorrespondenceOfHeaders = (d : List ℕ) (h : FujiHeader) → parse_of d ≡ Ok h → h.lossless ≡ true → Correspondence (form_of h) h.lines

-- in a lossless stream that opens no block has bases, so that decoding reads what the correspondence is about, `read_lines F []`
abbrev pub NoBases : Type 0
NoBases = (d : List ℕ) (h : FujiHeader) → open_of d ≡ Ok h → h.lossless ≡ true → (b : ℕ) → bases_in d b ≡ []

-- ---- the writer: what `write_block` (crates/block) promises, and the correspondence, in one place

-- what holds where it answers the length n for the set t, with so many bytes of output
pub record WrittenWhole (F : Form) (lines : ℕ) (t out : List ℕ) (n : ℕ) : Type 0 where
  -- the output starts with the tight block of the set, of that length, and goes on as it was
  pub output : written_out (written_answer F lines t (length out)) (tight_block F lines t) out ≡ tight_block F lines t ++ drop n out
  pub size : n ≡ length (tight_block F lines t)
  -- that block is tight, the set is read from it, and no other tight block has that set
  pub tight : Tight F lines (tight_block F lines t)
  pub reads : set_read F lines (tight_block F lines t) ≡ t
  pub only : (b : TightBlockOf F lines t) → b.block ≡ tight_block F lines t

pub record CorrespondenceOfWriter (F : Form) (lines : ℕ) : Type 0 where
  -- a length is answered only where all of that holds
  pub whole : (t out : List ℕ) (n : ℕ) → length t ≡ set_size (width_of F.xtrans) lines → written_answer F lines t (length out) ≡ Ok n
      → WrittenWhole F lines t out n
  -- and it is answered for every set that is read from a tight block, where the output is long enough for that block
  pub answered : (t out : List ℕ) (b : TightBlockOf F lines t)
      → length b.block ≤ length out → written_answer F lines t (length out) ≡ Ok (length b.block)

abbrev pub CorrespondenceOfWriters : Type 0
CorrespondenceOfWriters = (d : List ℕ) (h : FujiHeader) → parse_of d ≡ Ok h → h.lossless ≡ true → CorrespondenceOfWriter (form_of h) h.lines
