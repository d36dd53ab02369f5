-- Promises. Item 4, blocks in sixteens: what becomes of a block that was tight until now, when a length was the bits rounded up to bytes. Assumes nothing.
use Rattle.std.specs.Prelude.{true, List, [], ◌≢◌, ◌≡◌, ℕ, ◌+◌, ◌-◌, ◌*◌, ◌/◌, ◌%◌, length, Err, Ok, Some}
use Rattle.bits.specs.Bits.{bits_at}
use Rattle.stream.specs.declared.header.Refusal.TheVariants.{NotTight}
use Rattle.read_block.specs.Blocks.{State, read_lines}
use Rattle.read_block.specs.Images.{block_answer}
use Rattle.read_block.specs.TightBlocks.{Tight, tight_answer}
use Rattle.read_block.specs.declared.Form.{Form}

-- the bits rounded up to bytes
abbrev pub whole_bytes : (bits : ℕ) → ℕ
whole_bytes bits = (bits + 7) / 8

-- a block that was tight: all lines are read and each code is tight; the length is the bits rounded up to bytes, and spare bits are 0
pub record TightByBytes (F : Form) (lines : ℕ) (s : List ℕ) : Type 0 where
  pub end : State
  pub read : read_lines F [] s lines ≡ Some end
  pub codes : end.tight ≡ true
  pub size : length s ≡ whole_bytes end.at.0
  pub spare : bits_at s end.at.0 (8 * length s - end.at.0) ≡ 0

pub record InSixteens (F : Form) (lines : ℕ) (s : List ℕ) : Type 0 where
  -- if its length is no multiple of 16, the tight reading answers 15 with the line number set to lines
  pub not_tight : length s % 16 ≢ 0 → (block : ℕ) → tight_answer F block lines s ≡ Err (NotTight lines)
  -- if it is one, the block is as tight as before
  pub still_tight : length s % 16 ≡ 0 → Tight F lines s
  -- the ordinary reading takes both
  pub taken : (block : ℕ) → block_answer F [] s block lines ≡ (Ok tt)

abbrev pub BlocksInSixteens : Type 0
BlocksInSixteens = (F : Form) (lines : ℕ) (s : List ℕ) → TightByBytes F lines s → InSixteens F lines s
