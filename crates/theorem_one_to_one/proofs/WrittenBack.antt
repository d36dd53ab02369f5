-- The block of a set, with any bases: it is read whole, and what it shows is near. Assumes nothing.
use mathlib.Core.Bool.{Bool, true, false}
use mathlib.Core.List.{List, ◌++◌}
use mathlib.Core.Path.{◌≡◌, refl, sym, ap, ◌∙◌}
use Prim.Native.Nat.{ℕ, ◌-◌, ◌*◌, ◌<◌}
use lib.ListN.{length, drop, replicate}
use lib.Seq.{drop_at, length-take-le}
use Rattle.bits.specs.BitLists.{bits_of, block_bytes, is_tail}
use Rattle.bits.proofs.ListLaws.{length_bits}
use Rattle.bits.proofs.PackLaws.{length_bytes_of, bits_bytes_of}
use Rattle.pass_steps.specs.Contexts.{Depth}
use Rattle.read_block.specs.Blocks.{State, read_lines}
use Rattle.write_block.specs.WrittenBlocks.{WriteState, write_lines, written_block}
use Rattle.write_block.specs.Inside.{SetWanted}
use Rattle.read_block.specs.declared.Form.{Form}
use Rattle.theorem_one_to_one.proofs.BlockLaws.{Tail, tail_is}
use Rattle.theorem_one_to_one.proofs.BlockTwins.{Shown, lines_forward}
use Rattle.theorem_one_to_one.proofs.RunTwins.{write_state_of, CleanState, StoredState}
use Rattle.std.specs.Prelude.{None, Some}

pub record ReadWhole (F : Form) (bases : List ℕ) (lines : ℕ) (t s : List ℕ) : Type 0 where
  pub end : State
  pub read : read_lines F bases s lines ≡ Some end
  pub codes : end.tight ≡ true
  pub tail : is_tail s end.at.0 ≡ true
  pub shown : (m : ℕ) → m < lines → Shown F bases s t m

module _ (F : Form) (bases : List ℕ) (depth : Depth F.bits) (lines : ℕ) (t : List ℕ) (range : SetWanted F t)
    (right : (write_lines F bases t lines).wrong ≡ None) where
  abbrev bits : List Bool
  bits = (write_lines F bases t lines).bits

  s : List ℕ
  s = written_block F bases lines t

  s_bits : bits_of s ≡ bits ++ replicate (8 * block_bytes (length bits) - length bits) false
  unfolding s written_block
  s_bits = bits_bytes_of bits

  s_length : length s ≡ block_bytes (length bits)
  unfolding s written_block
  s_length = length_bytes_of bits

  rest : drop (length bits) (bits_of s) ≡ replicate (8 * block_bytes (length bits) - length bits) false
  rest = ap (drop (length bits)) s_bits ∙ drop_at bits (replicate (8 * block_bytes (length bits) - length bits) false) (length bits) refl

  stored : StoredState s (write_lines F bases t lines)
  stored = record { starts = s_bits ∙ ap (λ (l : List Bool). bits ++ l) (sym rest); right = right }

  -- it is read, up to as many bits as were written
  tail : (z : State) → CleanState s z → write_lines F bases t lines ≡ write_state_of s z → Tail s z.at.0
  tail z clean same =
      let taken = length-take-le z.at.0 (bits_of s) (rw (length_bits s) clean.inside) in
      let e : length bits ≡ z.at.0 = ap (λ (w : WriteState). length w.bits) same ∙ taken in
      record { full = rw (← e) s_length; inside = clean.inside; zeros = rw (← e, s_length) rest }

  pub read_whole : ReadWhole F bases lines t (written_block F bases lines t)
  unfolding s
  read_whole =
      let all = lines_forward F bases depth s t range lines stored in
      let z : State = all.0 in
      let R = all.1 in
      record { end = z; read = R.0; codes = R.1.tight; tail = tail_is s z.at.0 (tail z R.1 R.2); shown = R.3 }
