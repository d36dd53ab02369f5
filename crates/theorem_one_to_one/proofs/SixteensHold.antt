-- Blocks that were tight, in sixteens. Assumes nothing.
use mathlib.Core.Bool.{true, false}
use mathlib.Core.List.{List, []}
use mathlib.Core.Logic.{◌≢◌}
use mathlib.Core.Path.{◌≡◌}
use Prim.Native.Nat.{ℕ, ◌-◌, ◌*◌, ◌%◌}
use native.Mathlib.Nat.{le_refl}
use native.Mathlib.Omega.{arith}
use lib.ListN.{length}
use borrow.Author.Tests.{le-ltb, eq-eqb, ne_eqb}
use Rattle.bits.specs.Bits.{bits_at}
use Rattle.bits.specs.BitLists.{block_bytes, is_tail}
use Rattle.stream.specs.declared.header.Refusal.TheVariants.{NotTight}
use Rattle.read_block.specs.Images.{block_answer}
use Rattle.read_block.specs.TightBlocks.{Tight, tight_answer}
use Rattle.read_block.specs.declared.Form.{Form}
use Rattle.read_block.proofs.BadCodeLaws.{no_bad}
use Rattle.read_block.proofs.DecodeLaws.{all_read}
use Rattle.theorem_one_to_one.specs.Sixteens.{whole_bytes, TightByBytes, BlocksInSixteens}
use Rattle.std.specs.Prelude.{Err, Ok}

-- ---- the tail

-- a length that is no multiple of 16 is not that of a tight block
no_tail : (s : List ℕ) (at : ℕ) → length s % 16 ≢ 0 → is_tail s at ≡ false
unfolding is_tail
no_tail s at ne = rw (ne_eqb (length s) (block_bytes at) (λ e. ne (omega arith)))

-- bytes that are a multiple of 16 are those of a tight block
same_bytes : (n bits : ℕ) → n ≡ whole_bytes bits → n % 16 ≡ 0 → n ≡ block_bytes bits
same_bytes n bits e m = omega arith

a_tail : (s : List ℕ) (at : ℕ) → length s ≡ whole_bytes at → length s % 16 ≡ 0 → bits_at s at (8 * length s - at) ≡ 0 → is_tail s at ≡ true
unfolding is_tail
a_tail s at size m spare =
    rw (eq-eqb (length s) (block_bytes at) (same_bytes (length s) at size m), eq-eqb (bits_at s at (8 * length s - at)) 0 spare)

-- ---- the answers

module _ (F : Form) (lines : ℕ) (s : List ℕ) (T : TightByBytes F lines s) where
  not_tight : length s % 16 ≢ 0 → (block : ℕ) → tight_answer F block lines s ≡ Err (NotTight lines)
  unfolding tight_answer
  not_tight ne block =
      rw (
        all_read F [] s lines T.end T.read,
        (no_bad F [] s lines T.end T.read).0 T.codes,
        le-ltb lines lines (le_refl lines),
        T.read,
        no_tail s T.end.at.0 ne,
      )

  still_tight : length s % 16 ≡ 0 → Tight F lines s
  still_tight m = record { end = T.end; read = T.read; codes = T.codes; tail = a_tail s T.end.at.0 T.size m T.spare }

  taken : (block : ℕ) → block_answer F [] s block lines ≡ (Ok tt)
  taken block = rw (all_read F [] s lines T.end T.read, le-ltb lines lines (le_refl lines))

pub blocks_in_sixteens : BlocksInSixteens
blocks_in_sixteens F lines s T = record { not_tight = not_tight F lines s T; still_tight = still_tight F lines s T; taken = taken F lines s T }
