-- The set that is read from a block, and its tail. Assumes nothing.
use mathlib.Core.Bool.{true, false}
use mathlib.Core.List.{List, []}
use mathlib.Core.Path.{◌≡◌, refl, ◌∙◌}
use Prim.Native.Nat.{ℕ, suc, ◌+◌, ◌-◌, ◌*◌, ◌≤◌, ◌<◌, zero-le}
use native.Mathlib.Omega.{arith}
use lib.Dec.{eqb}
use lib.ListN.{length, get_or, drop, replicate, get_or-eq_default}
use borrow.Author.Tests.{eq-eqb, eqb-true}
use Rattle.numbers.proofs.OrderLaws.{split}
use Rattle.bits.specs.Bits.{bits_at}
use Rattle.bits.specs.BitLists.{bits_of, block_bytes, is_tail}
use Rattle.bits.proofs.PackLaws.{room, spare_zeros, zeros_spare}
use Rattle.quantiser.specs.Quantisers.{largest}
use Rattle.image_map.specs.Places.{width_of}
use Rattle.colour_lines.specs.Sets.{set_size, line_of_rank, index_in, line_at, colour_line_at, position_at}
use Rattle.numbers.proofs.BoolLaws.{both}
use Rattle.write_pass.proofs.SetLaws.{index_lt, line_at_lem, colour_line_at_lem, position_at_lem}
use Rattle.read_block.specs.Blocks.{State, read_lines, lines_of}
use Rattle.read_block.specs.TightBlocks.{read_sample, set_read}
use Rattle.read_block.specs.declared.Form.{Form}
use Rattle.read_block.proofs.SampleLaws.{samples_in_range}
use Rattle.read_block.proofs.TableLaws.{table_length, table_get_d}
use Rattle.std.specs.Prelude.{None, Option, Some}

-- ---- the set

module _ (F : Form) (lines : ℕ) (s : List ℕ) where
  abbrev W : ℕ
  W = width_of F.xtrans

  pub set_size_lem : length (set_read F lines s) ≡ set_size W lines
  unfolding set_read
  set_size_lem = table_length (read_sample F [] s) (set_size W lines)

  pub set_at : (j : ℕ) → j < set_size W lines → get_or (set_read F lines s) j 0 ≡ read_sample F [] s j
  unfolding set_read
  set_at j h = table_get_d (read_sample F [] s) (set_size W lines) j 0 h

  -- a sample of the set is what stands at its place once its line is read
  pub set_shown : (n c p : ℕ) → n < lines → c < 12 → p < W
      → get_or (set_read F lines s) (index_in W n (line_of_rank c) p) 0 ≡ get_or (lines_of (read_lines F [] s (suc n))) (line_of_rank c * (W + 2) + p + 1) 0
  set_shown n c p hn hc hp =
      set_at (index_in W n (line_of_rank c) p) (index_lt W n c p hc hp lines hn)
      ∙ rw (line_at_lem W n c p hc hp, colour_line_at_lem W n c p hc hp, position_at_lem W n c p hc hp)

  -- it is in 0..M
  read_le : F.bits ≤ 16 → (n j : ℕ) → get_or (lines_of (read_lines F [] s n)) j 0 ≤ largest F.bits
  read_le high n j = go (read_lines F [] s n) refl
    where
      go : (o : Option State) → read_lines F [] s n ≡ o → get_or (lines_of o) j 0 ≤ largest F.bits
      go None e = zero-le
      go (Some z) e = samples_in_range F [] s n z high e j

  pub set_le : F.bits ≤ 16 → (j : ℕ) → get_or (set_read F lines s) j 0 ≤ largest F.bits
  set_le high j =
      split (set_size W lines) j
      (λ h. rw (get_or-eq_default (set_read F lines s) 0 {n = j} (omega (arith, set_size_lem))) zero-le)
      (λ h. rw (set_at j h) (read_le high (suc (line_at W j)) (colour_line_at W j * (W + 2) + position_at W j + 1)))

-- ---- the tail

-- the length is the bits rounded up to a multiple of 16 bytes, and zeros follow the bits
pub record Tail (s : List ℕ) (at : ℕ) : Type 0 where
  pub full : length s ≡ block_bytes at
  pub inside : at ≤ 8 * length s
  pub zeros : drop at (bits_of s) ≡ replicate (8 * length s - at) false

pub tail_was : (s : List ℕ) (at : ℕ) → is_tail s at ≡ true → Tail s at
unfolding is_tail
tail_was s at e =
    let b = both (eqb (length s) (block_bytes at)) (eqb (bits_at s at (8 * length s - at)) 0) e in
    let full : length s ≡ block_bytes at = eqb-true (length s) (block_bytes at) b.0 in
    let inside : at ≤ 8 * length s = omega (arith, room at) in
    record { full = full; inside = inside; zeros = spare_zeros s at inside (eqb-true (bits_at s at (8 * length s - at)) 0 b.1) }

pub tail_is : (s : List ℕ) (at : ℕ) → Tail s at → is_tail s at ≡ true
unfolding is_tail
tail_is s at T =
    rw (eq-eqb (length s) (block_bytes at) T.full, eq-eqb (bits_at s at (8 * length s - at)) 0 (zeros_spare s at T.inside T.zeros))
