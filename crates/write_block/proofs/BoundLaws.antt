-- No block of so many lines is longer than its bound, and which sets cannot go wrong: a line has 4608 codes, and a tight code has at most 4·bits bits. Assumes nothing.
use borrow.Author.Tests.{leb-true}
use mathlib.Core.Bool.{Bool, true, false, cond, ◌&&◌}
use mathlib.Core.List.{List, [], ◌∷◌, ◌++◌}
use mathlib.Core.Path.{◌≡◌, refl, sym, ◌∙◌}
use Prim.Native.Nat.{ℕ, zero, suc, ◌+◌, ◌*◌, ◌≤◌, ◌<◌}
use native.Mathlib.Omega.{arith}
use lib.Dec.{leb}
use lib.ListN.{length}
use Rattle.quantiser.specs.Quantisers.{largest}
use Rattle.colour_lines.specs.ColourLines.{guarded}
use Rattle.image_map.specs.Places.{width_of}
use Rattle.pass_schedule.specs.Steps.{Step, plan_of, pass_steps, upto}
use Rattle.pass_steps.specs.Contexts.{Depth}
use Rattle.pass_schedule.specs.declared.Plan.{Plan}
use Rattle.pass_schedule.proofs.ScheduleLaws.{codes, line_steps, bayer_codes, x_trans_codes}
use Rattle.write_pass.specs.Puts.{Within}
use Rattle.write_pass.proofs.BoundLaws.{pass_most, pass_sure}
use Rattle.write_block.specs.Counted.{is_ample}
use Rattle.read_block.specs.Records.{base_of}
use Rattle.write_block.specs.WriterParts.{Storable}
use Rattle.write_block.specs.WrittenBlocks.{WriteState, repeats, enter_writing, write_pass_at, before_writing, is_strict, write_line, start_writing, write_lines, written_block}
use Rattle.write_block.specs.Inside.{SetWanted}
use Rattle.read_block.specs.declared.Form.{Form}
use Rattle.write_block.proofs.AnswerLaws.{block_length}
use Rattle.read_block.proofs.SampleLaws.{guarded_le, turned_le}
use Rattle.write_block.proofs.WalkLaws.{pass_at_within, lines_within}
use Rattle.write_block.proofs.WrittenLaws.{repeats_through}
use Rattle.std.specs.Prelude.{None}

-- ---- how many codes a line has

pub codes_append : (a b : List Step) → codes (a ++ b) ≡ codes a + codes b
unfolding codes
codes_append [] b = omega arith
codes_append (x ∷ a) b = omega (arith, codes_append a b)

-- Bayer and X-Trans lines have as many
pub line_codes : (xtrans : Bool) → codes (line_steps (width_of xtrans) xtrans) ≡ 4608
line_codes true = x_trans_codes
line_codes false = bayer_codes

-- ---- how many bits a line adds

module _ (F : Form) (depth : Depth F.bits) (t : List ℕ) (wanted : SetWanted F t) where
  abbrev W : ℕ
  W = width_of F.xtrans

  abbrev M : ℕ
  M = largest F.bits

  -- the steps of the first i passes
  abbrev steps : ℕ → List Step
  steps i = upto (λ i. pass_steps W (plan_of F.xtrans i)) i

  module _ (q : ℕ) (strict : Bool) (n : ℕ) where
    pass_at_most : (i : ℕ) → i < 6 → (r : WriteState) → Within M r.lines
        → length (write_pass_at F q strict t n i r).bits ≤ length r.bits + codes (pass_steps W (plan_of F.xtrans i)) * (4 * F.bits)
    unfolding write_pass_at
    pass_at_most i below r h =
        let P : Plan = plan_of F.xtrans i in
        pass_most F.bits q W strict t n depth P (enter_writing F P r)
        (guarded_le M W P.second (guarded W P.first r.lines) (guarded_le M W P.first r.lines h)) (wanted n i below)

    -- the samples stay up to M, and so many bits are added
    abbrev Added : ℕ → ℕ → WriteState → Type 0
    Added from i z = Within M z.lines × (length z.bits ≤ from + codes (steps i) * (4 * F.bits))

    passes_most : (r : WriteState) → Within M r.lines → Added (length r.bits) 6 (repeats (write_pass_at F q strict t n) 6 r)
    unfolding upto codes
    passes_most r h =
        repeats_through (write_pass_at F q strict t n) (Added (length r.bits)) 6
        (λ i below z a. (
          pass_at_within F q strict t n i z a.0,
          rw (codes_append (steps i) (pass_steps W (plan_of F.xtrans i))) (omega (arith, pass_at_most i below z a.0, a.1)),
        ))
        6 (omega arith) r (h, omega arith)

  module _ (bases : List ℕ) where
    line_most : (n : ℕ) (r : WriteState) → Within M r.lines → length (write_line F bases t n r).bits ≤ length r.bits + 4608 * (4 * F.bits)
    unfolding write_line line_steps
    line_most n r h =
        let m = (passes_most (base_of bases n) (is_strict bases) n (before_writing F bases n r) (turned_le M W r.lines h)).1 in
        rw (line_codes F.xtrans) at m

    lines_most : (n : ℕ) → length (write_lines F bases t n).bits ≤ n * (4608 * (4 * F.bits))
    unfolding write_lines repeats start_writing
    lines_most zero = omega arith
    lines_most (suc n) = omega (arith, line_most n (write_lines F bases t n) (lines_within F bases t n), lines_most n)

    pub block_most : (n : ℕ) → length (written_block F bases n t) ≤ n * 2304 * F.bits
    block_most n = omega (arith, block_length F bases n t, lines_most n)

-- ---- sets that cannot go wrong

module _ (F : Form) (bases t : List ℕ) (s : (F.xtrans && is_strict bases) ≡ false) where
  line_sure : (n : ℕ) (r : WriteState) → r.wrong ≡ None → (write_line F bases t n r).wrong ≡ None
  unfolding write_line write_pass_at
  line_sure n r e =
      repeats_through (write_pass_at F (base_of bases n) (is_strict bases) t n) (λ i (z : WriteState). z.wrong ≡ None) 6
      (λ i below z h. pass_sure F.bits (base_of bases n) (width_of F.xtrans) (is_strict bases) t n F.xtrans i below s (enter_writing F (plan_of F.xtrans i) z) h)
      6 (omega arith) (before_writing F bases n r) e

  pub lines_sure : (n : ℕ) → (write_lines F bases t n).wrong ≡ None
  unfolding write_lines repeats start_writing
  lines_sure zero = refl
  lines_sure (suc n) = line_sure n (write_lines F bases t n) (lines_sure n)

-- ---- what may be stored at once

ample_parts : (measure ample : Bool) → cond measure false ample ≡ true → (measure ≡ false) × (ample ≡ true)
ample_parts true a e = let no : ◌≡◌ {A = ℕ} 0 1 = cc in absurd (omega arith)
ample_parts false a e = (refl, e)

pub ample_storable : (F : Form) → Depth F.bits → (bases : List ℕ) (count : ℕ) (t : List ℕ) → SetWanted F t → (room : ℕ) (measure r : Bool)
    → r ≡ is_ample measure F.bits count room → r ≡ true → (write_lines F bases t count).wrong ≡ None → (measure ≡ false) × Storable F bases count t room
ample_storable F depth bases count t wanted room measure r e er right =
    let p = ample_parts measure (leb (count * 2304 * F.bits) room) (sym e ∙ er) in (
      p.0,
      record {
        right = right;
        enough = omega (arith, block_most F depth t wanted bases count, leb-true (count * 2304 * F.bits) room p.1);
      },
    )
