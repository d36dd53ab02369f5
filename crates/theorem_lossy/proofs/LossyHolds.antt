-- Lossy blocks read back. Assumes nothing.
use mathlib.Core.Bool.{Bool, false}
use mathlib.Core.List.{List}
use mathlib.Core.Path.{◌≡◌, refl}
use Prim.Native.Nat.{ℕ, suc, ◌+◌, ◌*◌, ◌/◌, ◌%◌, ◌≤◌, ◌<◌}
use native.Mathlib.Omega.{arith}
use lib.ListN.{length, get_or}
use borrow.Author.Tests.{le-ltb}
use Rattle.pass_schedule.specs.Steps.{plan_of, is_interpolated}
use Rattle.pass_steps.specs.Contexts.{Depth}
use Rattle.pass_schedule.proofs.PlanLaws.{first_line, second_line, lines_are, each_pass}
use Rattle.read_pass.specs.Readings.{and_then}
use Rattle.theorem_one_to_one.specs.UsedBases.{IsNear}
use Rattle.theorem_one_to_one.proofs.ListBack.{base_le}
use Rattle.image_map.specs.Places.{width_of}
use Rattle.colour_lines.specs.Sets.{line_size, set_size, line_of_rank, index_in, line_at, colour_line_at, position_at}
use Rattle.write_pass.proofs.SetLaws.{passes_lines, line_lt, rank_lt, position_lt, index_at}
use Rattle.stream.proofs.HeaderLaws.{ruled}
use Rattle.read_block.specs.Records.{base_of}
use Rattle.read_block.specs.Blocks.{read_lines, lines_of}
use Rattle.read_block.specs.Images.{form_of}
use Rattle.write_block.specs.WrittenAnswers.{above_in, measured_answer, set_answer}
use Rattle.write_block.specs.WrittenBlocks.{write_lines, written_block}
use Rattle.read_block.specs.declared.Form.{Form}
use Rattle.write_block.proofs.AnswerLaws.{none_wanted}
use Rattle.read_block.proofs.LineLaws.{width_in_range}
use Rattle.theorem_one_to_one.proofs.BlockTwins.{Shown}
use Rattle.theorem_one_to_one.proofs.WrittenBack.{ReadWhole, read_whole}
use Rattle.theorem_lossy.specs.LossyBlocks.{pass_of, base_at, ReadsNear, LossyBlock, LossyBlocks}
use Rattle.theorem_lossy.proofs.NeverWrong.{not_strict, never_wrong}
use Rattle.std.specs.Prelude.{Ok, None, Some}

-- ---- the pass of a colour line

pub passes_are : (xtrans : Bool) (i : ℕ) → i < 6 → (pass_of (plan_of xtrans i).first ≡ i) × (pass_of (plan_of xtrans i).second ≡ i)
unfolding pass_of
passes_are xtrans i h =
    let e = lines_are xtrans i in
    rw (e.0, e.1) (each_pass (λ k. (pass_of (first_line k) ≡ k) × (pass_of (second_line k) ≡ k))
    ((refl, refl), (refl, refl), (refl, refl), (refl, refl), (refl, refl), (refl, refl)) i h)

-- ---- each sample that has a code

module _ (F : Form) (bases s t : List ℕ) (n : ℕ) (S : Shown F bases s t n) where
  abbrev W : ℕ
  W = width_of F.xtrans

  abbrev lines : List ℕ
  lines = lines_of (read_lines F bases s (suc n))

  abbrev NearAt : ℕ → ℕ → Type 0
  NearAt l p =
      (b : ℕ) × (base_at F bases s n l p ≡ Some b) × (b ≤ base_of bases n) × IsNear b (get_or t (index_in W n l p) 0) (get_or lines (l * (W + 2) + p + 1) 0)

  Coded : ℕ → Type 0
  Coded l = (p : ℕ) → p < W → is_interpolated F.xtrans l p ≡ false → NearAt l p

  all_lines : (c : ℕ) → c < 12 → Coded (line_of_rank c)
  unfolding Coded base_at and_then
  all_lines =
      passes_lines F.xtrans Coded (λ i h.
      let e = passes_are F.xtrans i h in
      let L = S.2 i h in (
        λ p k f. let x = (L.2 p k).0.near f in (x.0, rw (e.0, S.1, L.1) x.1, base_le _ _ _ _ _ _ _ _ x.0 x.1, x.2),
        λ p k f. let x = (L.2 p k).1.near f in (x.0, rw (e.1, S.1, L.1) x.1, base_le _ _ _ _ _ _ _ _ x.0 x.1, x.2),
      ))

module _ (F : Form) (bases : List ℕ) (count : ℕ) (t s : List ℕ) (shown : (m : ℕ) → m < count → Shown F bases s t m) where
  pub reads_near : (j : ℕ) → j < set_size (width_of F.xtrans) count
      → is_interpolated F.xtrans (colour_line_at (width_of F.xtrans) j) (position_at (width_of F.xtrans) j) ≡ false → ReadsNear F bases t s j
  unfolding Coded
  reads_near j h f =
      let W : ℕ = width_of F.xtrans in
      let pos : 0 < W = omega (arith, (width_in_range F.xtrans W refl).0) in
      let n : ℕ = line_at W j in
      let all = all_lines F bases s t n (shown n (line_lt W count j pos h)) in
      let x = all (j % line_size W / W) (rank_lt W count j pos h) (position_at W j) (position_lt W count j pos h) f in
      record { base = x.0; used = x.1; low = x.2; near = rw (index_at W count j pos h) at x.3 }

-- ---- the block

module _ (F : Form) (bases : List ℕ) (depth : Depth F.bits) (count : ℕ) (t : List ℕ) (some-bases : 1 ≤ length bases) (low : above_in F bases t ≡ None) where
  right : (write_lines F bases t count).wrong ≡ None
  right = never_wrong F bases t (not_strict bases some-bases) count

  pub lossy_block : LossyBlock F bases count t (written_block F bases count t)
  lossy_block =
      let R : ReadWhole F bases count t (written_block F bases count t) = read_whole F bases depth count t (none_wanted F bases t low) right in
      record {
        end = R.end;
        read = R.read;
        codes = R.codes;
        tail = R.tail;
        near = reads_near F bases count t (written_block F bases count t) R.shown;
      }

  pub lossy_answered : (room : ℕ) → length (written_block F bases count t) ≤ room
      → set_answer F bases count t room ≡ Ok (length (written_block F bases count t))
  unfolding set_answer measured_answer
  lossy_answered room h = rw (low, right, le-ltb room (length (written_block F bases count t)) h)

pub lossy_blocks : LossyBlocks
lossy_blocks d bases t h e lossless long size low =
    let R = ruled d h e in
    let depth : Depth (form_of h).bits = (R.bits_low, R.bits_high) in
    let some-bases : 1 ≤ length bases = omega (arith, R.lines_low, long) in
    record {
      block = lossy_block (form_of h) bases depth h.lines t some-bases low;
      answered = lossy_answered (form_of h) bases depth h.lines t some-bases low;
    }
