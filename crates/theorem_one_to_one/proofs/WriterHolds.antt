-- The writer, held against the correspondence. Assumes nothing.
use mathlib.Core.List.{List}
use mathlib.Core.Path.{◌≡◌, ap}
use Prim.Native.Nat.{ℕ, ◌≤◌}
use lib.ListN.{length}
use Rattle.image_map.specs.Places.{width_of}
use Rattle.colour_lines.specs.Sets.{set_size}
use Rattle.read_block.specs.Images.{form_of}
use Rattle.write_block.specs.WrittenBlocks.{tight_block}
use Rattle.write_block.specs.Inside.{FitSet}
use Rattle.write_block.specs.WrittenAnswers.{written_answer, written_out}
use Rattle.read_block.specs.declared.Form.{Form}
use Rattle.write_block.proofs.AnswerLaws.{written_fits, fits_written}
use Rattle.theorem_one_to_one.specs.Correspondence.{Correspondence, TightBlockOf, WrittenWhole, CorrespondenceOfWriters}
use Rattle.theorem_one_to_one.proofs.CorrespondenceHolds.{correspondence_of_headers}
use Rattle.theorem_one_to_one.proofs.PredictedBlocks.{fits_is}
use Rattle.std.specs.Prelude.{Ok, Result}
use Rattle.stream.specs.declared.header.Refusal.{Refusal}

module _ (F : Form) (lines : ℕ) (D : Correspondence F lines) where
  -- the tight block of a set that fits, as one from which the set is read
  its_block : (t : List ℕ) → FitSet F lines t → TightBlockOf F lines t
  its_block t f =
      let w = D.written t ((fits_is F lines t).0 f) in
      record { block = tight_block F lines t; bytes = w.0; tight = w.1; reads = w.2 }

  whole : (t out : List ℕ) (n : ℕ) → length t ≡ set_size (width_of F.xtrans) lines → written_answer F lines t (length out) ≡ Ok n
      → WrittenWhole F lines t out n
  unfolding its_block
  whole t out n size e =
      let w = written_fits F lines t (length out) n size e in
      let f : FitSet F lines t = w.0 in
      record {
        output = ap (λ (a : Result ℕ Refusal). written_out a (tight_block F lines t) out) e;
        size = w.1;
        tight = (its_block t f).tight;
        reads = (its_block t f).reads;
        only = λ b. D.one t b (its_block t f);
      }

  answered : (t out : List ℕ) (b : TightBlockOf F lines t) → length b.block ≤ length out → written_answer F lines t (length out) ≡ Ok (length b.block)
  unfolding its_block
  answered t out b room =
      let f : FitSet F lines t = (fits_is F lines t).1 ((D.sets t).1 b) in
      let e : b.block ≡ tight_block F lines t = D.one t b (its_block t f) in
      rw e (fits_written F lines t (length out) f (rw e at room))

pub correspondence_of_writers : CorrespondenceOfWriters
correspondence_of_writers d h e lossless =
    let D = correspondence_of_headers d h e lossless in
    record { whole = whole (form_of h) h.lines D; answered = answered (form_of h) h.lines D }
