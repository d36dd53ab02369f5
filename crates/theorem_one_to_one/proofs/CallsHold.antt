-- Calls of the writer, held against the correspondence. Assumes nothing.
use mathlib.Core.Bool.{Bool, true, false, cond, ◌||◌}
use mathlib.Core.List.{List, [], ◌∷◌}
use mathlib.Core.Logic.{◌↔◌}
use mathlib.Core.Path.{◌≡◌, refl, sym, ap, ◌∙◌}
use Prim.Native.Nat.{ℕ, ◌≤◌}
use native.Mathlib.Omega.{arith}
use lib.Dec.{ltb}
use lib.ListN.{length}
use borrow.Author.Tests.{eq-eqb, ltb-true, ltb-false}
use Rattle.image_map.specs.Places.{width_of}
use Rattle.stream.specs.declared.header.FujiHeader.{FujiHeader}
use Rattle.stream.specs.Headers.{parse_of}
use Rattle.stream.specs.Lengths.{length_word, length_refusal}
use Rattle.stream.specs.Refusals.{refusal_number, no_refusal}
use Rattle.stream.specs.declared.header.Refusal.{Refusal}
use Rattle.stream.specs.declared.header.Refusal.TheVariants.{ShortScratch}
use Rattle.stream.proofs.RefusalLaws.{number_low}
use Rattle.admission.specs.Beginnings.{samples_needed, records_needed, with_scratch}
use Rattle.admission.specs.Writings.{writing_begins}
use Rattle.colour_lines.specs.Sets.{set_size}
use Rattle.read_block.specs.Images.{form_of}
use Rattle.read_block.specs.Lent.{Outputs}
use Rattle.write_block.specs.WrittenAnswers.{LeftWritten, SetWriting, written_out}
use Rattle.write_block.specs.WrittenBlocks.{tight_block}
use Rattle.write_block.proofs.AnswerLaws.{written_fits}
use Rattle.theorem_one_to_one.specs.Correspondence.{TightBlockOf}
use Rattle.theorem_one_to_one.specs.Calls.{LongEnough, Starts, CorrespondenceOfCalls, CorrespondenceOfCallsFromC}
use Rattle.theorem_one_to_one.proofs.CorrespondenceHolds.{correspondence_of_headers}
use Rattle.theorem_one_to_one.proofs.WriterHolds.{correspondence_of_writers}
use Rattle.std.specs.Prelude.{Err, Ok, Result}

clash : {X : Type 0} (r : Refusal) (n : ℕ) → Err r ≡ Ok n → X
clash r n e = let no : ◌≡◌ {A = ℕ} 0 1 = cc in absurd (omega arith)

module _ (d : List ℕ) (h : FujiHeader) (e : parse_of d ≡ Ok h) (lossless : h.lossless ≡ true) (t : List ℕ)
    (b : TightBlockOf (form_of h) h.lines t)
    (before after : Outputs) (answer : Result ℕ Refusal) where
  abbrev n : ℕ
  n = length b.block

  abbrev samples : ℕ
  samples = length before.lines

  abbrev records : ℕ
  records = length before.records

  abbrev Put : Type 0
  Put = (answer ≡ Ok n) × Starts b.block before after

  size : length t ≡ set_size (width_of h.xtrans) h.lines
  size = (((correspondence_of_headers d h e lossless).sets t).1 b).size

  begins : writing_begins d (length t) samples records ≡ with_scratch h samples records
  unfolding writing_begins
  begins = rw (e, lossless, eq-eqb (length t) (set_size (width_of h.xtrans) h.lines) size)

  -- scratch is too short
  short : answer ≡ Err ShortScratch → (LongEnough h b.block before → answer ≡ Ok n) → Put ↔ LongEnough h b.block before
  short a can = (λ p. clash ShortScratch n (sym a ∙ p.0), λ l. clash ShortScratch n (sym a ∙ can l))

  done : SetWriting [] t h before after answer → samples_needed h.xtrans ≤ samples → records_needed ≤ records → Put ↔ LongEnough h b.block before
  done L hl hr = (
    λ p. record { out = (written_fits (form_of h) h.lines t (length before.out) n size (sym L.answered ∙ p.0)).2; lines = hl; records = hr },
    λ l. let a = (correspondence_of_writers d h e lossless).answered t before.out b l.out in
        let w = (correspondence_of_writers d h e lossless).whole t before.out n size a in
        let is : answer ≡ Ok n = L.answered ∙ a in
        (is, L.output ∙ ap (λ (x : Result ℕ Refusal). written_out x (tight_block (form_of h) h.lines t) before.out) L.answered ∙ w.output ∙ rw (w.only b)),
  )

  go : (p q : Bool) → ltb samples (samples_needed h.xtrans) ≡ p → ltb records records_needed ≡ q
      → LeftWritten t (cond (p || q) (Err ShortScratch) (Ok h)) before after answer → Put ↔ LongEnough h b.block before
  go true q ep eq L = short L.0 (λ l. absurd (omega (arith, ltb-true samples (samples_needed h.xtrans) ep, l.lines)))
  go false true ep eq L = short L.0 (λ l. absurd (omega (arith, ltb-true records records_needed eq, l.records)))
  go false false ep eq L = done L (ltb-false samples (samples_needed h.xtrans) ep) (ltb-false records records_needed eq)

  call : LeftWritten t (writing_begins d (length t) samples records) before after answer → Put ↔ LongEnough h b.block before
  call L = go (ltb samples (samples_needed h.xtrans)) (ltb records records_needed) refl refl (rw begins at L)

pub correspondence_of_calls : CorrespondenceOfCalls
correspondence_of_calls d h e lossless t b before after answer L = call d h e lossless t b before after answer L

-- ---- from C

-- a length is told by no refusal, and a refusal is not
told_length : (a : Result ℕ Refusal) (n : ℕ) → n ∷ [] ≡ length_word a → no_refusal ≡ length_refusal a → a ≡ Ok n
told_length (Ok m) n e f = let q : n ≡ m = cc in ap Ok (sym q)
told_length (Err r) n e f = let q : 0 ≡ refusal_number r = cc in absurd (omega (arith, number_low r))

pub correspondence_of_calls_from_c : CorrespondenceOfCallsFromC
correspondence_of_calls_from_c d h e lossless t b before after size_word words T =
    let c = correspondence_of_calls d h e lossless t b before after T.answer T.left in (
      λ p. c.0 (told_length T.answer (length b.block) (sym p.0 ∙ T.told_size) (sym p.1 ∙ T.told), p.2),
      λ l. let p = c.1 l in (T.told_size ∙ ap length_word p.0, T.told ∙ ap length_refusal p.0, p.1),
    )
