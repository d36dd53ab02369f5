-- Going on gives what a call from the top gives. Assumes nothing.
use mathlib.Core.Bool.{◌&&◌}
use mathlib.Core.List.{List}
use mathlib.Core.Path.{◌≡◌, sym, ◌∙◌}
use Prim.Native.Nat.{ℕ, ◌+◌, ◌-◌}
use native.Mathlib.Nat.{add-zero, le_refl}
use native.Mathlib.Omega.{arith}
use lib.Dec.{ltb, eqb}
use lib.ListN.{get_or}
use borrow.Author.Tests.{le-leb}
use Rattle.numbers.proofs.BoolLaws.{both}
use Rattle.stream.specs.declared.header.FujiHeader.{FujiHeader}
use Rattle.image_region.specs.Regions.{block_of, first_block, last_block, line_count}
use Rattle.image_region.specs.declared.Rect.{Rect}
use Rattle.read_block.specs.Images.{form_of, bytes_in, bases_in, line_of, is_decoded, decoded_sample, block_answer, answer_of, Decoding}
use Rattle.theorem_going_on.specs.GoingOn.{AsFromTop}
use Rattle.theorem_going_on.specs.TwoCalls.{GoingOnAsTheCall}
use Rattle.theorem_going_on.proofs.GoingOnHolds.{going_on}

-- the answer of a region that is of one block
one_block : (d : List ℕ) (h : FujiHeader) (r : Rect) (b : ℕ) → first_block r ≡ b → last_block r ≡ b
    → answer_of d h r (last_block r + 1 - first_block r) ≡ block_answer (form_of h) (bases_in d b) (bytes_in d b) b (line_count r)
unfolding answer_of
one_block d h r b f l =
    let one : last_block r + 1 - first_block r ≡ 1 = omega arith in
    rw (one, f, add-zero b)

pub going_on_as_the_call : GoingOnAsTheCall
going_on_as_the_call d d' h b n r tile lent lent' before after stored resumed top top' answer bytes same calls from =
    let A : AsFromTop d' h b n r tile before.image after.image stored resumed =
    going_on d d' h b n r tile lent lent' before after stored resumed bytes same calls in
    let D : Decoding d' h r tile top top' answer = rw from.begins at from.left in
    record {
      samples = λ i e.
          let p = both (eqb (block_of r i) b && ltb n (line_of r i)) (is_decoded d' h r (last_block r + 1) i) e in
          let a : get_or after.image i 0 ≡ decoded_sample d' h r tile i = A.pictured.entries i ∙ rw e in
          let t : get_or top'.image i 0 ≡ decoded_sample d' h r tile i = D.pictured.entries i ∙ rw p.1 in
          a ∙ sym t;
      others = λ i e. A.pictured.entries i ∙ rw e;
      answers = λ f l.
          let t = D.answered ∙ one_block d' h r b f l in
          A.answered ∙ rw (f, l, le-leb b b (le_refl b)) (sym t);
    }
