-- `saved_state::load::has_other_header` meets its contract: two pieces of 16 bytes differ where some byte does. Assumes nothing.
use Rattle.std.proofs.Common.{List, ℕ, Bool, true, false, not, ◌≡◌, ◌≤◌, ◌<◌, refl, sym, ap, ◌∙◌, arith}
use Rattle.std.proofs.lemmas.Bool.{true_from_ne_false, not-false}
use Rattle.std.proofs.lemmas.List.{same_lists, get_or_default}
use Rattle.std.proofs.lemmas.Slice.Eq.{bytes_eq-Decides}
use Rattle.std.specs.Bool.{Decides}
use borrow.Author.Tests.{eq-eqb, eqb-true}
use lib.Dec.{eqb}
use lib.ListN.{length, get_or, take, length-take}
use lib.Seq.{get_or-take}
use mathlib.Core.Bool.{false≢true}
use Rattle.saved_state.specs.Checkpoints.{any_below}
use Rattle.saved_state.proofs.ByteLaws.{any_none, none_at}
use Rattle.saved_state.proofs.load.has_other_header.Goals as goal

module _ (s d : List ℕ) (hs : 16 ≤ length s) (hd : 16 ≤ length d) where
  abbrev differs : ℕ → Bool
  differs i = not (eqb (get_or s i 0) (get_or d i 0))

  none : take 16 s ≡ take 16 d → any_below 16 differs ≡ false
  none e =
      any_none differs 16
      (λ j h. rw (eq-eqb _ _ (sym (get_or-take 16 s j 0 h) ∙ ap (λ (l : List ℕ). get_or l j 0) e ∙ get_or-take 16 d j 0 h)))

  same : any_below 16 differs ≡ false → take 16 s ≡ take 16 d
  same f =
      same_lists _ _ (omega (arith, length-take 16 s, length-take 16 d))
      (λ k e h.
      let l : k < 16 = omega (arith, length-take 16 s) in
      get_or-take 16 s k e l ∙ get_or_default s k e 0 (omega arith) ∙ eqb-true _ _ (not-false _ (none_at differs 16 k l f)) ∙ sym (get_or_default d k e 0 (omega arith))
      ∙ sym (get_or-take 16 d k e l))

  decided : (q : Bool) → Decides q (take 16 s ≡ take 16 d) → not q ≡ any_below 16 differs
  decided true h = sym (none (h.0 refl))
  decided false h = sym (true_from_ne_false _ (λ f. false≢true (h.1 (same f))))

pub returns : goal.returns
returns c = c.ne.ensures ∙ decided c.args.s.now c.args.d.now (omega (arith, c.requires)) (omega (arith, c.requires)) _ (bytes_eq-Decides _ _)
