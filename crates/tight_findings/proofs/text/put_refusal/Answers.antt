-- `tight_findings::text::put_refusal` meets its contract. Assumes nothing.
use mathlib.Core.List.{List, [], ◌∷◌, ◌++◌}
use mathlib.Core.Path.{◌≡◌}
use Prim.Native.Nat.{ℕ}
use native.Mathlib.Omega.{arith}
use lib.ListN.{get_or}
use Rattle.stream.specs.Refusals.{refusal_words}
use Rattle.stream.specs.declared.header.Refusal.{Refusal}
use Rattle.tight_findings.specs.Texts.{number_text, text_of}
use Rattle.tight_findings.proofs.TextLaws.{put_both, put_same}
use Rattle.tight_findings.proofs.text.put_refusal.Goals as goal
use Rattle.std.specs.Prelude.{Err}

of_refusal : (x : Refusal) (w : List ℕ) → w ≡ refusal_words x → number_text (get_or w 0 0) ++ 10 ∷ [] ≡ text_of (Err x)
unfolding text_of
of_refusal x w e = rw e

pub returns : goal.returns
returns c =
    (put_same (of_refusal _ _ c.refusal_words-w.ensures) (put_both c.put_number-end.ensures.0 c.put.ensures (omega (arith, c.put_number-end.ensures.1, c.put.ensures.ends, c.requires))), omega (arith, c.put_number-end.ensures.1, c.put.ensures.ends))
