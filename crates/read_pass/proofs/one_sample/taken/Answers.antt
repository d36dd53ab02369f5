-- `read_pass::one_sample::taken` meets its contract: at once, or by the slow reader. Assumes nothing.
use mathlib.Core.Bool.{Bool}
use mathlib.Core.List.{List}
use mathlib.Core.Path.{◌≡◌, refl, sym, ◌∙◌}
use Prim.Native.Nat.{ℕ}
use Rattle.code.specs.Codes.{code_at}
use Rattle.code.specs.Inside.{Small}
use Rattle.code.specs.Inside.{taken_of}
use Rattle.code_reader.proofs.ShortLaws.{short_taken}
use Rattle.read_pass.proofs.one_sample.taken.Goals as goal
use Rattle.read_pass.proofs.one_sample.taken.Goals.{then-c-eq0, else-c-eq0}
use Rattle.std.specs.Prelude.{Option}
use Rattle.code.specs.declared.Place.{Place}

-- the slow reader's answer, put together anew
slowly : (m k k' limit raw : ℕ) (s : List ℕ) (p : ℕ) (tight : Bool) (long : ℕ) {r t : Option (ℕ × Place)} → k ≡ k' → r ≡ t
    → (t ≡ taken_of m tight long (code_at s p k' limit raw)) × Small t → (r ≡ taken_of m tight long (code_at s p k limit raw)) × Small r
slowly m k k' limit raw s p tight long e f h = rw (e, f) h

pub returns-in_default : goal.returns-in_default
returns-in_default c =
    elim c.if-c-eq0.branch [
      | then-c-eq0 w ↦ slowly _ _ _ _ _ _ _ _ _ w.if-c-eq0.true (c.in_parts.ensures ∙ w.got-is) w.take_any-got.ensures
      | else-c-eq0 w ↦ slowly _ _ _ _ _ _ _ _ _ refl (c.in_parts.ensures ∙ w.got-is) w.take_any-got-else-c-eq0.ensures
    ]

pub returns : goal.returns
returns c =
    short_taken _ _ _ _ _ _ _ _ _ _ c.requires.block_len_bound.1.0 c.requires.block_len_bound.1.1.0 (sym c.short_code-found.ensures ∙ c.in-Some.is)
