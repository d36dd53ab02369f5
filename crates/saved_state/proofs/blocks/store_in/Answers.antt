-- `saved_state::blocks::store_in` meets its contract, by refusals 21 and 13. Assumes nothing.
use mathlib.Core.List.{List}
use mathlib.Core.Path.{◌≡◌, sym, ap, ◌∙◌}
use Prim.Native.Nat.{ℕ}
use lib.ListN.{replicate}
use Rattle.stream.specs.declared.header.FujiHeader.{FujiHeader}
use Rattle.stream.specs.declared.header.Refusal.{Refusal}
use Rattle.saved_state.specs.Storing.{stored_out}
use Rattle.read_block.specs.Totals.{refused_by}
use Rattle.read_block.specs.declared.Counted.{Counted}
use Rattle.saved_state.proofs.StoringLaws.{judged_refused}
use Rattle.saved_state.proofs.blocks.store_in.Goals as goal

-- a refusal leaves the lent bytes
kept : (d : List ℕ) (b : ℕ) (h : FujiHeader) (n : ℕ) (x : Refusal) (a : Counted) (out : List ℕ) → a ≡ refused_by x → out ≡ stored_out a.answer d b h n out
kept d b h n x a out e = rw e

pub returns-in-Err : goal.returns-in-Err
returns-in-Err c =
    record {
      value = c.refuse.ensures.value ∙ judged_refused c.args.d.now c.args.b c.args.h c.args.line _ _
          (sym c.store_judged-judged.ensures ∙ c.in-Err.is);
      state_after = kept c.args.d.now c.args.b c.args.h c.args.line _ _ _ c.refuse.ensures.value;
      lines_after = (c.refuse.ensures.lines_after.0 ∙ ap (λ (n : ℕ). replicate n 0) c.requires.scratch_of.0, c.refuse.ensures.lines_after.1);
    }

pub store_state-requires : goal.store_state-requires
store_state-requires c =
    record {
      d_value = (c.requires.d_value, sym c.store_judged-judged.ensures ∙ c.in-Ok.is);
      scratch_of = c.requires.scratch_of;
    }

pub returns-in-Ok : goal.returns-in-Ok
returns-in-Ok c = record {
  value = c.store_state.ensures.value;
  state_after = c.store_state.ensures.state_after;
  lines_after = c.store_state.ensures.lines_after;
}
