-- `saved_state::blocks::resume_in` meets its contract, by what the stored bytes are. Assumes nothing.
use borrow.Author.Rules.{rules}
use mathlib.Core.Path.{◌≡◌, sym, ap, ◌∙◌}
use mathlib.Core.List.{List}
use Prim.Native.Nat.{ℕ}
use lib.ListN.{replicate}
use Rattle.stream.specs.declared.header.FujiHeader.{FujiHeader}
use Rattle.image_region.specs.declared.Rect.{Rect}
use Rattle.saved_state.specs.Calls.{ResumedIn}
use Rattle.saved_state.specs.Resuming.{checked_in, Resumed}
use Rattle.read_block.specs.declared.Counted.{Counted}
use Rattle.saved_state.proofs.blocks.resume_in.Goals as goal
use Rattle.std.specs.Prelude.{Result}
use Rattle.stream.specs.declared.header.Refusal.{Refusal}

-- by what they are
told : (d : List ℕ) (b : ℕ) (h : FujiHeader) (s : List ℕ) (r : Rect) (tile image image' : List ℕ) (a : Counted) (x : Result (ℕ × ℕ) Refusal) → checked_in d b h s ≡ x
    → Resumed d b h s r tile x image image' a → ResumedIn d b h s r tile image image' a
told d b h s r tile image image' a x e p = rw e p

pub returns-in-Err : goal.returns-in-Err
returns-in-Err c =
    record {
      resumed_in = told c.args.d.now c.args.b c.args.h c.args.s.now c.args.r c.args.tile _ _ _ _
          (sym c.checked_in.ensures ∙ c.in-Err.is) (c.refuse.ensures.value, search rules);
      lines_after = (c.refuse.ensures.lines_after.0 ∙ ap (λ (n : ℕ). replicate n 0) c.requires.scratch_of.0, c.refuse.ensures.lines_after.1);
    }

pub resume_lines-requires : goal.resume_lines-requires
resume_lines-requires c =
    record {
      d_value = (c.requires.d_value.0, c.requires.d_value.1.1);
      b_lt_blocks = (c.requires.d_value.1.0, sym c.checked_in.ensures ∙ c.in-Ok.is);
      scratch_of = c.requires.scratch_of;
    }

pub returns-in-Ok : goal.returns-in-Ok
returns-in-Ok c =
    record {
      resumed_in = told c.args.d.now c.args.b c.args.h c.args.s.now c.args.r c.args.tile _ _ _ _
          (sym c.checked_in.ensures ∙ c.in-Ok.is) c.resume_lines.ensures.resumed;
      lines_after = c.resume_lines.ensures.lines_after;
    }
