-- `saved_state::blocks::put_state` meets its contract: the head, the three sets and the lines are the state. Assumes nothing.
use borrow.Author.Rules.{rules}
use mathlib.Core.Bool.{Bool}
use mathlib.Core.List.{List}
use mathlib.Core.Path.{◌≡◌, ◌∙◌}
use Prim.Native.Nat.{ℕ, ◌+◌, ◌*◌, ◌<◌}
use native.Mathlib.Omega.{arith}
use Rattle.statistics.specs.declared.Record.{Record}
use Rattle.image_map.specs.Places.{width_of}
use Rattle.image_map.proofs.PlaceLaws.{width_le}
use Rattle.saved_state.specs.Heads.{put_each}
use Rattle.saved_state.specs.Checkpoints.{Saved, records_byte, lines_byte, checkpoint_byte, checkpoint_of}
use Rattle.saved_state.proofs.PartLaws.{head_part, set_part, lines_part}
use Rattle.read_block.specs.Records.{set_of}
use Rattle.saved_state.proofs.LoadLaws.{some_samples}
use Rattle.saved_state.proofs.blocks.put_state.Goals as goal
use Rattle.saved_state.proofs.blocks.put_state.Goals.{Start}

module _ (lossless : Bool) (W : ℕ) (z : Saved) (out l l' : List ℕ) (g : ℕ) (e : l ≡ put_each (checkpoint_byte lossless W z) 0 (27 + 560 * g) out) where
  -- one set more
  more : (s : List Record) → g < 3 → s ≡ set_of g z.records → l' ≡ put_each (records_byte lossless s) (27 + 560 * g) 560 l
      → l' ≡ put_each (checkpoint_byte lossless W z) 0 (27 + 560 * (g + 1)) out
  unfolding set_of
  more s h f k = let n : 27 + 560 * (g + 1) ≡ 27 + 560 * g + 560 = omega arith in rw (k, f, n) (set_part lossless W z out g h l e)

  -- and the lines behind the three
  done : (U : ℕ) → U ≡ W → g ≡ 3 → l' ≡ put_each (lines_byte U z.lines) 1707 (12 * U) l → l' ≡ checkpoint_of lossless W z out
  done U f k h = rw (h, f) (lines_part lossless W z out l (rw k at e))

abbrev saved : (c : Start) → Saved
saved c = record { stream = c.args.d.now; block = c.args.b; line = c.args.line; at = c.args.at; records = c.args.rs.now; lines = c.args.lines.now }

pub loop-g-init : goal.loop-g-init
loop-g-init c =
    (search rules, c.store_head.ensures ∙ head_part c.args.h.lossless (width_of c.args.h.xtrans) (saved (goal.at.loop-g-init c).Start) c.args.state.now)

pub loop-g-preserved : goal.loop-g-preserved
loop-g-preserved c = (
  search rules,
  more c.args.h.lossless (width_of c.args.h.xtrans) (saved (goal.at.loop-g-preserved c).Start) c.args.state.now _ _ c.loop-g.g
      c.loop-g.invariant.1 _ c.loop-g-test.true c.load_set.ensures c.store_set.ensures,
)

pub store_lines-requires : goal.store_lines-requires
store_lines-requires c = (
  rw c.width.ensures (some_samples c.args.h.xtrans),
  (
    rw c.width.ensures (width_le c.args.h.xtrans),
    (
      rw c.width.ensures (omega (arith, c.requires.scratch_of.0.0)),
      rw c.width.ensures (omega (arith, c.loop-g.invariant.0, c.requires.scratch_of.1)),
    ),
  ),
)

pub returns : goal.returns
returns c =
    done c.args.h.lossless (width_of c.args.h.xtrans) (saved (goal.at.returns c).Start) c.args.state.now _ _ c.loop-g.g c.loop-g.invariant.1 _
    c.width.ensures (omega arith) c.store_lines.ensures
