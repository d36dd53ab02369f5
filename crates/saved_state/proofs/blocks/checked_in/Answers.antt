-- `saved_state::blocks::checked_in` meets its contract. Assumes nothing.
use mathlib.Core.List.{List}
use mathlib.Core.Path.{◌≡◌}
use Prim.Native.Nat.{ℕ}
use lib.ListN.{length}
use Rattle.image_map.specs.Places.{width_of}
use Rattle.image_map.proofs.PlaceLaws.{width_le}
use Rattle.stream.specs.declared.header.FujiHeader.{FujiHeader}
use Rattle.stream.proofs.HeaderLaws.{parsed}
use Rattle.stream.proofs.StreamLaws.{opened}
use Rattle.saved_state.specs.Checkpoints.{checked_of}
use Rattle.read_block.specs.Images.{bytes_in}
use Rattle.saved_state.specs.Resuming.{checked_in}
use Rattle.saved_state.proofs.blocks.checked_in.Goals as goal
use Rattle.std.specs.Prelude.{Result}
use Rattle.stream.specs.declared.header.Refusal.{Refusal}

checked_by : (d : List ℕ) (b : ℕ) (h : FujiHeader) (s : List ℕ) (w lines : ℕ) (block : List ℕ) (r : Result (ℕ × ℕ) Refusal) → w ≡ width_of h.xtrans → lines ≡ h.lines
    → block ≡ bytes_in d b → r ≡ checked_of w h.bits lines (length block) d b s → r ≡ checked_in d b h s
checked_by d b h s w lines block r ew el eb e = rw (ew, el, eb) at e

pub check-requires : goal.check-requires
check-requires c =
    let o = opened c.args.d.now c.args.h c.requires in record {
      bits_bound = (o.ruled.bits_high, (rw c.width.ensures (width_le c.args.h.xtrans), c.block_bytes-block.ensures.1));
      in_bounds = (parsed c.args.d.now c.args.h o.parsed).whole;
    }

pub returns : goal.returns
returns c =
    checked_by c.args.d.now c.args.b c.args.h c.args.s.now _ _ _ _ c.width.ensures c.line_count.ensures c.block_bytes-block.ensures.0
    c.check.ensures
