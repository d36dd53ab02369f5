-- `saved_state::blocks::store_judged` meets its contract: refusal 21 before 13. Assumes nothing.
use borrow.Author.Tests.{le-leb, lt-leb, lt-ltb, le-ltb}
use mathlib.Core.Path.{◌≡◌}
use Prim.Native.Nat.{ℕ, ◌+◌, ◌*◌, ◌≤◌, ◌<◌}
use Rattle.image_map.specs.Places.{width_of}
use Rattle.image_map.proofs.PlaceLaws.{width_le}
use Rattle.stream.specs.declared.header.FujiHeader.{FujiHeader}
use Rattle.stream.specs.declared.header.Refusal.TheVariants.{ShortOutput, BadState}
use Rattle.saved_state.specs.Calls.{store_judged}
use Rattle.saved_state.proofs.blocks.store_judged.Goals as goal
use Rattle.saved_state.proofs.blocks.store_judged.Goals.{After-width}
use Rattle.std.specs.Prelude.{Err, Ok}

module _ (h : FujiHeader) (n room k : ℕ) (ek : k ≡ h.lines) where
  no_line : k ≤ n → Err BadState ≡ store_judged h n room
  no_line l = rw (le-leb h.lines n (rw ek at l))

  module _ (l : n < k) (w : ℕ) (ew : w ≡ width_of h.xtrans) where
    no_room : room < 1707 + 12 * w → Err ShortOutput ≡ store_judged h n room
    no_room s = rw (lt-leb h.lines n (rw ek at l), lt-ltb room (1707 + 12 * width_of h.xtrans) (rw ew at s))

    neither : 1707 + 12 * w ≤ room → (Ok tt) ≡ store_judged h n room
    neither s = rw (lt-leb h.lines n (rw ek at l), le-ltb room (1707 + 12 * width_of h.xtrans) (rw ew at s))

small : (c : After-width) → c.width.result ≤ 512
small c = rw c.width.ensures (width_le c.args.h.xtrans)

pub returns-then-line_count-line : goal.returns-then-line_count-line
returns-then-line_count-line c = no_line c.args.h c.args.line c.args.room _ c.line_count.ensures c.if-line_count-line.true

pub returns-then-room-width : goal.returns-then-room-width
returns-then-room-width c =
    no_room c.args.h c.args.line c.args.room _ c.line_count.ensures c.if-line_count-line.false _ c.width.ensures c.if-room-width.true

pub returns : goal.returns
returns c =
    neither c.args.h c.args.line c.args.room _ c.line_count.ensures c.if-line_count-line.false _ c.width.ensures c.if-room-width.false
