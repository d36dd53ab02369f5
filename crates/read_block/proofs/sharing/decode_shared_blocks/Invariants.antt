-- `read_block::sharing::decode_shared_blocks` meets its contract: the blocks below b were read, and each of their lines had an entry. Assumes nothing.
use mathlib.Core.Bool.{false}
use mathlib.Core.Path.{◌≡◌}
use Prim.Native.Nat.{◌+◌, ◌-◌, ◌≤◌, ◌<◌}
use lib.ListN.{length}
use Rattle.image_map.specs.Inside.{ArePlaces}
use Rattle.image_region.specs.Regions.{first_block, last_block, line_count}
use Rattle.image_region.specs.Inside.{Accepted}
use Rattle.cameras.specs.Entries.{AllNumbered}
use Rattle.read_block.specs.Images.{answer_of, Pictured}
use Rattle.read_block.specs.Records.{clear_records}
use Rattle.read_block.specs.Sharing.{entries_after}
use Rattle.read_block.specs.WindowedLines.{samples_in, zeros_in}
use Rattle.read_block.proofs.SharingLaws.{Going}
use Rattle.read_block.proofs.sharing.decode_shared_blocks.Given as goal

abbrev pub invariant-loop-b : goal.invariant-loop-b
invariant-loop-b l =
    (first_block l.r ≤ l.b) × (l.b ≤ l.end) × (l.end ≡ last_block l.r + 1) × (l.count ≡ line_count l.r) × Accepted l.h l.r (length l.initial.image)
    × (length l.lines ≡ samples_in false l.h.xtrans) × (length l.rs ≡ 336) × ArePlaces l.places
    × (l.answer ≡ answer_of l.d l.h l.r (l.b - first_block l.r)) × Pictured l.d l.h l.r l.tile l.b l.initial.image l.image
    × (first_block l.r < l.b → (l.lines ≡ zeros_in false l.h.xtrans) × (l.rs ≡ clear_records))
    × (l.held.all ≡ entries_after l.camera l.d l.h l.r l.initial.held.all (l.b - first_block l.r)) × AllNumbered l.held.all
    × Going l.camera l.d l.h l.r l.initial.held.all (l.b - first_block l.r)
