-- `cameras::taking::new_entry` meets its contract: the numbers of a pair, held by one camera. Assumes nothing.
use mathlib.Core.Bool.{false}
use mathlib.Core.Path.{◌≡◌}
use Prim.Native.Nat.{ℕ}
use Rattle.quantiser.specs.Quantisers.{main_of}
use Rattle.quantiser.specs.declared.Quantiser.{Quantiser}
use Rattle.cameras.specs.Entries.{held_by, new_entry}
use Rattle.cameras.specs.declared.Entry.{Entry}
use Rattle.cameras.specs.declared.Camera.{Camera}
use Rattle.cameras.proofs.taking.new_entry.Goals as goal

-- the entry of the pair, held by the camera
new : (c : Camera) (bits q : ℕ) (m : Quantiser) (e : Entry) → e ≡ held_by c (record { bits = bits; main = m; one = false; two = false })
    → m ≡ main_of bits q → e ≡ new_entry c bits q
new c bits q m e h k = rw (h, k)

pub main-main-requires : goal.main-main-requires
main-main-requires c = c.requires

pub held_by-requires : goal.held_by-requires
held_by-requires c = tt

pub returns : goal.returns
returns c =
    new c.args.camera c.args.bits c.args.base c.main-main.result _ c.held_by.ensures c.main-main.ensures.0
