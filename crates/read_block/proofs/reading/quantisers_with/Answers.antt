-- `read_block::reading::quantisers_with` meets its contract: the flat quantisers have the bases 0, 1 and 2. Assumes nothing.
use mathlib.Core.List.{[], ◌∷◌}
use mathlib.Core.Path.{◌≡◌}
use Prim.Native.Nat.{ℕ}
use Rattle.quantiser.specs.Quantisers.{main_of, flat_of}
use Rattle.quantiser.specs.declared.Quantiser.{Quantiser}
use Rattle.pass_steps.specs.Values.{quantisers_of}
use Rattle.pass_steps.specs.declared.Quantisers.{Quantisers}
use Rattle.read_block.proofs.reading.quantisers_with.Goals as goal

made : (bits q : ℕ) (m a b c : Quantiser) → m ≡ main_of bits q → a ≡ flat_of bits 1 → b ≡ flat_of bits 2 → c ≡ flat_of bits 3
    → ◌≡◌ {A = Quantisers}
    (record {
      base = q;
      totals = m.total ∷ a.total ∷ b.total ∷ c.total ∷ [];
      raws = m.raw ∷ a.raw ∷ b.raw ∷ c.raw ∷ [];
      limits = m.limit ∷ a.limit ∷ b.limit ∷ c.limit ∷ [];
    })
    (quantisers_of bits q)
unfolding quantisers_of
made bits q m a b c em ea eb ec = rw (em, ea, eb, ec)

pub returns : goal.returns
returns c = made _ _ _ _ _ _ c.requires.1 c.flat-a.ensures.0 c.flat-b.ensures.0 c.flat-c.ensures.0
