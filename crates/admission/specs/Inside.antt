-- Inside. What only our own functions say.
use Rattle.std.specs.Prelude.{ℕ, ◌≡◌, Ok, Result}
use Rattle.image_map.specs.Places.{width_of}
use Rattle.stream.specs.declared.header.FujiHeader.{FujiHeader}
use Rattle.colour_lines.specs.Sets.{set_size}
use Rattle.stream.specs.Inside.{Ruled}
use Rattle.admission.specs.Beginnings.{ScratchFits}
use Rattle.stream.specs.declared.header.Refusal.{Refusal}

pub record SetFits (h : FujiHeader) (count samples records : ℕ) : Type 0 where
  pub is_ruled : Ruled h
  pub size : count ≡ set_size (width_of h.xtrans) h.lines
  pub fits : ScratchFits h samples records

-- of a beginning, with the writer or the lossy writer
abbrev pub FitsOn : Result FujiHeader Refusal → ℕ → ℕ → ℕ → Type 0
FitsOn begins count samples records = (h : FujiHeader) → begins ≡ Ok h → SetFits h count samples records
