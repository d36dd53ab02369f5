-- Promises. A header as words.
use Rattle.std.specs.Prelude.{List, [], ◌∷◌, ℕ}
use Rattle.numbers.specs.Numbers.{flag}
use Rattle.stream.specs.declared.header.FujiHeader.{FujiHeader}

-- the fields in their order, a flag as 0 or 1
abbrev pub header_words : FujiHeader → List ℕ
header_words h =
    flag h.lossless ∷ flag h.xtrans ∷ h.bits ∷ h.height ∷ h.rounded_width ∷ h.width ∷ h.block_size ∷ h.blocks ∷ h.lines ∷ []
