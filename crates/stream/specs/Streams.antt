-- Rules. Where the sizes, the base rows and the blocks of a stream stand. All offsets count bytes from the header's first.
use Rattle.std.specs.Prelude.{Bool, cond, not, ◌&&◌, List, ℕ, zero, suc, ◌+◌, ◌-◌, ◌*◌, ◌/◌, ltb, length, Err, Ok, Result}
use Rattle.numbers.specs.Numbers.{least_from}
use Rattle.bits.specs.Bits.{be32}
use Rattle.stream.specs.Headers.{parse_of}
use Rattle.stream.specs.declared.header.FujiHeader.{FujiHeader}
use Rattle.stream.specs.Ranges.{cut}
use Rattle.stream.specs.declared.header.Refusal.TheVariants.{ShortSizes, ShortBases, NoBlock}
use Rattle.bits.specs.declared.ByteOffset.{ByteOffset}
use Rattle.stream.specs.declared.header.Refusal.{Refusal}

-- padded to 16
abbrev pub padded : ℕ → ℕ
padded n = (n + 15) / 16 * 16

-- the sizes follow the header, 4 bytes a block
abbrev pub sizes_end : FujiHeader → ℕ
sizes_end h = 16 + 4 * h.blocks

abbrev pub size_of : List ℕ → ℕ → ℕ
size_of d b = be32 d (16 + 4 * b)

-- the base rows follow the padded sizes. If lossy, a block's row has a byte for each line; a lossless stream has none, and its rows are empty
abbrev pub row_length : FujiHeader → ℕ
row_length h = cond h.lossless 0 h.lines

-- where row b starts, each being padded
unfoldable pub row_start : FujiHeader → ℕ → ℕ
row_start h b = 16 + padded (4 * h.blocks) + b * padded (row_length h)

-- whether it is not whole
abbrev pub is_short : List ℕ → FujiHeader → ℕ → Bool
is_short d h b = ltb (length d) (row_start h b + row_length h)

-- the lowest block whose row is not whole, or blocks
unfoldable pub first_short : List ℕ → FujiHeader → ℕ
first_short d h = least_from h.blocks (λ b. is_short d h b) 0

-- refusals 3 and 4, after those of the header
abbrev pub open_in : List ℕ → Result FujiHeader Refusal → Result FujiHeader Refusal
open_in d (Err r) = Err r
open_in d (Ok h) =
    cond (ltb (length d) (sizes_end h)) (Err ShortSizes)
    (cond (not h.lossless && ltb (first_short d h) h.blocks) (Err (ShortBases (first_short d h))) (Ok h))

unfoldable pub open_of : List ℕ → Result FujiHeader Refusal
open_of d = open_in d (parse_of d)

-- where block b would start: the blocks follow the rows, one after the other
unfoldable pub sizes_before : List ℕ → ℕ → ℕ
sizes_before d zero = 0
sizes_before d (suc b) = sizes_before d b + size_of d b

abbrev pub block_start : List ℕ → FujiHeader → ℕ → ℕ
block_start d h b = row_start h h.blocks + sizes_before d b

-- the range of block b, its start and its end cut: refusals 1 to 5, or its offset and its length
abbrev pub range_in : List ℕ → ℕ → Result FujiHeader Refusal → Result (ByteOffset × ℕ) Refusal
range_in d b (Err r) = Err r
range_in d b (Ok h) =
    cond (ltb b h.blocks)
    (Ok ((record { 0 = cut d (block_start d h b) }), (cut d (block_start d h b + size_of d b) - cut d (block_start d h b))))
    (Err NoBlock)

unfoldable pub range_of : List ℕ → ℕ → Result (ByteOffset × ℕ) Refusal
range_of d b = range_in d b (open_of d)

-- the range of base row b. A row that has bytes is whole, so that its start is cut in a lossless stream only
abbrev pub row_in : List ℕ → ℕ → Result FujiHeader Refusal → Result (ByteOffset × ℕ) Refusal
row_in d b (Err r) = Err r
row_in d b (Ok h) =
    cond (ltb b h.blocks) (Ok ((record { 0 = cut d (row_start h b) }), (row_length h))) (Err NoBlock)

unfoldable pub row_of : List ℕ → ℕ → Result (ByteOffset × ℕ) Refusal
row_of d b = row_in d b (open_of d)
