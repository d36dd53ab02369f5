-- Promises. What stands before the blocks of a stream, byte by byte, and what a call that puts it there leaves.
use Rattle.std.specs.Prelude.{Bool, cond, List, ◌++◌, ◌≡◌, ℕ, zero, suc, ◌+◌, ◌-◌, ◌*◌, ◌/◌, ◌%◌, ◌^◌, eqb, ltb, length, get_or, drop, Err, Ok, Result}
use Rattle.numbers.specs.Numbers.{least_from}
use Rattle.stream.specs.Headers.{byte_at}
use Rattle.stream.specs.declared.header.FujiHeader.{FujiHeader}
use Rattle.stream.specs.declared.header.Refusal.TheVariants.{WrongLengths, WrongBases, LongBlock, ShortOutput}
use Rattle.stream.specs.Streams.{padded, row_length, row_start}
use Rattle.read_block.specs.Records.{table}
use Rattle.stream.specs.declared.header.Refusal.{Refusal}

-- byte j of the four bytes of a size
unfoldable pub size_byte : ℕ → ℕ → ℕ
size_byte n j =
    cond (eqb j 0) (n / 0x1000000 % 256)
    (cond (eqb j 1) (n / 0x10000 % 256)
    (cond (eqb j 2) (n / 0x100 % 256)
    (n % 256)))

-- byte i of rows that stand one after the other, each filled up to so many bytes
unfoldable pub row_byte : List ℕ → ℕ → ℕ → ℕ → ℕ
row_byte rows row full i = cond (ltb (i % full) row) (get_or rows (i / full * row + i % full) 0) 0

-- byte i of what stands before the blocks: the header's bytes, the sizes, zeros up to a multiple of 16, and the rows
unfoldable pub front_byte : List ℕ → FujiHeader → (rows lengths : List ℕ) → ℕ → ℕ
front_byte d h rows lengths i =
    cond (ltb i 16) (byte_at d i)
    (cond (ltb i (16 + 4 * h.blocks)) (size_byte (get_or lengths ((i - 16) / 4) 0) ((i - 16) % 4))
    (cond (ltb i (16 + padded (4 * h.blocks))) 0
    (row_byte rows (row_length h) (padded (row_length h)) (i - (16 + padded (4 * h.blocks))))))

-- all of it
abbrev pub front_bytes : List ℕ → FujiHeader → (rows lengths : List ℕ) → List ℕ
front_bytes d h rows lengths = table (front_byte d h rows lengths) (row_start h h.blocks)

-- the bytes of the first n blocks
unfoldable pub sum_of : List ℕ → ℕ → ℕ
sum_of lengths zero = 0
sum_of lengths (suc n) = sum_of lengths n + get_or lengths n 0

abbrev pub is_long : List ℕ → ℕ → Bool
is_long lengths b = ltb (2 ^ 32 - 1) (get_or lengths b 0)

-- the lowest block of 2^32 bytes or more, or their number
unfoldable pub first_long : List ℕ → ℕ
first_long lengths = least_from (length lengths) (λ b. is_long lengths b) 0

-- the answer, with so many bytes of output: the length of the whole stream
unfoldable pub front_answer : FujiHeader → (rows lengths : List ℕ) → ℕ → Result ℕ Refusal
front_answer h rows lengths room =
    cond (eqb (length lengths) h.blocks)
    (cond (eqb (length rows) (h.blocks * row_length h))
    (cond (ltb (first_long lengths) h.blocks) (Err (LongBlock (first_long lengths)))
    (cond (ltb room (row_start h h.blocks)) (Err ShortOutput) (Ok (row_start h h.blocks + sum_of lengths h.blocks))))
    (Err WrongBases))
    (Err WrongLengths)

abbrev pub front_out : Result ℕ Refusal → (front out : List ℕ) → List ℕ
front_out (Ok n) front out = front ++ drop (length front) out
front_out (Err x) front out = out

-- what a call leaves, by how the header parses
abbrev pub LeftFront : List ℕ → (rows lengths : List ℕ) → Result FujiHeader Refusal → (before after : List ℕ) → Result ℕ Refusal → Type 0
LeftFront d rows lengths (Err x) before after answer = (answer ≡ Err x) × (after ≡ before)
LeftFront d rows lengths (Ok h) before after answer =
    (answer ≡ front_answer h rows lengths (length before)) × (after ≡ front_out answer (front_bytes d h rows lengths) before)
