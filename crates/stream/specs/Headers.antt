-- Rules. The header of a stream: 16 bytes, big-endian.
use Rattle.std.specs.Prelude.{Bool, cond, ◌&&◌, ◌||◌, List, ℕ, ◌+◌, ◌-◌, ◌*◌, ◌/◌, ◌%◌, leb, ltb, eqb, length, get_or, Err, Ok, Result}
use Rattle.stream.specs.declared.header.FujiHeader.{FujiHeader}
use Rattle.stream.specs.declared.header.Refusal.TheVariants.{ShortHeader, BadHeader, NoBlock}
use Rattle.stream.specs.declared.header.Refusal.{Refusal}

abbrev pub byte_at : List ℕ → ℕ → ℕ
byte_at d i = get_or d i 0

-- two bytes as a number
abbrev pub be16 : List ℕ → ℕ → ℕ
be16 d i = byte_at d i * 256 + byte_at d (i + 1)

-- what the bytes say
unfoldable pub header_of : List ℕ → FujiHeader
header_of d =
    record {
      lossless = eqb (byte_at d 2) 1;
      xtrans = eqb (byte_at d 3) 16;
      bits = byte_at d 4;
      height = be16 d 5;
      rounded_width = be16 d 7;
      width = be16 d 9;
      block_size = be16 d 11;
      blocks = byte_at d 13;
      lines = be16 d 14;
    }

-- a number lies from a to b
abbrev pub within : ℕ → ℕ → ℕ → Bool
within a b x = leb a x && leb x b

abbrev pub divides : ℕ → ℕ → Bool
divides m x = eqb (x % m) 0

-- signature, lossless flag, type and depth
unfoldable pub kind_rules : List ℕ → Bool
kind_rules d =
    eqb (be16 d 0) 0x4953 && leb (byte_at d 2) 1 && (eqb (byte_at d 3) 0 || eqb (byte_at d 3) 16)
    && (eqb (byte_at d 4) 12 || eqb (byte_at d 4) 14 || eqb (byte_at d 4) 16)

-- height, rounded width, width and block size. A width above the rounded width breaks a rule
unfoldable pub size_rules : FujiHeader → Bool
size_rules h =
    within 6 0x4002 h.height && divides 6 h.height
    && within 0x300 0x4200 h.rounded_width && divides 768 h.rounded_width
    && within 0x300 0x4200 h.width && divides 24 h.width
    && leb h.width h.rounded_width && leb (h.rounded_width - h.width) 767
    && eqb h.block_size 0x300

-- blocks and lines
unfoldable pub count_rules : FujiHeader → Bool
count_rules h =
    within 1 16 h.blocks && eqb h.blocks (h.rounded_width / 768)
    && within 1 0xAAB h.lines && eqb h.lines (h.height / 6)

abbrev pub all_rules : List ℕ → Bool
all_rules d = kind_rules d && size_rules (header_of d) && count_rules (header_of d)

-- refusals 1 and 2, or the header
unfoldable pub parse_of : List ℕ → Result FujiHeader Refusal
parse_of d = cond (ltb (length d) 16) (Err ShortHeader) (cond (all_rules d) (Ok (header_of d)) (Err BadHeader))

-- the columns of block i: 768, and what is left in the last one
abbrev pub columns_of : FujiHeader → ℕ → ℕ
columns_of h i = cond (eqb (i + 1) h.blocks) (h.width - 768 * i) 768

-- refusal 5 after those of the header, or the columns of block i
abbrev pub width_answer : Result FujiHeader Refusal → ℕ → Result ℕ Refusal
width_answer (Err r) i = Err r
width_answer (Ok h) i = cond (ltb i h.blocks) (Ok (columns_of h i)) (Err NoBlock)
