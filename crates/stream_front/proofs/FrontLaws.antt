-- What stands before the blocks: numbers, bytes and the first long block. Assumes nothing.
use mathlib.Core.List.{List, [], ◌∷◌, ◌++◌, append_assoc}
use mathlib.Core.Path.{◌≡◌, refl, sym, ◌∙◌}
use Prim.Native.Nat.{ℕ, zero, suc, ◌+◌, ◌-◌, ◌*◌, ◌/◌, ◌%◌, ◌^◌, ◌≤◌, ◌<◌}
use native.Mathlib.Nat.{mul-le-mul_right, div-lt_iff_lt-mul}
use native.Mathlib.Omega.{arith}
use lib.Arith.{digits_lt}
use lib.ListN.{length, get_or, set, drop}
use lib.Seq.{drop-cons, set_at, take-suc}
use Rattle.std.proofs.Common.{sum, take}
use Rattle.std.proofs.lemmas.Grind.{common_steps}
use Rattle.std.proofs.lemmas.List.{take_all}
use native.Mathlib.Numerals.{add-one}
use borrow.Author.Tests.{lt-ltb, le-ltb, ltb-false, eq-eqb, ne_eqb}
use Rattle.numbers.proofs.LeastLaws.{least}
use Rattle.stream.specs.Headers.{byte_at}
use Rattle.stream.specs.declared.header.FujiHeader.{FujiHeader}
use Rattle.stream.specs.Streams.{padded, row_length, row_start}
use Rattle.stream_front.specs.Fronts.{size_byte, row_byte, front_byte, front_bytes, sum_of, is_long, first_long, front_answer, front_out, LeftFront}
use Rattle.stream.specs.Headers.{parse_of}
use Rattle.stream.specs.declared.header.Refusal.{Refusal}
use Rattle.stream.specs.declared.header.Refusal.TheVariants.{WrongLengths, WrongBases, LongBlock, ShortOutput}
use Rattle.read_block.specs.Records.{table}
use Rattle.read_block.proofs.TableLaws.{table_length}
use Rattle.std.specs.Prelude.{Err, Ok, Result}

-- 16 rows at most
pub product_le : (b n : ℕ) → b ≤ 16 → n ≤ 65536 → b * n ≤ 16 * 65536
product_le b n hb hn = let p : b * n ≤ 16 * n = mul-le-mul_right n hb in omega arith

-- ---- a byte of a row

pub full_pos : (blocks full i : ℕ) → i < blocks * full → 0 < full
full_pos blocks zero i h = absurd (omega arith)
full_pos blocks (suc full) i h = omega arith

-- the row that byte i is in, and its place in it
pub row_inside : (row full blocks i : ℕ) → i < blocks * full → i % full < row → i / full * row + i % full < blocks * row
row_inside row full blocks i h k = digits_lt ((div-lt_iff_lt-mul {k = full} (full_pos blocks full i h)).1 h) k

-- ---- the first long block

pub not_long : (lengths : List ℕ) (b : ℕ) → b < first_long lengths → get_or lengths b 0 ≤ 2 ^ 32 - 1
unfolding first_long
not_long lengths b l = ltb-false (2 ^ 32 - 1) (get_or lengths b 0) ((least (length lengths) (λ i. is_long lengths i) 0).before b (omega arith) l)

-- ---- the bytes of all blocks

pub sum_so_far : (lengths : List ℕ) (n : ℕ) → n ≤ length lengths → sum_of lengths n ≡ sum (take n lengths)
unfolding sum_of
sum_so_far lengths zero h = refl
sum_so_far lengths (suc n) h =
    let e = sum_so_far lengths n (omega arith) in
    rw (e, take-suc lengths n 0 (omega arith)) (grind (arith, common_steps))

pub sum_all : (lengths : List ℕ) → sum_of lengths (length lengths) ≡ sum lengths
sum_all lengths = sum_so_far lengths (length lengths) (omega arith) ∙ rw (take_all (length lengths) lengths (omega arith))

pub sum_small : (lengths : List ℕ) (n : ℕ) → n ≤ first_long lengths → sum_of lengths n ≤ n * 2 ^ 32
unfolding sum_of
sum_small lengths zero h = omega arith
sum_small lengths (suc n) h = omega (arith, sum_small lengths n (omega arith), not_long lengths n (omega arith))

-- ---- a byte of what stands before the blocks

module _ (d : List ℕ) (h : FujiHeader) (rows lengths : List ℕ) (i : ℕ) where
  pub front_head : i < 16 → byte_at d i ≡ front_byte d h rows lengths i
  unfolding front_byte
  front_head l = rw (lt-ltb i 16 l)

  pub front_size : 16 ≤ i → i < 16 + 4 * h.blocks → size_byte (get_or lengths ((i - 16) / 4) 0) ((i - 16) % 4) ≡ front_byte d h rows lengths i
  unfolding front_byte
  front_size l k = rw (le-ltb i 16 l, lt-ltb i (16 + 4 * h.blocks) k)

  pub front_fill : 16 + 4 * h.blocks ≤ i → i < 16 + padded (4 * h.blocks) → 0 ≡ front_byte d h rows lengths i
  unfolding front_byte
  front_fill l k = rw (le-ltb i 16 (omega arith), le-ltb i (16 + 4 * h.blocks) l, lt-ltb i (16 + padded (4 * h.blocks)) k)

  pub front_row : 16 + padded (4 * h.blocks) ≤ i
      → row_byte rows (row_length h) (padded (row_length h)) (i - (16 + padded (4 * h.blocks))) ≡ front_byte d h rows lengths i
  unfolding front_byte
  front_row l =
      rw (le-ltb i 16 (omega arith), le-ltb i (16 + 4 * h.blocks) (omega arith), le-ltb i (16 + padded (4 * h.blocks)) l)

-- where the rows end
pub rows_end : (h : FujiHeader) (i : ℕ) → i < row_start h h.blocks → 16 + padded (4 * h.blocks) ≤ i
    → i - (16 + padded (4 * h.blocks)) < h.blocks * padded (row_length h)
unfolding row_start
rows_end h i l k = omega arith

-- what a row's byte asks for
pub row_asks : (h : FujiHeader) (i p n q len : ℕ) → h.blocks ≤ 16 → h.lines ≤ 2731 → p ≡ padded (4 * h.blocks) → n ≡ row_length h → n ≤ h.lines → q
    ≡ padded n → len ≡ h.blocks * row_length h
    → i < row_start h h.blocks → 16 + p ≤ i → (n ≤ q) × ((q < 2 ^ 16) × ((h.blocks ≤ 16) × ((i - (16 + p) < h.blocks * q) × (len ≡ h.blocks * n))))
row_asks h i p n q len hb hl ep en hn eq el l k =
    (omega arith, (omega arith, (hb, (rw (ep, eq, en) (rows_end h i l (rw ep at k)), el ∙ rw en))))

-- a loop that fills a list from the front
pub fill_next : (f : ℕ → ℕ) (d : List ℕ) (i v : ℕ) → i < length d → v ≡ f i → set (table f i ++ drop i d) i v ≡ table f (i + 1) ++ drop (i + 1) d
unfolding table
fill_next f d i v l e =
    rw (drop-cons d i 0 l, set_at (table f i) (get_or d i 0) (drop (suc i) d) v i (table_length f i), e, add-one i)
    (sym (append_assoc (table f i) (f i ∷ []) (drop (suc i) d)))

-- ---- the answer

module _ (h : FujiHeader) (rows lengths : List ℕ) (room : ℕ) where
  pub answer_count : (length lengths ≡ h.blocks → ⊥) → Err WrongLengths ≡ front_answer h rows lengths room
  unfolding front_answer
  answer_count ne = rw (ne_eqb (length lengths) h.blocks ne)

  pub answer_rows : length lengths ≡ h.blocks → (length rows ≡ h.blocks * row_length h → ⊥) → Err WrongBases ≡ front_answer h rows lengths room
  unfolding front_answer
  answer_rows e ne = rw (eq-eqb (length lengths) h.blocks e, ne_eqb (length rows) (h.blocks * row_length h) ne)

  module _ (e : length lengths ≡ h.blocks) (f : length rows ≡ h.blocks * row_length h) where
    pub answer_long : first_long lengths < h.blocks → Err (LongBlock (first_long lengths)) ≡ front_answer h rows lengths room
    unfolding front_answer
    answer_long l = rw (eq-eqb (length lengths) h.blocks e, eq-eqb (length rows) (h.blocks * row_length h) f, lt-ltb (first_long lengths) h.blocks l)

    pub answer_short : h.blocks ≤ first_long lengths → room < row_start h h.blocks → Err ShortOutput ≡ front_answer h rows lengths room
    unfolding front_answer
    answer_short l k =
        rw (
          eq-eqb (length lengths) h.blocks e,
          eq-eqb (length rows) (h.blocks * row_length h) f,
          le-ltb (first_long lengths) h.blocks l,
          lt-ltb
              room (row_start h h.blocks) k,
        )

    pub answer_length : h.blocks ≤ first_long lengths → row_start h h.blocks ≤ room
        → Ok (row_start h h.blocks + sum_of lengths h.blocks) ≡ front_answer h rows lengths room
    unfolding front_answer
    answer_length l k =
        rw (
          eq-eqb (length lengths) h.blocks e,
          eq-eqb (length rows) (h.blocks * row_length h) f,
          le-ltb (first_long lengths) h.blocks l,
          le-ltb
              room (row_start h h.blocks) k,
        )

pub front_size_is : (d : List ℕ) (h : FujiHeader) (rows lengths : List ℕ) → length (front_bytes d h rows lengths) ≡ row_start h h.blocks
front_size_is d h rows lengths = table_length (front_byte d h rows lengths) (row_start h h.blocks)

-- by how the header parses
pub left_refused : (d rows lengths : List ℕ) (out : List ℕ) (p : Result FujiHeader Refusal) (x : Refusal) → p ≡ parse_of d → p ≡ Err x
    → LeftFront d rows lengths (parse_of d) out out (Err x)
left_refused d rows lengths out p x e f = let g : parse_of d ≡ Err x = sym e ∙ f in rw g (refl, refl)

pub left_header : (d rows lengths : List ℕ) (before after : List ℕ) (p : Result FujiHeader Refusal) (h : FujiHeader) (r : Result ℕ Refusal) → p ≡ parse_of d → p ≡ Ok h
    → (r ≡ front_answer h rows lengths (length before)) × (after ≡ front_out r (front_bytes d h rows lengths) before)
    → LeftFront d rows lengths (parse_of d) before after r
left_header d rows lengths before after p h r e f k = let g : parse_of d ≡ Ok h = sym e ∙ f in rw g k

pub fill_row : (d : List ℕ) (h : FujiHeader) (rows lengths : List ℕ) (i p n q r : ℕ) → p ≡ padded (4 * h.blocks) → n ≡ row_length h → q ≡ padded n →
    16 + p ≤ i
    → r ≡ row_byte rows n q (i - (16 + p)) → r ≡ front_byte d h rows lengths i
fill_row d h rows lengths i p n q r ep en eq k e = e ∙ rw (eq, en, ep) (front_row d h rows lengths i (rw ep at k))
