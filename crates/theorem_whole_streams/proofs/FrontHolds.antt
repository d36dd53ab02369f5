-- What `put_front` puts, with the blocks behind it, is the assembled stream. Assumes nothing.
use mathlib.Core.Bool.{true, false}
use mathlib.Core.List.{List, ◌++◌}
use mathlib.Core.Path.{◌≡◌, refl, sym, ap, ◌∙◌}
use Prim.Native.Nat.{ℕ, zero, suc, ◌+◌, ◌-◌, ◌*◌, ◌/◌, ◌%◌, ◌^◌, ◌≤◌, ◌<◌}
use native.Mathlib.Nat.{mod-lt, div-lt_iff_lt-mul, div-add-mod', mul-le-mul_right}
use native.Mathlib.Omega.{arith}
use lib.Dec.{lit<}
use lib.ListN.{length, get_or, take, drop, replicate, length-append, length-replicate, length-take, length-drop, get_or-append}
use lib.Seq.{ext_get_or, get_or-append-add, get_or-take, get_or-drop, length-take-le}
use borrow.Author.Tests.{lt-ltb, le-ltb, eq-eqb, ne_eqb}
use Rattle.numbers.proofs.OrderLaws.{split}
use Rattle.stream.specs.Headers.{parse_of}
use Rattle.stream.specs.Inside.{Ruled}
use Rattle.stream.specs.declared.header.FujiHeader.{FujiHeader}
use Rattle.stream.proofs.HeaderLaws.{parsed}
use Rattle.stream.specs.Streams.{padded, row_length, row_start}
use Rattle.pass_schedule.specs.Steps.{upto}
use Rattle.read_block.proofs.SampleLaws.{zeros_le}
use Rattle.read_block.proofs.TableLaws.{table_length, table_get_d}
use Rattle.stream_front.specs.Fronts.{size_byte, row_byte, front_byte, front_bytes}
use Rattle.stream_front.proofs.FrontLaws.{front_head, front_size, front_fill, front_row, rows_end, full_pos, front_size_is}
use Rattle.theorem_whole_streams.specs.Assembled.{four_bytes, assembled, length_of, Parts}
use Rattle.theorem_whole_streams.specs.Fronts.{row_in, FrontAssembles}
use Rattle.theorem_whole_streams.proofs.StandLaws.{Stands, stands_at, stands_inside, length_upto}
use Rattle.theorem_whole_streams.proofs.AssembledHolds.{assembled_opens, head_there, size_there, fill_there, row_there, row_fill_there, blocks_there}
use Rattle.std.specs.Prelude.{Ok}

-- byte j of a size
four_at : (n j : ℕ) → n < 2 ^ 32 → j < 4 → size_byte n j ≡ get_or (four_bytes n) j 0
unfolding size_byte
four_at n zero h l = omega arith
four_at n (suc zero) h l = refl
four_at n (suc (suc zero)) h l = refl
four_at n (suc (suc (suc zero))) h l = refl
four_at n (suc (suc (suc (suc j)))) h l = absurd (omega arith)

zero_at : (n j : ℕ) → get_or {A = ℕ} (replicate n 0) j 0 ≡ 0
zero_at n j = omega (arith, zeros_le 0 n j)

module _ (d : List ℕ) (h : FujiHeader) (e : parse_of d ≡ Ok h) (rows lengths : List ℕ) (blocks : ℕ → List ℕ) (long : length rows ≡ h.blocks * row_length h)
    (sizes : (b : ℕ) → b < h.blocks → (get_or lengths b 0 ≡ length (blocks b)) × (length (blocks b) < 2 ^ 32)) where
  abbrev K : ℕ
  K = h.blocks

  abbrev row : ℕ
  row = row_length h

  abbrev full : ℕ
  full = padded (row_length h)

  abbrev R : ℕ → List ℕ
  R = row_in h rows

  row_long : (b : ℕ) → b < K → length (R b) ≡ row
  row_long b l =
      let m : suc b * row ≤ K * row = mul-le-mul_right row l in
      simp (length-take, length-drop) (omega arith)

  parts : Parts h R blocks
  parts = record { rows_long = row_long; short = λ b l. (sizes b l).1 }

  S : List ℕ
  S = assembled d h R blocks

  head_long : length (take 16 d) ≡ 16
  head_long = length-take-le 16 d (parsed d h e).whole

  -- each byte before the blocks
  at_head : (i : ℕ) → i < 16 → get_or S i 0 ≡ front_byte d h rows lengths i
  unfolding S
  at_head i l =
      let z : 0 + i ≡ i = omega arith in
      rw z at (stands_at S 0 (take 16 d) i (head_there d h e R blocks parts) (omega (arith, head_long))) ∙ get_or-take 16 d i 0 l ∙ front_head d h rows
      lengths i l

  at_size : (i : ℕ) → 16 ≤ i → i < 16 + 4 * K → get_or S i 0 ≡ front_byte d h rows lengths i
  unfolding S
  at_size i l k =
      let b : ℕ = (i - 16) / 4 in
      let j : ℕ = (i - 16) % 4 in
      let hb : b < K = omega arith in
      let hj : j < 4 = omega arith in
      let is : 16 + 4 * b + j ≡ i = omega arith in
      rw is at (stands_at S (16 + 4 * b) (four_bytes (length (blocks b))) j (size_there d h e R blocks parts b hb) hj)
      ∙ sym (four_at (length (blocks b)) j (sizes b hb).1 hj) ∙ ap (λ (n : ℕ). size_byte n j) (sym (sizes b hb).0) ∙ front_size d h rows lengths i l k

  at_fill : (i : ℕ) → 16 + 4 * K ≤ i → i < 16 + padded (4 * K) → get_or S i 0 ≡ front_byte d h rows lengths i
  unfolding S
  at_fill i l k =
      let n : ℕ = padded (4 * K) - 4 * K in
      let j : ℕ = i - (16 + 4 * K) in
      let is : 16 + 4 * K + j ≡ i = omega arith in
      let size : length (replicate {A = ℕ} n 0) ≡ n = length-replicate n 0 in
      rw is at (stands_at S (16 + 4 * K) (replicate n 0) j (fill_there d h e R blocks parts) (omega arith)) ∙ zero_at n j ∙ front_fill d h rows lengths i l k

  module _ (i : ℕ) (l : 16 + padded (4 * K) ≤ i) (k : i < row_start h K) where
    abbrev m : ℕ
    m = i - (16 + padded (4 * K))

    inside : m < K * full
    inside = rows_end h i k l

    b : ℕ
    b = m / full

    j : ℕ
    j = m % full

    pos : 0 < full
    pos = full_pos K full m inside

    low : m / full < K
    low = (div-lt_iff_lt-mul {k = full} pos).1 inside

    joined : row_start h (m / full) + m % full ≡ i
    unfolding row_start
    joined = let q : m / full * full + m % full ≡ m = div-add-mod' m full in omega arith

    in_row : m % full < row → get_or S i 0 ≡ front_byte d h rows lengths i
    unfolding S row_byte
    in_row c =
        rw joined at (stands_at S (row_start h (m / full)) (R (m / full)) (m % full) (row_there d h e R blocks parts (m / full) low)
        (rw (row_long (m / full) low) c))
        ∙ get_or-take row (drop (m / full * row) rows) (m % full) 0 c ∙ get_or-drop (m / full * row) rows (m % full) 0
        ∙ row_byte_lem ∙ front_row d h rows lengths i l
      where
        row_byte_lem : get_or rows (m / full * row + m % full) 0 ≡ row_byte rows row full m
        row_byte_lem = rw (lt-ltb (m % full) row c)

    behind_row : row ≤ m % full → get_or S i 0 ≡ front_byte d h rows lengths i
    unfolding S row_byte
    behind_row c =
        let n : ℕ = full - row in
        let size : length (replicate {A = ℕ} n 0) ≡ n = length-replicate n 0 in
        let less : m % full < full = mod-lt m pos in
        let is : row_start h (m / full) + row + (m % full - row) ≡ i = omega (arith, joined) in
        rw is at (stands_at S (row_start h (m / full) + row) (replicate n 0) (m % full - row) (row_fill_there d h e R blocks parts (m / full) low)
        (omega arith))
        ∙ zero_at n (m % full - row) ∙ row_byte_lem ∙ front_row d h rows lengths i l
      where
        row_byte_lem : 0 ≡ row_byte rows row full m
        row_byte_lem = rw (le-ltb (m % full) row c)

  before_blocks : (i : ℕ) → i < row_start h K → get_or S i 0 ≡ front_byte d h rows lengths i
  before_blocks i k =
      split (16 + padded (4 * K)) i
      (λ a. split row (m i a k % full) (λ c. behind_row i a k c) (λ c. in_row i a k c))
      (λ a. split (16 + 4 * K) i (λ c. at_fill i c a) (λ c. split 16 i (λ f. at_size i f c) (λ f. at_head i f)))

  -- the whole
  same : front_bytes d h rows lengths ++ upto blocks K ≡ S
  unfolding S
  same =
      let front : ℕ = row_start h K in
      let n = front_size_is d h rows lengths in
      let size : length (front_bytes d h rows lengths ++ upto blocks K) ≡ length S =
      length-append (front_bytes d h rows lengths) (upto blocks K) ∙ rw (n, length_upto blocks K) (sym (assembled_opens d h e R blocks parts).size) in
      ext_get_or 0 (front_bytes d h rows lengths ++ upto blocks K) S size (λ i l. split front i (λ a. behind i a l) (λ a. ahead i a))
    where
      ahead : (i : ℕ) → i < row_start h K → get_or (front_bytes d h rows lengths ++ upto blocks K) i 0 ≡ get_or S i 0
      ahead i a =
          get_or-append (front_bytes d h rows lengths) (upto blocks K) 0 i (omega (arith, front_size_is d h rows lengths))
          ∙ table_get_d (front_byte d h rows lengths) (row_start h K) i 0 a ∙ sym (before_blocks i a)

      behind : (i : ℕ) → row_start h K ≤ i → i < length (front_bytes d h rows lengths ++ upto blocks K) → get_or
          (front_bytes d h rows lengths ++ upto blocks K) i 0 ≡ get_or S i 0
      behind i a l =
          let n = front_size_is d h rows lengths in
          let j : ℕ = i - row_start h K in
          let is : row_start h K + j ≡ i = omega arith in
          let inside : j < length (upto blocks K) = omega (arith, length-append (front_bytes d h rows lengths) (upto blocks K)) in
          rw (n, is) at (get_or-append-add (front_bytes d h rows lengths) (upto blocks K) j 0)
          ∙ sym (rw is at (stands_at S (row_start h K) (upto blocks K) j (blocks_there d h e R blocks parts) inside))

pub front_assembles : FrontAssembles
unfolding S
front_assembles d h e rows lengths blocks long sizes = same d h e rows lengths blocks long sizes
