-- What is assembled opens, with the header, rows and blocks that it was made from. Assumes nothing.
use mathlib.Core.Bool.{Bool, true, false, cond, not, ◌&&◌, and-false}
use mathlib.Core.List.{List, [], ◌∷◌, ◌++◌}
use mathlib.Core.Path.{◌≡◌, refl, sym, ap, ◌∙◌}
use Prim.Native.Nat.{ℕ, zero, suc, ◌+◌, ◌-◌, ◌*◌, ◌/◌, ◌%◌, ◌^◌, ◌≤◌, ◌<◌, min}
use native.Mathlib.Nat.{min-eq_left, mul-le-mul_right}
use native.Mathlib.Omega.{arith}
use lib.Dec.{lit<, ltb}
use lib.ListN.{length, get_or, take, drop, replicate, length-append, length-replicate}
use lib.Seq.{length-take-le, get_or-take, take_at}
use borrow.Author.Tests.{le-ltb, lt-ltb}
use Rattle.numbers.specs.Numbers.{least_from}
use Rattle.numbers.proofs.LeastLaws.{Least, least}
use Rattle.numbers.proofs.OrderLaws.{split}
use Rattle.stream.specs.Headers.{byte_at, header_of, kind_rules, parse_of}
use Rattle.stream.specs.declared.header.FujiHeader.{FujiHeader}
use Rattle.stream.proofs.HeaderLaws.{IsParsed, parsed, parse_good}
use Rattle.stream.specs.Ranges.{part_of}
use Rattle.stream.specs.Streams.{padded, row_length, row_start, is_short, first_short, open_of, size_of, sizes_before, range_of, row_of}
use Rattle.stream.proofs.StreamLaws.{open_parsed, range_opened, row_opened}
use Rattle.pass_schedule.specs.Steps.{upto}
use Rattle.read_block.proofs.SampleLaws.{zeros_le}
use Rattle.theorem_one_to_one.specs.Correspondence.{Bytes}
use Rattle.theorem_whole_streams.specs.Assembled.{four_bytes, filled, length_of, assembled, Parts, OpensAs, Assembling, AssembledOpens}
use Rattle.theorem_whole_streams.proofs.StandLaws.{Stands, stands_whole, stands_left, stands_right, stands_part, stands_at, stands_inside, stands_from}
use Rattle.theorem_whole_streams.proofs.StandLaws.{length_upto, length_each, stands_each, bytes_append, bytes_take, bytes_upto}
use Rattle.std.specs.Prelude.{Ok}

four_is : (n : ℕ) → n / 0x1000000 * 0x1000000 + n / 0x10000 % 256 * 0x10000 + n / 0x100 % 256 * 0x100 + n % 256 ≡ n
four_is n = omega arith

bytes_four : (n : ℕ) → n < 2 ^ 32 → Bytes (four_bytes n)
bytes_four n h zero = omega arith
bytes_four n h (suc zero) = omega arith
bytes_four n h (suc (suc zero)) = omega arith
bytes_four n h (suc (suc (suc zero))) = omega arith
bytes_four n h (suc (suc (suc (suc i)))) = omega arith

length_filled : (l : List ℕ) → length (filled l) ≡ padded (length l)
length_filled l =
    let fill : length (replicate {A = ℕ} (padded (length l) - length l) 0) ≡ padded (length l) - length l = length-replicate
    (padded (length l) - length l) 0 in
    length-append l (replicate (padded (length l) - length l) 0) ∙ rw fill (omega arith)

bytes_filled : (l : List ℕ) → Bytes l → Bytes (filled l)
bytes_filled l a =
    bytes_append l (replicate (padded (length l) - length l) 0) a (λ i. omega (arith, zeros_le 0 (padded (length l) - length l) i))

-- a header parses by its first 16 bytes
module _ (d s : List ℕ) (h : FujiHeader) (e : parse_of d ≡ Ok h) (long : 16 ≤ length s) (at : (i : ℕ) → i < 16 → byte_at s i ≡ byte_at d i) where
  same_header : header_of s ≡ header_of d
  unfolding header_of
  same_header =
      rw (
        at 2 (lit< tt),
        at 3 (lit< tt),
        at 4 (lit< tt),
        at 5 (lit< tt),
        at 6 (lit< tt),
        at 7 (lit< tt),
        at 8 (lit< tt),
        at 9 (lit< tt),
        at 10 (lit< tt),
        at 11 (lit< tt),
        at 12 (lit< tt),
        at 13 (lit< tt),
        at 14 (lit< tt),
        at 15 (lit< tt),
      )

  same_kind : kind_rules s ≡ kind_rules d
  unfolding kind_rules
  same_kind = rw (at 0 (lit< tt), at 1 (lit< tt), at 2 (lit< tt), at 3 (lit< tt), at 4 (lit< tt))

  pub same_parsed : parse_of s ≡ Ok h
  same_parsed =
      let P : IsParsed d h = parsed d h e in
      parse_good s long (rw (same_kind, same_header) P.rules) ∙ ap Ok (same_header ∙ sym P.header)

module _ (d : List ℕ) (h : FujiHeader) (e : parse_of d ≡ Ok h) (rows blocks : ℕ → List ℕ) (parts : Parts h rows blocks) where
  abbrev K : ℕ
  K = h.blocks

  S : List ℕ
  S = assembled d h rows blocks

  abbrev sizes : List ℕ
  sizes = upto (λ b. four_bytes (length (blocks b))) K

  abbrev full_rows : List ℕ
  full_rows = upto (λ b. filled (rows b)) K

  head_length : length (take 16 d) ≡ 16
  head_length = length-take-le 16 d (parsed d h e).whole

  sizes_each : (b : ℕ) → b ≤ K → length_of (λ b. four_bytes (length (blocks b))) b ≡ b * 4
  sizes_each b l = length_each (λ b. four_bytes (length (blocks b))) K 4 (λ i k. refl) b l

  sizes_length : length sizes ≡ 4 * K
  sizes_length = length_upto (λ b. four_bytes (length (blocks b))) K ∙ omega (arith, sizes_each K (omega arith))

  rows_each : (b : ℕ) → b ≤ K → length_of (λ b. filled (rows b)) b ≡ b * padded (row_length h)
  rows_each b l = length_each (λ b. filled (rows b)) K (padded (row_length h)) (λ i k. length_filled (rows i) ∙ ap padded (parts.rows_long i k)) b l

  -- ---- where everything stands

  whole : Stands S 0 (take 16 d ++ (filled sizes ++ (full_rows ++ upto blocks K)))
  unfolding S assembled
  whole = stands_whole S

  head : Stands S 0 (take 16 d)
  head = stands_left S 0 (take 16 d) (filled sizes ++ (full_rows ++ upto blocks K)) whole

  rest : Stands S 16 (filled sizes ++ (full_rows ++ upto blocks K))
  rest = stands_from S (0 + length (take 16 d)) 16 _ (omega (arith, head_length))
      (stands_right S 0 (take 16 d) (filled sizes ++ (full_rows ++ upto blocks K)) whole)

  the_sizes : Stands S 16 sizes
  the_sizes = stands_left S 16 sizes (replicate (padded (length sizes) - length sizes) 0) (stands_left S 16 (filled sizes) (full_rows ++ upto blocks K) rest)

  behind : Stands S (16 + padded (4 * K)) (full_rows ++ upto blocks K)
  behind =
      stands_from S (16 + length (filled sizes)) (16 + padded (4 * K)) _ (ap (λ (n : ℕ). 16 + n) (length_filled sizes ∙ ap padded sizes_length))
      (stands_right S 16 (filled sizes) (full_rows ++ upto blocks K) rest)

  the_rows : Stands S (16 + padded (4 * K)) full_rows
  the_rows = stands_left S (16 + padded (4 * K)) full_rows (upto blocks K) behind

  the_blocks : Stands S (row_start h K) (upto blocks K)
  unfolding row_start
  the_blocks =
      stands_from S (16 + padded (4 * K) + length full_rows) (16 + padded (4 * K) + K * padded (row_length h)) _
      (ap (λ (n : ℕ). 16 + padded (4 * K) + n) (length_upto (λ b. filled (rows b)) K ∙ rows_each K (omega arith)))
      (stands_right S (16 + padded (4 * K)) full_rows (upto blocks K) behind)

  a_size : (b : ℕ) → b < K → Stands S (16 + 4 * b) (four_bytes (length (blocks b)))
  a_size b l =
      stands_from S (16 + length_of (λ b. four_bytes (length (blocks b))) b) (16 + 4 * b) _ (omega (arith, sizes_each b (omega arith)))
      (stands_each (λ b. four_bytes (length (blocks b))) S 16 K b the_sizes l)

  a_row : (b : ℕ) → b < K → Stands S (row_start h b) (rows b)
  unfolding row_start
  a_row b l =
      stands_from S (16 + padded (4 * K) + length_of (λ b. filled (rows b)) b) (16 + padded (4 * K) + b * padded (row_length h)) _
      (ap (λ (n : ℕ). 16 + padded (4 * K) + n) (rows_each b (omega arith)))
      (stands_left S _ (rows b) _ (stands_each (λ b. filled (rows b)) S (16 + padded (4 * K)) K b the_rows l))

  a_block : (b : ℕ) → b < K → Stands S (row_start h K + length_of blocks b) (blocks b)
  a_block b l = stands_each blocks S (row_start h K) K b the_blocks l

  -- zeros follow the sizes, and each row
  the_fill : Stands S (16 + 4 * K) (replicate (padded (4 * K) - 4 * K) 0)
  the_fill =
      let z = stands_right S 16 sizes (replicate (padded (length sizes) - length sizes) 0)
      (stands_left S 16 (filled sizes) (full_rows ++ upto blocks K) rest) in
      rw sizes_length at z

  a_fill : (b : ℕ) → b < K → Stands S (row_start h b + row_length h) (replicate (padded (row_length h) - row_length h) 0)
  unfolding row_start
  a_fill b l =
      let z = stands_right S _ (rows b) (replicate (padded (length (rows b)) - length (rows b)) 0)
      (stands_each (λ b. filled (rows b)) S (16 + padded (4 * K)) K b the_rows l) in
      rw (parts.rows_long b l, rows_each b (omega arith)) at z

  pub head_there : Stands (assembled d h rows blocks) 0 (take 16 d)
  unfolding S
  head_there = head

  pub size_there : (b : ℕ) → b < h.blocks → Stands (assembled d h rows blocks) (16 + 4 * b) (four_bytes (length (blocks b)))
  unfolding S
  size_there = a_size

  pub fill_there : Stands (assembled d h rows blocks) (16 + 4 * h.blocks) (replicate (padded (4 * h.blocks) - 4 * h.blocks) 0)
  unfolding S
  fill_there = the_fill

  pub row_there : (b : ℕ) → b < h.blocks → Stands (assembled d h rows blocks) (row_start h b) (rows b)
  unfolding S
  row_there = a_row

  pub row_fill_there : (b : ℕ) → b < h.blocks → Stands (assembled d h rows blocks) (row_start h b + row_length h)
      (replicate (padded (row_length h) - row_length h) 0)
  unfolding S
  row_fill_there = a_fill

  pub blocks_there : Stands (assembled d h rows blocks) (row_start h h.blocks) (upto blocks h.blocks)
  unfolding S
  blocks_there = the_blocks

  -- ---- it opens

  size : length S ≡ row_start h K + length_of blocks K
  unfolding S assembled row_start
  size =
      length-append (take 16 d) (filled sizes ++ (full_rows ++ upto blocks K))
      ∙ rw (length-append (filled sizes) (full_rows ++ upto blocks K), length-append full_rows (upto blocks K), head_length)
      (rw (length_filled sizes, sizes_length, length_upto (λ b. filled (rows b)) K, rows_each K (omega arith), length_upto blocks K) (omega arith))

  long : 16 + 4 * K ≤ length S
  long = omega (arith, stands_inside S 16 sizes the_sizes, sizes_length)

  is_parsed : parse_of S ≡ Ok h
  is_parsed =
      same_parsed d S h e (omega (arith, long))
      (λ i l. let z : 0 + i ≡ i = omega arith in rw z at (stands_at S 0 (take 16 d) i head (omega (arith, head_length))) ∙ get_or-take 16 d i 0 l)

  no_short : K ≤ first_short S h
  unfolding first_short
  no_short =
      let L : Least K (λ b. is_short S h b) 0 (least_from K (λ b. is_short S h b) 0) = least K (λ b. is_short S h b) 0 in
      split K (least_from K (λ b. is_short S h b) 0) (λ k. k) (λ k. absurd (clash _ k (L.holds (omega arith))))
    where
      clash : (b : ℕ) → b < K → is_short S h b ≡ true → ⊥
      clash b l t =
          let fits : row_start h b + row_length h ≤ length S = omega (arith, stands_inside S (row_start h b) (rows b) (a_row b l), parts.rows_long b l) in
          let k : false ≡ true = sym (le-ltb (length S) (row_start h b + row_length h) fits) ∙ t in
          let no : ◌≡◌ {A = ℕ} 0 1 = cc in omega arith

  opens : open_of S ≡ Ok h
  opens =
      open_parsed S h is_parsed
      ∙ rw (le-ltb (length S) (16 + 4 * K) long, le-ltb (first_short S h) K no_short, and-false (not h.lossless))

  -- ---- its rows and blocks

  row : (b : ℕ) → b < K → part_of S (row_of S b) ≡ rows b
  row b l =
      let R = a_row b l in
      let inside = stands_inside S (row_start h b) (rows b) R in
      let cut : min (row_start h b) (length S) ≡ row_start h b = min-eq_left (omega arith) in
      rw (row_opened S b h opens, lt-ltb b K l, cut, ← (parts.rows_long b l)) (stands_part S (row_start h b) (rows b) R)

  size_is : (b : ℕ) → b < K → size_of S b ≡ length (blocks b)
  size_is b l =
      let n : ℕ = length (blocks b) in
      let at : (j : ℕ) → j < 4 → get_or S (16 + 4 * b + j) 0 ≡ get_or (four_bytes n) j 0 = λ j k. stands_at S (16 + 4 * b) (four_bytes n) j (a_size b l) k in
      let i0 : 16 + 4 * b + 0 ≡ 16 + 4 * b = omega arith in
      rw (← i0, at 0 (lit< tt), i0, at 1 (lit< tt), at 2 (lit< tt), at 3 (lit< tt)) (four_is n)

  before_is : (b : ℕ) → b ≤ K → sizes_before S b ≡ length_of blocks b
  unfolding sizes_before length_of
  before_is zero l = refl
  before_is (suc b) l = rw (before_is b (omega arith), size_is b l)

  block : (b : ℕ) → b < K → part_of S (range_of S b) ≡ blocks b
  block b l =
      let at : ℕ = row_start h K + length_of blocks b in
      let n : ℕ = length (blocks b) in
      let B = a_block b l in
      let inside = stands_inside S at (blocks b) B in
      let cut-start : min at (length S) ≡ at = min-eq_left (omega arith) in
      let cut-end : min (at + n) (length S) ≡ at + n = min-eq_left (omega arith) in
      let left : at + n - at ≡ n = omega arith in
      rw (range_opened S b h opens, lt-ltb b K l, before_is b (omega arith), size_is b l, cut-start, cut-end, left) (stands_part S at (blocks b) B)

  same_head : take 16 S ≡ take 16 d
  unfolding S assembled
  same_head = take_at (take 16 d) (filled sizes ++ (full_rows ++ upto blocks K)) 16 head_length

  bytes : Bytes d → ((b : ℕ) → b < K → Bytes (rows b) × Bytes (blocks b)) → Bytes S
  unfolding S assembled
  bytes hd hp =
      bytes_append (take 16 d) (filled sizes ++ (full_rows ++ upto blocks K)) (bytes_take 16 d hd)
      (bytes_append (filled sizes) (full_rows ++ upto blocks K)
      (bytes_filled sizes (bytes_upto (λ b. four_bytes (length (blocks b))) K (λ b l. bytes_four (length (blocks b)) (parts.short b l))))
      (bytes_append full_rows (upto blocks K) (bytes_upto (λ b. filled (rows b)) K (λ b l. bytes_filled (rows b) (hp b l).0))
      (bytes_upto blocks K (λ b l. (hp b l).1))))

pub assembled_opens : AssembledOpens
unfolding S
assembled_opens d h e rows blocks parts =
    record {
      there = record { opens = opens d h e rows blocks parts; row = row d h e rows blocks parts; block = block d h e rows blocks parts };
      head = same_head d h e rows blocks parts;
      size = size d h e rows blocks parts;
      bytes = bytes d h e rows blocks parts;
    }
