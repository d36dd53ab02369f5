-- A lossless stream whose blocks are all the same: it opens, and each block is there. Assumes nothing.
use mathlib.Core.Bool.{true}
use mathlib.Core.List.{List, [], ◌∷◌, ◌++◌}
use mathlib.Core.Path.{◌≡◌, refl, sym, ap, ◌∙◌}
use Prim.Native.Nat.{ℕ, zero, suc, ◌+◌, ◌-◌, ◌*◌, ◌/◌, ◌%◌, ◌^◌, ◌≤◌, ◌<◌, min}
use native.Mathlib.Nat.{mul-le-mul_right, min-eq_left}
use native.Mathlib.Omega.{arith}
use lib.Dec.{lit<}
use lib.ListN.{length, get_or, take, drop, replicate, length-append, length-replicate, get_or-append}
use lib.Seq.{length-take-le, get_or-take, get_or-drop, get_or-append-add, drop-append-add, take_at}
use borrow.Author.Tests.{le-ltb, lt-ltb}
use Rattle.stream.specs.Headers.{byte_at, header_of, kind_rules, parse_of}
use Rattle.stream.specs.Inside.{Ruled}
use Rattle.stream.specs.Streams.{padded, row_start, open_of, size_of, sizes_before, range_of}
use Rattle.stream.specs.Ranges.{part_of}
use Rattle.stream.specs.declared.header.FujiHeader.{FujiHeader}
use Rattle.stream.proofs.HeaderLaws.{IsParsed, parsed, parse_good, ruled}
use Rattle.stream.proofs.StreamLaws.{open_parsed, range_opened}
use Rattle.read_block.proofs.SampleLaws.{zeros_le}
use Rattle.theorem_one_to_one.specs.Correspondence.{Bytes}
use Rattle.std.specs.Prelude.{Ok}

-- ---- copies of a list

copies : ℕ → List ℕ → List ℕ
copies zero l = []
copies (suc k) l = l ++ copies k l

length_copies : (k : ℕ) (l : List ℕ) → length (copies k l) ≡ k * length l
unfolding copies
length_copies zero l = omega arith
length_copies (suc k) l = rw length-append (omega (arith, length_copies k l))

-- what follows b copies
drop_copies : (b k : ℕ) (l : List ℕ) → drop (b * length l) (copies (b + k) l) ≡ copies k l
unfolding copies
drop_copies zero k l = let e : 0 * length l ≡ 0 = omega arith in let f : 0 + k ≡ k = omega arith in rw (e, f)
drop_copies (suc b) k l =
    let e : suc b * length l ≡ length l + b * length l = omega arith in
    let f : suc b + k ≡ suc (b + k) = omega arith in
    rw (e, f, drop-append-add l (copies (b + k) l) (b * length l)) (drop_copies b k l)

-- entry j of copy b
first_copy : (m : ℕ) (l : List ℕ) (j : ℕ) → j < length l → get_or (copies (suc m) l) j 0 ≡ get_or l j 0
unfolding copies
first_copy m l j h = get_or-append l (copies m l) 0 j h

copy_at : (b k : ℕ) (l : List ℕ) (j : ℕ) → b < k → j < length l → get_or (copies k l) (b * length l + j) 0 ≡ get_or l j 0
copy_at b k l j hb hj =
    let e : b + suc (k - (b + 1)) ≡ k = omega arith in
    sym (get_or-drop (b * length l) (copies k l) j 0)
    ∙ ap (λ (m : List ℕ). get_or m j 0) (rw e at (drop_copies b (suc (k - (b + 1))) l))
    ∙ first_copy (k - (b + 1)) l j hj

first_whole : (m : ℕ) (l : List ℕ) → take (length l) (copies (suc m) l) ≡ l
unfolding copies
first_whole m l = take_at l (copies m l) (length l) refl

-- ---- four bytes

abbrev four_bytes : ℕ → List ℕ
four_bytes n = n / 0x1000000 ∷ n / 0x10000 % 256 ∷ n / 0x100 % 256 ∷ n % 256 ∷ []

four_is : (n : ℕ) → n / 0x1000000 * 0x1000000 + n / 0x10000 % 256 * 0x10000 + n / 0x100 % 256 * 0x100 + n % 256 ≡ n
four_is n = omega arith

-- ---- bytes

bytes_append : (k l : List ℕ) → Bytes k → Bytes l → Bytes (k ++ l)
bytes_append [] l a b i = b i
bytes_append (x ∷ k) l a b zero = a 0
bytes_append (x ∷ k) l a b (suc i) = bytes_append k l (λ j. a (suc j)) b i

bytes_take : (m : ℕ) (l : List ℕ) → Bytes l → Bytes (take m l)
bytes_take zero l a i = omega arith
bytes_take (suc m) [] a i = omega arith
bytes_take (suc m) (x ∷ l) a zero = a 0
bytes_take (suc m) (x ∷ l) a (suc i) = bytes_take m l (λ j. a (suc j)) i

bytes_copies : (k : ℕ) (l : List ℕ) → Bytes l → Bytes (copies k l)
unfolding copies
bytes_copies zero l a i = omega arith
bytes_copies (suc k) l a i = bytes_append l (copies k l) a (bytes_copies k l a) i

bytes_four : (n : ℕ) → n < 2 ^ 32 → Bytes (four_bytes n)
bytes_four n h zero = omega arith
bytes_four n h (suc zero) = omega arith
bytes_four n h (suc (suc zero)) = omega arith
bytes_four n h (suc (suc (suc zero))) = omega arith
bytes_four n h (suc (suc (suc (suc i)))) = omega arith

-- ---- the stream

open_lossless : (s : List ℕ) (h : FujiHeader) → parse_of s ≡ Ok h → h.lossless ≡ true → 16 + 4 * h.blocks ≤ length s → open_of s ≡ Ok h
open_lossless s h e lossless long = open_parsed s h e ∙ rw (le-ltb (length s) (16 + 4 * h.blocks) long, lossless)

start_lossless : (h : FujiHeader) → h.lossless ≡ true → row_start h h.blocks ≡ 16 + padded (4 * h.blocks)
unfolding row_start
start_lossless h lossless = rw lossless (omega arith)

module _ (d : List ℕ) (h : FujiHeader) (e : parse_of d ≡ Ok h) (lossless : h.lossless ≡ true) (block : List ℕ) (short : length block < 2 ^ 32) where
  abbrev K : ℕ
  K = h.blocks

  abbrev n : ℕ
  n = length block

  -- the header, the sizes, padded, and the blocks
  abbrev sizes : List ℕ
  sizes = copies K (four_bytes n)

  abbrev front : List ℕ
  front = take 16 d ++ sizes ++ replicate (padded (4 * K) - 4 * K) 0

  pub stream_of : List ℕ
  stream_of = front ++ copies K block

  P : IsParsed d h
  P = parsed d h e

  R : Ruled h
  R = ruled d h e

  head_length : length (take 16 d) ≡ 16
  head_length = length-take-le 16 d P.whole

  sizes_length : length sizes ≡ 4 * K
  sizes_length = length_copies K (four_bytes n) ∙ four
    where
      four : K * length (four_bytes n) ≡ 4 * K
      four = omega arith

  front_length : length front ≡ 16 + padded (4 * K)
  front_length =
      let fill : length (replicate {A = ℕ} (padded (4 * K) - 4 * K) 0) ≡ padded (4 * K) - 4 * K = length-replicate (padded (4 * K) - 4 * K) 0 in
      length-append (take 16 d ++ sizes) (replicate (padded (4 * K) - 4 * K) 0) ∙ rw (length-append (take 16 d) sizes, head_length, sizes_length, fill) (omega arith)

  stream_length : length stream_of ≡ 16 + padded (4 * K) + K * n
  unfolding stream_of
  stream_length = length-append front (copies K block) ∙ rw (front_length, length_copies K block)

  -- it has the header's bytes
  head_at : (i : ℕ) → i < 16 → byte_at stream_of i ≡ byte_at d i
  unfolding stream_of
  head_at i l =
      get_or-append front (copies K block) 0 i (omega (arith, front_length))
      ∙ get_or-append (take 16 d ++ sizes) (replicate (padded (4 * K) - 4 * K) 0) 0 i (rw length-append (omega (arith, head_length)))
      ∙ get_or-append (take 16 d) sizes 0 i (omega (arith, head_length))
      ∙ get_or-take 16 d i 0 l

  same_header : header_of stream_of ≡ header_of d
  unfolding header_of
  same_header =
      rw (
        head_at 2 (lit< tt),
        head_at 3 (lit< tt),
        head_at 4 (lit< tt),
        head_at 5 (lit< tt),
        head_at 6 (lit< tt),
        head_at 7 (lit< tt),
        head_at 8 (lit< tt),
        head_at 9 (lit< tt),
        head_at 10 (lit< tt),
        head_at 11 (lit< tt),
        head_at 12 (lit< tt),
        head_at 13 (lit< tt),
        head_at 14 (lit< tt),
        head_at 15 (lit< tt),
      )

  same_kind : kind_rules stream_of ≡ kind_rules d
  unfolding kind_rules
  same_kind = rw (head_at 0 (lit< tt), head_at 1 (lit< tt), head_at 2 (lit< tt), head_at 3 (lit< tt), head_at 4 (lit< tt))

  is_parsed : parse_of stream_of ≡ Ok h
  is_parsed = parse_good stream_of (omega (arith, stream_length)) (rw (same_kind, same_header) P.rules) ∙ ap Ok (same_header ∙ sym P.header)

  pub opens : open_of stream_of ≡ Ok h
  opens = open_lossless stream_of h is_parsed lossless (omega (arith, stream_length))

  -- each size is that of the block
  size_at : (b j : ℕ) → b < K → j < 4 → get_or stream_of (16 + 4 * b + j) 0 ≡ get_or (four_bytes n) j 0
  unfolding stream_of
  size_at b j hb hj =
      let i : 16 + 4 * b + j ≡ 16 + (b * 4 + j) = omega arith in
      rw i (get_or-append front (copies K block) 0 (16 + (b * 4 + j)) (omega (arith, front_length))
      ∙ get_or-append (take 16 d ++ sizes) (replicate (padded (4 * K) - 4 * K) 0) 0 (16 + (b * 4 + j)) (rw length-append (omega (arith, head_length, sizes_length)))
      ∙ (rw head_length at (get_or-append-add (take 16 d) sizes (b * 4 + j) 0))
      ∙ copy_at b K (four_bytes n) j hb hj)

  size_is : (b : ℕ) → b < K → size_of stream_of b ≡ n
  size_is b hb =
      let i0 : 16 + 4 * b + 0 ≡ 16 + 4 * b = omega arith in
      rw (← i0, size_at b 0 hb (lit< tt), i0, size_at b 1 hb (lit< tt), size_at b 2 hb (lit< tt), size_at b 3 hb (lit< tt)) (four_is n)

  before_is : (b : ℕ) → b ≤ K → sizes_before stream_of b ≡ b * n
  unfolding sizes_before
  before_is zero h = omega arith
  before_is (suc b) h = rw (before_is b (omega arith), size_is b h) (omega arith)

  -- where the blocks start
  start_is : (b : ℕ) → b ≤ K → row_start h K + sizes_before stream_of b ≡ 16 + padded (4 * K) + b * n
  start_is b l = rw (before_is b l) (omega (arith, start_lossless h lossless))

  cut_is : (m : ℕ) → m ≤ K * n → min (16 + padded (4 * K) + m) (length stream_of) ≡ 16 + padded (4 * K) + m
  cut_is m l = min-eq_left (omega (arith, stream_length))

  -- and the block is there
  pub block_there : (b : ℕ) → b < K → part_of stream_of (range_of stream_of b) ≡ block
  unfolding stream_of
  block_there b hb =
      rw (range_opened stream_of b h opens, lt-ltb b K hb, start_is b (omega arith), size_is b hb, cut_is (b * n) (omega (arith, inside)), end_is)
      (ap (λ (m : ℕ). take m (drop (16 + padded (4 * K) + b * n) stream_of)) rest ∙ there)
    where
      inside : (b + 1) * n ≤ K * n
      inside = mul-le-mul_right n (omega arith)

      end_is : min (16 + padded (4 * K) + b * n + n) (length stream_of) ≡ 16 + padded (4 * K) + b * n + n
      end_is = min-eq_left (omega (arith, stream_length, inside))

      rest : 16 + padded (4 * K) + b * n + n - (16 + padded (4 * K) + b * n) ≡ n
      rest = omega arith

      there : take n (drop (16 + padded (4 * K) + b * n) stream_of) ≡ block
      there =
          ap (take n) (rw front_length at (drop-append-add front (copies K block) (b * n)))
          ∙ ap (take n) (let q : b + suc (K - (b + 1)) ≡ K = omega arith in rw q at (drop_copies b (suc (K - (b + 1))) block))
          ∙ first_whole (K - (b + 1)) block

  -- it consists of bytes, where header and block do
  pub stream_bytes : Bytes d → Bytes block → Bytes stream_of
  unfolding stream_of
  stream_bytes hd hb =
      bytes_append front (copies K block)
      (bytes_append (take 16 d ++ sizes) (replicate (padded (4 * K) - 4 * K) 0) (bytes_append (take 16 d) sizes (bytes_take 16 d hd) (bytes_copies K (four_bytes n) (bytes_four n short)))
      (λ i. omega (arith, zeros_le 0 (padded (4 * K) - 4 * K) i)))
      (bytes_copies K block hb)
