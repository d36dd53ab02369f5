-- Promises. The worked cases that are marked for proof, as one table of equations on the definitions.
use Rattle.std.specs.Prelude.{true, false, List, [], ◌∷◌, ◌++◌, ◌≡◌, ℕ, Err, Ok, Some}
use Rattle.numbers.specs.declared.Signed.{Signed}
use Rattle.statistics.specs.Statistics.{k_of, updated}
use Rattle.statistics.specs.declared.Record.{Record}
use Rattle.quantiser.specs.Quantisers.{main_of, flat_of, start_sum, level_of, gradient_of}
use Rattle.prediction.specs.Predictions.{even_prediction, odd_prediction}
use Rattle.code.specs.Codes.{code_at}
use Rattle.code.specs.Samples.{sample_of}
use Rattle.code.specs.Tight.{is_tight}
use Rattle.code.specs.declared.Code.{Code}
use Rattle.image_map.specs.Places.{xtrans_place}
use Rattle.stream.specs.Headers.{parse_of}
use Rattle.stream.specs.Lengths.{bound_answer}
use Rattle.stream.specs.Streams.{open_of, range_of}
use Rattle.stream.specs.Refusals.{refusal_number}
use Rattle.stream.specs.declared.header.FujiHeader.{FujiHeader}
use Rattle.stream.specs.declared.header.Refusal.TheVariants.{BadHeader, ShortSizes, Lossy}

abbrev pub stat : ℕ → ℕ → Record
stat sum n = record { sum = sum; n = n }

abbrev pub plus : ℕ → Signed
plus n = record { negative = false; size = n }

abbrev pub negated : ℕ → Signed
negated n = record { negative = true; size = n }

-- case h: a one bit and eight ones, then zeros
abbrev pub bytes_h : List ℕ
bytes_h = 0xFF ∷ 0x80 ∷ []

abbrev pub code_h : Code
code_h = record { zeros = 0; value = 255; minimal = true; long = false; used = 9; after = record { 0 = 9 } }

-- case i: 41 zeros, a one bit, 14 zeros
abbrev pub bytes_i : List ℕ
bytes_i = 0 ∷ 0 ∷ 0 ∷ 0 ∷ 0 ∷ 0x40 ∷ 0 ∷ []

abbrev pub code_i : Code
code_i = record { zeros = 41; value = 1; minimal = false; long = true; used = 56; after = record { 0 = 56 } }

-- cases k and l: a header, with that depth
abbrev pub bytes_k : ℕ → List ℕ
bytes_k bits =
    0x49 ∷ 0x53 ∷ 0x01 ∷ 0x00 ∷ bits ∷ 0x00 ∷ 0x06 ∷ 0x03 ∷ 0x00 ∷ 0x03 ∷ 0x00 ∷ 0x03 ∷ 0x00 ∷ 0x01 ∷ 0x00 ∷ 0x01 ∷ []

abbrev pub header_k : FujiHeader
header_k =
    record {
      lossless = true;
      xtrans = false;
      bits = 14;
      height = 6;
      rounded_width = 768;
      width = 768;
      block_size = 768;
      blocks = 1;
      lines = 1;
    }

-- the largest header, lossless or not: 16 blocks, 2731 lines, 16 bits
abbrev pub bytes_largest : ℕ → List ℕ
bytes_largest lossless =
    0x49 ∷ 0x53 ∷ lossless ∷ 0x10 ∷ 0x10 ∷ 0x40 ∷ 0x02 ∷ 0x30 ∷ 0x00 ∷ 0x30 ∷ 0x00 ∷ 0x03 ∷ 0x00 ∷ 0x10 ∷ 0x0A ∷ 0xAB ∷ []

pub record Cases : Type 0 where
  -- (a) k
  pub a₁ : k_of (stat 256 1) ≡ 8
  pub a₂ : k_of (stat 256 3) ≡ 7
  pub a₃ : k_of (stat 0 64) ≡ 0
  -- (b) an update by a residual of size 3
  pub b : updated (stat 10 64) 3 ≡ stat 6 33
  -- (c) levels, base 0
  pub c₁ : level_of 0 (plus 17) ≡ plus 1
  pub c₂ : level_of 0 (plus 18) ≡ plus 2
  pub c₃ : level_of 0 (negated 276) ≡ negated 4
  -- (d) the flat quantisers at 14 bits
  pub d₁ : ((flat_of 14 1).total ≡ 16384) × ((flat_of 14 1).limit ≡ 41) × (start_sum (flat_of 14 1) ≡ 256)
  pub d₂ : ((flat_of 14 2).total ≡ 5462) × ((flat_of 14 2).limit ≡ 42) × (start_sum (flat_of 14 2) ≡ 85)
  pub d₃ : ((flat_of 14 3).total ≡ 3278) × ((flat_of 14 3).limit ≡ 43) × (start_sum (flat_of 14 3) ≡ 51)
  -- (e), (f) even positions: rf rc rb rd
  pub e : even_prediction 10 20 12 13 ≡ 11
  pub f : even_prediction 12 20 10 20 ≡ 15
  -- (g) odd positions: ra rg rb rc rd
  pub g₁ : odd_prediction 10 20 30 5 6 ≡ 22
  pub g₂ : odd_prediction 10 20 30 30 6 ≡ 15
  -- (h) 14 bits, lossless: limit 41, raw 14; prediction and gradient 0, k 8
  pub h₀ : ((main_of 14 0).limit ≡ 41) × ((main_of 14 0).raw ≡ 14) × ((main_of 14 0).total ≡ 16384)
  pub h₁ : code_at bytes_h 0 8 41 14 ≡ Some code_h
  pub h₂ : sample_of 16383 0 16384 (gradient_of 0 9 (plus 0) (plus 0)).negative 0 255 ≡ 16256
  -- (i) there, a long code that is not tight
  pub i₁ : code_at bytes_i 0 8 41 14 ≡ Some code_i
  pub i₂ : sample_of 16383 0 16384 (gradient_of 0 9 (plus 0) (plus 0)).negative 0 1 ≡ 16383
  pub i₃ : is_tight 16383 code_i ≡ false
  -- (j) X-Trans places
  pub j₁ : (xtrans_place 0 ≡ 0) × (xtrans_place 1 ≡ 1) × (xtrans_place 2 ≡ 1) × (xtrans_place 3 ≡ 2) × (xtrans_place 4 ≡ 3) × (xtrans_place 5 ≡ 3)
  pub j₂ : xtrans_place 767 ≡ 511
  -- (k) a header that parses; byte 4 as 0D is refusal 2
  pub k₁ : parse_of (bytes_k 0x0E) ≡ Ok header_k
  pub k₂ : (parse_of (bytes_k 0x0D) ≡ Err BadHeader) × (refusal_number BadHeader ≡ 2)
  -- (l) that header with 4 zero bytes opens, and its block has no bytes, at the stream's end; with 3 bytes it is refusal 3
  pub l₁ : open_of (bytes_k 0x0E ++ 0 ∷ 0 ∷ 0 ∷ 0 ∷ []) ≡ Ok header_k
  pub l₂ : range_of (bytes_k 0x0E ++ 0 ∷ 0 ∷ 0 ∷ 0 ∷ []) 0 ≡ Ok ((record { 0 = 20 }), 0)
  pub l₃ : (open_of (bytes_k 0x0E ++ 0 ∷ 0 ∷ 0 ∷ []) ≡ Err ShortSizes) × (refusal_number ShortSizes ≡ 3)
  -- the length that no tight block exceeds: of one line at each depth, of the largest header, and of none that is lossy
  pub bound₁ : bound_answer (parse_of (bytes_k 12)) ≡ Ok 27648
  pub bound₂ : bound_answer (parse_of (bytes_k 14)) ≡ Ok 32256
  pub bound₃ : bound_answer (parse_of (bytes_k 16)) ≡ Ok 36864
  pub bound₄ : bound_answer (parse_of (bytes_largest 1)) ≡ Ok 100675584
  pub bound₅ : bound_answer (parse_of (bytes_largest 0)) ≡ Err Lossy
