-- Promises. Sets of colour lines whose interpolated positions have their predictions, by the set's own samples and without a writer.
use Rattle.std.specs.Prelude.{Bool, true, cond, ◌&&◌, ◌||◌, List, ◌≡◌, ℕ, zero, suc, ◌+◌, ◌-◌, ◌≤◌, ◌<◌, leb, ltb, eqb, length, get_or}
use Rattle.quantiser.specs.Quantisers.{largest}
use Rattle.prediction.specs.Predictions.{even_prediction}
use Rattle.pass_schedule.specs.Steps.{is_interpolated}
use Rattle.image_map.specs.Places.{width_of}
use Rattle.colour_lines.specs.Sets.{set_size, index_in}
use Rattle.read_block.specs.declared.Form.{Form}

-- the first two lines of each colour are the last two of the line before: 0 and 1 were 3 and 4, 5 and 6 were 11 and 12, 13 and 14 were 16 and 17
abbrev pub is_before : ℕ → Bool
is_before l = ltb l 2 || (leb 5 l && ltb l 7) || (leb 13 l && ltb l 15)

abbrev pub was_line : ℕ → ℕ
was_line l = cond (leb 5 l && ltb l 7) (l + 6) (l + 3)

-- a sample of the line before line n; lines begin at 0
abbrev pub sample_before : ℕ → List ℕ → ℕ → ℕ → ℕ → ℕ
sample_before W t zero l p = 0
sample_before W t (suc n) l p = get_or t (index_in W n l p) 0

-- position p of colour line l, 0 to 17, in line n of the set t
unfoldable pub sample_at : ℕ → List ℕ → ℕ → ℕ → ℕ → ℕ
sample_at W t n l p = cond (is_before l) (sample_before W t n (was_line l) p) (get_or t (index_in W n l p) 0)

-- the prediction of an even position p of colour line l: rf two lines up, rc, rb, rd one line up. Left of a line is a guard, which holds the
-- first sample of the line above it
unfoldable pub prediction_in : ℕ → List ℕ → ℕ → ℕ → ℕ → ℕ
prediction_in W t n l p =
    let rf = sample_at W t n (l - 2) p in
    let rc = cond (eqb p 0) (sample_at W t n (l - 2) 0) (sample_at W t n (l - 1) (p - 1)) in
    let rb = sample_at W t n (l - 1) p in
    let rd = sample_at W t n (l - 1) (p + 1) in
    even_prediction rf rc rb rd

-- all samples are there, each is in 0..M, and each interpolated position has its prediction
pub record PredictedSet (F : Form) (lines : ℕ) (t : List ℕ) : Type 0 where
  pub size : length t ≡ set_size (width_of F.xtrans) lines
  pub range : (j : ℕ) → get_or t j 0 ≤ largest F.bits
  pub predicted : (n l p : ℕ) → n < lines → l ≤ 17 → p < width_of F.xtrans → is_interpolated F.xtrans l p ≡ true
      → get_or t (index_in (width_of F.xtrans) n l p) 0 ≡ prediction_in (width_of F.xtrans) t n l p
