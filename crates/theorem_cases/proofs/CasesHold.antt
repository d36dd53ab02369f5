-- Every case holds, by computation. Assumes nothing.
use mathlib.Core.Bool.{xor}
use mathlib.Core.Path.{refl}
use Rattle.bits.specs.Bits.{bit_at, bits_at, zeros, zero_run}
use Rattle.numbers.specs.Numbers.{least_from}
use Rattle.statistics.specs.Statistics.{k_of, updated}
use Rattle.quantiser.specs.Quantisers.{total_of, raw_of, quantiser_of, start_sum, level_size, level_of, gradient_of}
use Rattle.prediction.specs.Predictions.{even_prediction, odd_prediction}
use Rattle.code.specs.Codes.{code_at}
use Rattle.code.specs.Samples.{residual_of, wrap, sample_of}
use Rattle.code.specs.Tight.{is_tight}
use Rattle.image_map.specs.Places.{xtrans_place}
use Rattle.stream.specs.Headers.{header_of, kind_rules, size_rules, count_rules, parse_of}
use Rattle.stream.specs.Streams.{row_start, open_of, sizes_before, range_of}
use Rattle.theorem_cases.specs.Cases.{Cases}

pub cases_hold : Cases
unfolding bit_at bits_at zeros zero_run least_from k_of updated total_of raw_of quantiser_of start_sum level_size level_of gradient_of even_prediction odd_prediction code_at residual_of wrap sample_of is_tight xtrans_place xor header_of kind_rules size_rules count_rules parse_of row_start open_of sizes_before range_of
cases_hold =
    record {
      a₁ = refl;
      a₂ = refl;
      a₃ = refl;
      b = refl;
      c₁ = refl;
      c₂ = refl;
      c₃ = refl;
      d₁ = (refl, refl, refl);
      d₂ = (refl, refl, refl);
      d₃ = (refl, refl, refl);
      e = refl;
      f = refl;
      g₁ = refl;
      g₂ = refl;
      h₀ = (refl, refl, refl);
      h₁ = refl;
      h₂ = refl;
      i₁ = refl;
      i₂ = refl;
      i₃ = refl;
      j₁ = (refl, refl, refl, refl, refl, refl);
      j₂ = refl;
      k₁ = refl;
      k₂ = (refl, refl);
      l₁ = refl;
      l₂ = refl;
      l₃ = (refl, refl);
      bound₁ = refl;
      bound₂ = refl;
      bound₃ = refl;
      bound₄ = refl;
      bound₅ = refl;
    }
