-- Some sheets and entries, computed. Assumes nothing.
use mathlib.Core.Path.{◌≡◌, refl}
use Rattle.numbers.specs.Numbers.{least_from}
use Rattle.bits.specs.BitLists.{binary, number_of}
use Rattle.quantiser.specs.Quantisers.{total_of, raw_of, quantiser_of}
use Rattle.code.specs.Tight.{code_bits}
use Rattle.stream.specs.declared.header.Refusal.TheVariants.{OutsideSheet}
use Rattle.short_codes.specs.Sheets.{in_sheet, string_of, entry_of, count_of, entry_at, listed_answer}
use Rattle.std.specs.Prelude.{Err, Ok}

module _ where
  count₁ : listed_answer 14 8 9 ≡ Ok 256
  unfolding listed_answer in_sheet count_of
  count₁ = refl

  -- no string of 8 bits has a one and 8 low bits
  count₂ : listed_answer 14 8 8 ≡ Ok 0
  unfolding listed_answer in_sheet count_of
  count₂ = refl

  -- codes end below 2^12
  count₃ : listed_answer 12 13 16 ≡ Ok 4096
  unfolding listed_answer in_sheet count_of
  count₃ = refl

  count₄ : listed_answer 16 15 16 ≡ Ok 32768
  unfolding listed_answer in_sheet count_of
  count₄ = refl

  refused₁ : listed_answer 13 0 1 ≡ Err OutsideSheet
  unfolding listed_answer in_sheet
  refused₁ = refl

  refused₂ : listed_answer 12 16 16 ≡ Err OutsideSheet
  unfolding listed_answer in_sheet
  refused₂ = refl

  refused₃ : listed_answer 12 0 0 ≡ Err OutsideSheet
  unfolding listed_answer in_sheet
  refused₃ = refl

  refused₄ : listed_answer 12 0 17 ≡ Err OutsideSheet
  unfolding listed_answer in_sheet
  refused₄ = refl

  entry₁ : entry_at 12 0 2 ≡ 196609
  unfolding entry_of string_of code_bits quantiser_of raw_of total_of least_from binary number_of
  entry₁ = refl

  entry₂ : entry_at 14 8 2047 ≡ 1049087
  unfolding entry_of string_of code_bits quantiser_of raw_of total_of least_from binary number_of
  entry₂ = refl

  entry₃ : entry_at 12 13 4095 ≡ 929791
  unfolding entry_of string_of code_bits quantiser_of raw_of total_of least_from binary number_of
  entry₃ = refl
