-- Every number and every reason, by computation. Assumes nothing.
use mathlib.Core.Path.{refl}
use Rattle.bits.specs.Bits.{bit_at, bits_at, zeros, zero_run}
use Rattle.code.specs.Codes.{code_at}
use Rattle.code.specs.Reasons.{reason_of}
use Rattle.theorem_cases.specs.NumberCases.{RefusalNumbers, ReasonCases}

pub refusal_numbers : RefusalNumbers
refusal_numbers =
    record {
      n1 = refl;
      n2 = refl;
      n3 = refl;
      n4 = λ a. refl;
      n5 = refl;
      n6 = refl;
      n7 = refl;
      n8 = refl;
      n9 = refl;
      n10 = refl;
      n11 = λ a. refl;
      n12 = λ a. refl;
      n13 = refl;
      n14 = λ a b. refl;
      n15 = λ a. refl;
      n16 = refl;
      n17 = refl;
      n18 = λ a. refl;
      n19 = λ a. refl;
      n20 = λ a. refl;
      n21 = refl;
      n22 = refl;
      n23 = λ a b. refl;
      n24 = refl;
      n25 = refl;
      n26 = λ a. refl;
      words_14 = λ a b. refl;
      words_12 = λ a. refl;
    }

pub reason_cases : ReasonCases
unfolding bit_at bits_at zeros zero_run code_at reason_of
reason_cases =
    record {
      both_read = refl;
      both_hold = (refl, refl);
      both = refl;
      escape_read = refl;
      escape = refl;
      zeros_read = refl;
      zeros = refl;
      tight_read = refl;
      tight = refl;
      large_word = refl;
      escape_word = refl;
      zeros_word = refl;
      tail_words = λ lines at. refl;
    }
