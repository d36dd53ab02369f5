-- Worked cases: texts. Assumes nothing.
use mathlib.Core.List.{[], ◌∷◌, ◌++◌}
use mathlib.Core.Path.{◌≡◌, refl}
use Rattle.numbers.specs.Numbers.{least_from}
use Rattle.stream.specs.declared.header.Refusal.TheVariants.{ShortHeader, ShortBases, Lossy}
use Rattle.code.specs.declared.reasons.Reason.TheVariants.{Escape}
use Rattle.tight_findings.specs.Texts.{heading, number_text, text_of}
use Rattle.std.specs.Prelude.{Err, None, Ok, Some}
use Rattle.tight_diagnosis.specs.declared.Fault.TheVariants as Fault

-- `0 0 1 2 0 0 escape`, with tabs for the blanks
example : text_of (Ok (Some (0, Fault.Code (record { line = 0; pass = 1; colour = 2; position = 0; at = record { 0 = 0 }; reason = Escape }))))
    ≡ heading ++ 48 ∷ 9 ∷ 48 ∷ 9 ∷ 49 ∷ 9 ∷ 50 ∷ 9 ∷ 48 ∷ 9 ∷ 48 ∷ 9 ∷ 101 ∷ 115 ∷ 99 ∷ 97 ∷ 112 ∷ 101 ∷ 10 ∷ []
unfolding text_of number_text least_from
example = refl

-- `0 1 - - - 6660 tail`
tail_example : text_of (Ok (Some (0, Fault.Tail 1 (record { 0 = 6660 }))))
    ≡ heading ++ 48 ∷ 9 ∷ 49 ∷ 9 ∷ 45 ∷ 9 ∷ 45 ∷ 9 ∷ 45 ∷ 9 ∷ 54 ∷ 54 ∷ 54 ∷ 48 ∷ 9 ∷ 116 ∷ 97 ∷ 105 ∷ 108 ∷ 10 ∷ []
unfolding text_of number_text least_from
tail_example = refl

-- refusals 1 and 8, and 4, which names no block here
refused_1 : text_of (Err ShortHeader) ≡ 49 ∷ 10 ∷ []
unfolding text_of number_text least_from
refused_1 = refl

refused_8 : text_of (Err Lossy) ≡ 56 ∷ 10 ∷ []
unfolding text_of number_text least_from
refused_8 = refl

refused_4 : text_of (Err (ShortBases 3)) ≡ 52 ∷ 10 ∷ []
unfolding text_of number_text least_from
refused_4 = refl

-- the heading alone
nothing : text_of (Ok None) ≡ heading
unfolding text_of
nothing = refl
