-- Promises. The text of a finding, in ASCII: a heading line and at most one record, fields parted by tabs; or the number of a refusal, as a line.
use Rattle.std.specs.Prelude.{List, [], ◌∷◌, ◌++◌, ℕ, ◌^◌, ltb, Err, None, Ok, Option, Result, Some}
use Rattle.io.specs.Digits.{last_digits}
use Rattle.numbers.specs.Numbers.{least_from}
use Rattle.stream.specs.Refusals.{refusal_number}
use Rattle.code.specs.declared.reasons.BadSpot.{BadSpot}
use Rattle.code.specs.declared.reasons.Reason.{Reason}
use Rattle.code.specs.declared.reasons.Reason.TheVariants.{Large, Escape, Zeros}
use Rattle.bits.specs.declared.BitPosition.{BitPosition}
use Rattle.stream.specs.declared.header.Refusal.{Refusal}
use Rattle.tight_diagnosis.specs.declared.Fault.{Fault}

abbrev pub tab : ℕ
tab = 9

abbrev pub newline : ℕ
newline = 10

-- `block`, `line`, `pass`, `colour`, `position`, `bit`, `reason`
abbrev pub heading : List ℕ
heading =
    98 ∷ 108 ∷ 111 ∷ 99 ∷ 107 ∷ tab
    ∷ 108 ∷ 105 ∷ 110 ∷ 101 ∷ tab
    ∷ 112 ∷ 97 ∷ 115 ∷ 115 ∷ tab
    ∷ 99 ∷ 111 ∷ 108 ∷ 111 ∷ 117 ∷ 114 ∷ tab
    ∷ 112 ∷ 111 ∷ 115 ∷ 105 ∷ 116 ∷ 105 ∷ 111 ∷ 110 ∷ tab
    ∷ 98 ∷ 105 ∷ 116 ∷ tab
    ∷ 114 ∷ 101 ∷ 97 ∷ 115 ∷ 111 ∷ 110 ∷ newline ∷ []

-- `large`, `escape`, `zeros`, `tail`, each at the end of its line
abbrev pub reason_text : Reason → List ℕ
reason_text Large = 108 ∷ 97 ∷ 114 ∷ 103 ∷ 101 ∷ newline ∷ []
reason_text Escape = 101 ∷ 115 ∷ 99 ∷ 97 ∷ 112 ∷ 101 ∷ newline ∷ []
reason_text Zeros = 122 ∷ 101 ∷ 114 ∷ 111 ∷ 115 ∷ newline ∷ []

abbrev pub tail_text : List ℕ
tail_text = 116 ∷ 97 ∷ 105 ∷ 108 ∷ newline ∷ []

-- a number below 10^20 in decimal, with the fewest digits, and at least one
unfoldable pub number_text : ℕ → List ℕ
number_text n = last_digits 10 (least_from 19 (λ k. ltb n (10 ^ k)) 1) n

-- a field, with the tab after it
abbrev pub field : ℕ → List ℕ
field n = number_text n ++ tab ∷ []

-- three fields that are `-`
abbrev pub no_fields : List ℕ
no_fields = 45 ∷ tab ∷ 45 ∷ tab ∷ 45 ∷ tab ∷ []

abbrev pub code_text : ℕ → BadSpot → List ℕ
code_text b x = field b ++ field x.line ++ field x.pass ++ field x.colour ++ field x.position ++ field x.at.0 ++ reason_text x.reason

abbrev pub tail_record : ℕ → ℕ → BitPosition → List ℕ
tail_record b lines at = field b ++ field lines ++ no_fields ++ field at.0 ++ tail_text

unfoldable pub text_of : Result (Option (ℕ × Fault)) Refusal → List ℕ
text_of (Err x) = number_text (refusal_number x) ++ newline ∷ []
text_of (Ok None) = heading
text_of (Ok (Some (b, Fault.Code x))) = heading ++ code_text b x
text_of (Ok (Some (b, Fault.Tail lines at))) = heading ++ tail_record b lines at
