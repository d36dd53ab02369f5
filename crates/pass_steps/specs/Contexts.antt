-- Rules. What reading and writing share: the context of a sample, the quantiser and the record that it is coded by, and these for a step.
use Rattle.std.specs.Prelude.{cond, List, ℕ, ◌+◌, ◌-◌, ◌*◌, ◌%◌, ◌≤◌, eqb, get_or}
use Rattle.statistics.specs.declared.Record.{Record}
use Rattle.quantiser.specs.Quantisers.{quantiser_of, gradient_of}
use Rattle.quantiser.specs.declared.Quantiser.{Quantiser}
use Rattle.prediction.specs.Predictions.{even_context, odd_context, flatness_of}
use Rattle.prediction.specs.declared.Context.{Context}
use Rattle.code.specs.Samples.{choice_of}
use Rattle.pass_schedule.specs.Steps.{Step}
use Rattle.pass_steps.specs.declared.Look.{Look}

-- ---- the context of a sample

-- The colour lines stand one after the other, each of W samples with a guard at either end: place 0 of a line is its left guard, place p + 1 its
-- position p, and place W + 1 its right guard.
abbrev pub entry_in : ℕ → List ℕ → ℕ → ℕ → ℕ
entry_in W lines l d = get_or lines (l * (W + 2) + d) 0

-- position p of line l, and what is left and right of it: the next position, or at the line's end the guard
abbrev pub sample_in : ℕ → List ℕ → ℕ → ℕ → ℕ
sample_in W lines l p = entry_in W lines l (p + 1)

abbrev pub left_in : ℕ → List ℕ → ℕ → ℕ → ℕ
left_in W lines l p = entry_in W lines l p

abbrev pub right_in : ℕ → List ℕ → ℕ → ℕ → ℕ
right_in W lines l p = entry_in W lines l (p + 2)

-- rf two lines up; rc, rb and rd one line up; ra and rg beside it in its own line
unfoldable pub even_in : ℕ → List ℕ → ℕ → ℕ → Context
even_in W lines l p =
    let rf = sample_in W lines (l - 2) p in
    let rc = left_in W lines (l - 1) p in
    let rb = sample_in W lines (l - 1) p in
    let rd = right_in W lines (l - 1) p in
    even_context rf rc rb rd

unfoldable pub odd_in : ℕ → List ℕ → ℕ → ℕ → Context
odd_in W lines l p =
    let ra = left_in W lines l p in
    let rg = right_in W lines l p in
    let rb = sample_in W lines (l - 1) p in
    let rc = left_in W lines (l - 1) p in
    let rd = right_in W lines (l - 1) p in
    odd_context ra rg rb rc rd

unfoldable pub context_in : ℕ → List ℕ → ℕ → ℕ → Context
context_in W lines l p = cond (eqb (p % 2) 0) (even_in W lines l p) (odd_in W lines l p)

-- ---- the quantiser and the record of a sample

-- the base and the weight of the quantiser that was chosen, 0 the main one of a line with base q, 1 to 3 a flat one
abbrev pub used_base : ℕ → ℕ → ℕ
used_base q i = cond (eqb i 0) q (i - 1)

abbrev pub used_weight : ℕ → ℕ
used_weight i = cond (eqb i 0) 9 3

abbrev pub used_quantiser : ℕ → ℕ → ℕ → Quantiser
used_quantiser bits q i = quantiser_of bits (used_base q i) (used_weight i)

-- where the record stands among the 56 of even or of odd positions: 41 for the main quantiser by the gradient's size, then 5 for each flat one
abbrev pub place_of : ℕ → ℕ → ℕ
place_of i size = cond (eqb i 0) size (36 + 5 * i + size)

-- what the coding of a sample goes by in a line with base q
unfoldable pub look_of : ℕ → Context → Look
look_of q x =
    let i = choice_of q (flatness_of x) in
    let g = gradient_of (used_base q i) (used_weight i) x.first x.second in
    record { choice = i; base = used_base q i; negative = g.negative; place = place_of i g.size }

-- a set has the records of even positions, and then those of odd ones
abbrev pub slot_of : ℕ → ℕ → ℕ
slot_of p place = place + 56 * (p % 2)

-- past the end of a list of records
abbrev pub no_record : Record
no_record = record { sum = 0; n = 0 }

-- ---- a step

-- what a step goes by, among these colour lines in a line with base q: its context, how it is coded, and the place of its record
abbrev pub step_context : ℕ → Step → List ℕ → Context
step_context W x lines = context_in W lines x.line x.position

abbrev pub step_look : ℕ → ℕ → Step → List ℕ → Look
step_look q W x lines = look_of q (step_context W x lines)

abbrev pub step_slot : ℕ → ℕ → Step → List ℕ → ℕ
step_slot q W x lines = slot_of x.position (step_look q W x lines).place

-- the depths of the format lie in this range
abbrev pub Depth : ℕ → Type 0
Depth bits = (12 ≤ bits) × (bits ≤ 16)
