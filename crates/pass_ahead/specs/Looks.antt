-- Inside. Looks as one number, and what a line's base decides of them in 16 bits.
use Rattle.std.specs.Prelude.{cond, ◌≡◌, ℕ, ◌+◌, ◌*◌, ◌%◌, leb, ltb}
use Rattle.numbers.specs.Numbers.{up, down, flag}
use Rattle.numbers.specs.declared.Signed.{Signed}
use Rattle.quantiser.specs.Quantisers.{level_of}
use Rattle.pass_steps.specs.Contexts.{look_of}
use Rattle.pass_steps.specs.declared.Look.{Look}
use Rattle.pass_ahead.specs.declared.Marks.{Marks}
use Rattle.pass_ahead.specs.declared.Bounds.{Bounds}

-- twice the place of the record, and 1 more where the gradient is negative
abbrev pub packed_look : Look → ℕ
packed_look h = 2 * h.place + flag h.negative

-- the look of a sample by its two differences, whatever its prediction
abbrev pub look_by : ℕ → Signed → Signed → Look
look_by q first second = look_of q (record { prediction = 0; first = first; second = second })

-- the thresholds after the first, each less 1
abbrev pub marks_of : ℕ → Marks
marks_of q = record { base = q; second = 3 * q + 17; third = 5 * q + 66; fourth = 7 * q + 275 }

-- a difference of size m lies above them just where it has reached the thresholds of base q
abbrev pub Marked : ℕ → Marks → ℕ → Type 0
Marked q t m =
    (ltb t.second m ≡ leb (3 * q + 18) m) × (ltb t.third m ≡ leb (5 * q + 67) m) × (ltb t.fourth m ≡ leb (7 * q + 276) m)

-- the level of a difference, raised by 4
abbrev pub Raised : ℕ → Signed → ℕ → Type 0
Raised q v r = r + down (level_of q v) ≡ 4 + up (level_of q v)

-- weight times the level of a difference, raised by 36
abbrev pub Part : ℕ → ℕ → Signed → ℕ → Type 0
Part weight q v r = r + weight * down (level_of q v) ≡ 36 + weight * up (level_of q v)

-- the flatness from which on flat quantisers 1 to 3 are passed over
abbrev pub bounds_of : ℕ → Bounds
bounds_of q =
    record {
      first = cond (ltb q 1) 0 6;
      second = cond (ltb q 2) (cond (ltb q 1) 0 6) 7;
      third = cond (ltb q 3) (cond (ltb q 2) (cond (ltb q 1) 0 6) 7) 8;
    }

-- how many of them are reached
abbrev pub reached_of : Bounds → ℕ → ℕ
reached_of b f = (flag (leb b.first f) + flag (leb b.second f) + flag (leb b.third f) + 1) % 4
