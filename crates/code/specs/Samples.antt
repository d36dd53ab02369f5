-- Rules. From a code to a sample: the quantiser that is used, the residual, the sample.
use Rattle.std.specs.Prelude.{ℕ, ◌+◌, ◌-◌, ◌*◌, ◌/◌, ◌%◌, min, Bool, true, false, cond, ◌&&◌, ◌==◌, nat_le, nat_lt}
use Rattle.std.specs.Bool.{xor}
use Rattle.numbers.specs.declared.Signed.{Signed}

-- the quantiser of a sample in a line with base q: flat ones 1 to min(q, 3) are tried in order, and the first whose flatness bound (5, 6, 7)
-- holds is used; 0 is the main one. A lossless line has base 0, so that its samples use the main one
unfoldable pub choice_of : ℕ → ℕ → ℕ
choice_of q flatness =
    cond (nat_le 1 q && nat_le flatness 5) 1
    (cond (nat_le 2 q && nat_le flatness 6) 2
    (cond (nat_le 3 q && nat_le flatness 7) 3 0))

-- the residual of a code: code/2 if it is even, −(code + 1)/2 if it is odd
unfoldable pub residual_of : ℕ → Signed
residual_of code =
    cond (code % 2 == 0)
    (record { negative = false; size = code / 2 })
    (record { negative = true; size = (code + 1) / 2 })

-- a − b, brought into 0..M: below −q span is added, above M + q it is subtracted, once; then it is clamped. (On naturals `-` clamps at 0.)
unfoldable pub wrap : ℕ → ℕ → ℕ → ℕ → ℕ → ℕ
wrap M q span a b =
    min M
    (cond (nat_lt (a + q) b) (a + span - b)
    (cond (nat_lt (M + q + b) a) (a - (b + span))
    (a - b)))

-- the sample: prediction ± residual·(2q + 1), minus if the gradient is negative, where span is total·(2q + 1)
unfoldable pub sample_of : ℕ → ℕ → ℕ → Bool → ℕ → ℕ → ℕ
sample_of M q total negative prediction code =
    let r = residual_of code in
    let d = r.size * (2 * q + 1) in
    let span = total * (2 * q + 1) in
    cond (xor negative r.negative) (wrap M q span prediction d) (wrap M q span (prediction + d) 0)
