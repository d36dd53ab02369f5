-- Rules. The prediction of a sample from its neighbours, with its two differences and its flatness. Above the sample at position p lie rc, rb and
-- rd (p − 1, p, p + 1, one line up) and rf (p, two lines up); ra and rg are its left and right neighbours. Assumes nothing.
use Rattle.std.specs.Prelude.{Bool, cond, ◌&&◌, ◌||◌, ℕ, ◌+◌, ◌-◌, ◌*◌, ◌/◌, ltb}
use Rattle.numbers.specs.Numbers.{distance, minus}
use Rattle.prediction.specs.declared.Context.{Context}

-- a is strictly more than both others
abbrev pub most : ℕ → ℕ → ℕ → Bool
most a b c = ltb b a && ltb c a

-- even positions: of rf, rc and rd, whose distances from rb are f, c and d, the one to drop: rc or rd only if it is further than
-- both others, else rf
abbrev pub dropped_of : ℕ → ℕ → ℕ → ℕ → ℕ → ℕ → ℕ
dropped_of rf rc rd f c d = cond (most c f d) rc (cond (most d f c) rd rf)

-- the other two and 2·rb are added, and the sum is divided by 4
unfoldable pub even_prediction : ℕ → ℕ → ℕ → ℕ → ℕ
even_prediction rf rc rb rd =
    let dropped = dropped_of rf rc rd (distance rf rb) (distance rc rb) (distance rd rb) in
    (rf + rc + rd - dropped + 2 * rb) / 4

-- rb is strictly above both rc and rd, or strictly below both
abbrev pub extreme : ℕ → ℕ → ℕ → Bool
extreme rb rc rd = (ltb rc rb && ltb rd rb) || (ltb rb rc && ltb rb rd)

-- odd positions
unfoldable pub odd_prediction : ℕ → ℕ → ℕ → ℕ → ℕ → ℕ
odd_prediction ra rg rb rc rd = cond (extreme rb rc rd) ((ra + rg + 2 * rb) / 4) ((ra + rg) / 2)

-- even positions: differences rb − rf and rc − rb
unfoldable pub even_context : ℕ → ℕ → ℕ → ℕ → Context
even_context rf rc rb rd = record { prediction = even_prediction rf rc rb rd; first = minus rb rf; second = minus rc rb }

-- odd positions: differences rb − rc and rc − ra
unfoldable pub odd_context : ℕ → ℕ → ℕ → ℕ → ℕ → Context
odd_context ra rg rb rc rd = record { prediction = odd_prediction ra rg rb rc rd; first = minus rb rc; second = minus rc ra }

-- the flatness: the sizes of the two differences added
abbrev pub flatness_of : Context → ℕ
flatness_of x = x.first.size + x.second.size
