-- `admission::largest::is_interpolated_at` meets its contract. Assumes nothing.
use borrow.Author.Rules.{rules}
use mathlib.Core.Bool.{true}
use mathlib.Core.Path.{◌≡◌, ◌∙◌}
use Prim.Native.Nat.{ℕ, ◌*◌, ◌/◌, ◌%◌, ◌<◌}
use native.Mathlib.Nat.{mod-lt, div-lt_iff_lt-mul}
use native.Mathlib.Omega.{arith}
use Rattle.image_map.specs.Places.{width_of}
use Rattle.pass_schedule.specs.Steps.{is_interpolated}
use Rattle.colour_lines.specs.Sets.{line_of_rank, colour_line_at, position_at}
use Rattle.admission.proofs.largest.is_interpolated_at.Goals as goal
use Rattle.admission.proofs.largest.is_interpolated_at.Goals.{After-width-w}

rank_lt : (j w : ℕ) → w ≡ 512 → j % (12 * w) / w < 12
rank_lt j w e = (div-lt_iff_lt-mul {k = w} (omega (arith, e))).1 (mod-lt j (omega (arith, e)))

same : (j w l : ℕ) → w ≡ width_of true → l ≡ line_of_rank (j % (12 * w) / w)
    → is_interpolated true l (j % (12 * w) % w) ≡ is_interpolated true (colour_line_at (width_of true) j) (position_at (width_of true) j)
same j w l e f = rw (f, e)

-- the width is 512
wide : (c : After-width-w) → c.width-w.result ≡ 512
wide c = c.width-w.ensures

pub overflow_mul-inside : goal.overflow_mul-inside
overflow_mul-inside c = search (rules, wide c)

pub nonzero_rem-inside : goal.nonzero_rem-inside
nonzero_rem-inside c = omega (arith, wide c)

pub nonzero_div-inside : goal.nonzero_div-inside
nonzero_div-inside c = omega (arith, wide c)

pub line_of_rank-requires : goal.line_of_rank-requires
line_of_rank-requires c = rank_lt _ _ (wide c)

pub nonzero_rem-inside-2 : goal.nonzero_rem-inside-2
nonzero_rem-inside-2 c = omega (arith, wide (goal.at.nonzero_rem-inside-2 c).After-width-w)

pub returns : goal.returns
returns c = c.is_interpolated.ensures ∙ same _ _ _ c.width-w.ensures c.line_of_rank.ensures.0
