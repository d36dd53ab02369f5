-- Worked cases of refusal 11 in a lossy X-Trans set: index 0 is position 0 of colour line 2, which is interpolated, and index 1 has a code.
-- Assumes nothing.
use mathlib.Core.Bool.{true, false}
use mathlib.Core.List.{[], ◌∷◌}
use mathlib.Core.Path.{◌≡◌, refl}
use Rattle.pass_schedule.specs.Steps.{is_interpolated}
use Rattle.colour_lines.specs.Sets.{line_of_rank}
use Rattle.admission.specs.Above.{is_ignored, first_above}
use Rattle.std.specs.Prelude.{None, Some}

ignored_0 : is_ignored true false 0 ≡ true
unfolding is_ignored is_interpolated line_of_rank
ignored_0 = refl

coded_1 : is_ignored true false 1 ≡ false
unfolding is_ignored is_interpolated line_of_rank
coded_1 = refl

-- 5000 at index 0 alone is taken with 12 bits; at index 1 it is named, though index 0 has it too
taken : first_above (is_ignored true false) 4095 0 (5000 ∷ 4095 ∷ []) ≡ None
unfolding first_above is_ignored is_interpolated line_of_rank
taken = refl

named : first_above (is_ignored true false) 4095 0 (5000 ∷ 5000 ∷ []) ≡ Some 1
unfolding first_above is_ignored is_interpolated line_of_rank
named = refl

-- the lossless writer, and Bayer, look at index 0 too
strict : first_above (is_ignored true true) 4095 0 (5000 ∷ 4095 ∷ []) ≡ Some 0
unfolding first_above is_ignored
strict = refl

bayer : first_above (is_ignored false false) 4095 0 (5000 ∷ 4095 ∷ []) ≡ Some 0
unfolding first_above is_ignored is_interpolated
bayer = refl
