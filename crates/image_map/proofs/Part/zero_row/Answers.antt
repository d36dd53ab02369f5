-- `image_map::Part::zero_row` meets its contract. Assumes nothing.
use Rattle.std.proofs.Common.{◌≡◌, refl, ℕ, ◌+◌, ◌≤◌, ◌&&◌, List, length, replicate, arith, rules}
use Rattle.std.proofs.lemmas.Grind.{common_steps}
use borrow.Rule.Slice.PartMut.{put_mid}
use lib.Dec.{leb, ltb}
use Rattle.image_map.specs.Places.{Changed}
use Rattle.image_map.proofs.PartLaws.{put_none, put_span, row_inside}
use Rattle.image_map.proofs.Part.zero_row.Goals as goal

filled : (a n k : ℕ) (x y : List ℕ) → k ≡ n → y ≡ replicate n 0 → a + n ≤ length x
    → Changed (λ i. leb a i && ltb i (a + n)) (λ i. 0) x (put_mid a k x y)
filled a n k x y ek ey h = record { kept = grind (arith, common_steps); entries = λ i. grind (arith, common_steps) }

pub returns-then-row-top : goal.returns-then-row-top
returns-then-row-top c = put_none _ _ _ _ _ (λ i h. omega (arith, h.last, c.if-row-top.true))

pub returns-then-bottom-row : goal.returns-then-bottom-row
returns-then-bottom-row c = put_none _ _ _ _ _ (λ i h. omega (arith, h.first, h.there, c.if-bottom-row.true))

pub returns : goal.returns
returns c =
    put_span _ _ _ c.requires c.if-row-top.false c.if-bottom-row.false _ _ _ _ (λ i g. refl)
    (filled _ _ _ _ _ (omega arith) (search rules) (row_inside _ _ _ c.requires c.if-row-top.false c.if-bottom-row.false))
