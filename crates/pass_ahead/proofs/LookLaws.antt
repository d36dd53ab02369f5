-- Predictions, levels and looks in 16 bits. Assumes nothing.
use mathlib.Core.Bool.{Bool, true, false, cond, ◌||◌}
use mathlib.Core.Path.{◌≡◌, refl, sym, ◌∙◌}
use Prim.Native.Nat.{ℕ, ◌+◌, ◌-◌, ◌*◌, ◌/◌, ◌≤◌, ◌<◌, min}
use native.Mathlib.Omega.{arith}
use lib.Bits.{bit_and, bit_xor, xor_add_and}
use lib.Dec.{leb, ltb, eqb}
use borrow.Author.Tests.{lt-ltb, le-ltb, le-leb, lt-leb}
use Rattle.numbers.specs.Numbers.{distance, minus, flag}
use Rattle.numbers.specs.declared.Signed.{Signed}
use Rattle.numbers.proofs.OrderLaws.{split}
use Rattle.quantiser.specs.Quantisers.{level_size, level_of, gradient_of}
use Rattle.quantiser.proofs.GradientLaws.{level_count, raised}
use Rattle.prediction.specs.Predictions.{most, even_prediction, even_context}
use Rattle.code.specs.Samples.{choice_of}
use Rattle.code.proofs.ChoiceLaws.{counted}
use Rattle.pass_steps.specs.Contexts.{used_base, used_weight, place_of, look_of}
use Rattle.pass_steps.proofs.LookLaws.{choice_cases, no_flat}
use Rattle.pass_ahead.specs.Looks.{packed_look, look_by, marks_of, bounds_of, reached_of, Marked, Raised, Part}
use Rattle.pass_ahead.specs.declared.Marks.{Marks}
use Rattle.pass_ahead.specs.declared.Bounds.{Bounds}

-- ---- predictions

-- half of a sum, by the digits that both have and those that one has
pub halved : (a b : ℕ) → bit_and a b + bit_xor a b / 2 ≡ (a + b) / 2
halved a b = omega (arith, xor_add_and a b)

-- what is left of the three where one is dropped
kept : (rf rc rd : ℕ) (s t : Bool) → cond s rd rc + cond (s || t) rf rd ≡ rf + rc + rd - cond s rc (cond t rd rf)
kept rf rc rd true t = omega arith
kept rf rc rd false true = omega arith
kept rf rc rd false false = omega arith

pub even_made : (rf rc rb rd f c d x y z r : ℕ) (s t : Bool) → f ≡ distance rb rf → c ≡ distance rc rb → d ≡ distance rd rb → s ≡ most c f d
    → t ≡ most d f c → x ≡ cond s rd rc → y ≡ cond (s || t) rf rd → z ≡ (x + y) / 2 → r ≡ (z + rb) / 2 → r ≡ even_prediction rf rc rb rd
unfolding even_prediction
even_made rf rc rb rd f c d x y z r s t ef ec ed es et ex ey ez er =
    let turned : f ≡ distance rf rb = omega arith in
    let sum : x + y ≡ rf + rc + rd - cond s rc (cond t rd rf) = rw (ex, ey) (kept rf rc rd s t) in
    let q : r ≡ (rf + rc + rd - cond s rc (cond t rd rf) + 2 * rb) / 4 = omega arith in
    q ∙ rw (es, et, turned, ec, ed)

-- ---- levels

-- above n is at n + 1 or more
above : (n m : ℕ) → ltb n m ≡ leb (n + 1) m
above n m = split (n + 1) m (λ h. rw (lt-ltb n m (omega arith), le-leb (n + 1) m h)) (λ h. rw (le-ltb n m (omega arith), lt-leb (n + 1) m h))

pub level_counted : (used m a b c d : ℕ) (t : Marks) → Marked used t m → a ≡ flag (ltb used m) → b ≡ flag (ltb t.second m) → c ≡ flag (ltb t.third m)
    → d ≡ flag (ltb t.fourth m) → a + b + c + d ≡ level_size used m
level_counted used m a b c d t h ea eb ec ed =
    rw (ea, eb, ec, ed, h.0, h.1, h.2, above used m) (level_count used m)

-- the marks of a base serve it
pub own_marks : (q m : ℕ) → Marked q (marks_of q) m
own_marks q m =
    let two : 3 * q + 18 ≡ 3 * q + 17 + 1 = omega arith in
    let three : 5 * q + 67 ≡ 5 * q + 66 + 1 = omega arith in
    let four : 7 * q + 276 ≡ 7 * q + 275 + 1 = omega arith in
    (rw two (above (3 * q + 17) m), rw three (above (5 * q + 66) m), rw four (above (7 * q + 275) m))

-- and small differences by any base
small_marks : (q used m : ℕ) → m ≤ 7 → Marked used (marks_of q) m
small_marks q used m h = (
  rw (le-ltb (3 * q + 17) m (omega arith), lt-leb (3 * used + 18) m (omega arith)),
  rw (le-ltb (5 * q + 66) m (omega arith), lt-leb (5 * used + 67) m (omega arith)),
  rw (le-ltb (7 * q + 275) m (omega arith), lt-leb (7 * used + 276) m (omega arith)),
)

-- so they serve a sample by the base that it uses
pub used_marks : (q f m c used : ℕ) (t : Marks) → t ≡ marks_of q → c ≡ choice_of q f → used ≡ used_base q c → m ≤ f → Marked used t m
used_marks q f m c used t et ec eu h =
    choice_cases q f
    (λ e. let z : c ≡ 0 = ec ∙ e in let same : used ≡ q = eu ∙ rw z in rw (et, same) (own_marks q m))
    (λ i e l s. rw et (small_marks q used m (omega arith)))

pub below : (used a b s : ℕ) → a < b → s ≡ level_size used (distance a b) → s ≤ 4 → Raised used (minus a b) (4 - s)
unfolding level_of
below used a b s h e le = rw (lt-ltb a b h) (omega arith)

pub not_below : (used a b s : ℕ) → b ≤ a → s ≡ level_size used (distance a b) → Raised used (minus a b) (4 + s)
unfolding level_of
not_below used a b s h e = rw (le-ltb a b h) (omega arith)

-- ---- looks

-- small differences are all that a quantiser other than the main one sees, so they need not be added up beyond 8
pub choice_near : (q a b : ℕ) → choice_of q (min 8 a + min 8 b) ≡ choice_of q (a + b)
choice_near q a b =
    split 8 (a + b)
    (λ h. no_flat q (min 8 a + min 8 b) (omega arith) ∙ sym (no_flat q (a + b) h))
    (λ h. let e : min 8 a + min 8 b ≡ a + b = omega arith in rw e)

pub choice_counted : (q f c : ℕ) (b : Bounds) → b ≡ bounds_of q → c ≡ reached_of b f → c ≡ choice_of q f
choice_counted q f c b eb ec = ec ∙ rw eb (counted q f)

place_moved : (c s : ℕ) → place_of c 0 + s ≡ place_of c s
place_moved c s = go (eqb c 0)
  where
    go : (b : Bool) → cond b 0 (36 + 5 * c + 0) + s ≡ cond b s (36 + 5 * c + s)
    go true = omega arith
    go false = omega arith

-- a look by its choice, and the gradient by that choice's base and weight
module _ (q c used w place : ℕ) (v u g : Signed) (ec : c ≡ choice_of q (v.size + u.size)) (eu : used ≡ used_base q c) (ew : w ≡ used_weight c)
    (ep : place ≡ place_of c 0) (eg : g ≡ gradient_of used w v u) where
  pub look_place : place + g.size ≡ (look_by q v u).place
  unfolding look_of
  look_place = rw (eg, ep) (place_moved c (gradient_of used w v u).size ∙ rw (eu, ew, ec))

  pub look_negative : g.negative ≡ (look_by q v u).negative
  unfolding look_of
  look_negative = rw (eg, eu, ew, ec)

  pub packed_look_lem : (r : ℕ) → r ≡ 2 * (place + g.size) + flag g.negative → r ≡ packed_look (look_by q v u)
  packed_look_lem r er = er ∙ rw (look_place, look_negative)

pub lossless_choice : (f : ℕ) → 0 ≡ choice_of 0 f
unfolding choice_of
lossless_choice f = refl

pub lossless_look : (rf rc rb x y r : ℕ) → Raised 0 (minus rb rf) x → Raised 0 (minus rc rb) y → r ≡ 2 * (0 + distance (9 * x + y) 40) + flag (ltb (9 * x + y) 40)
    → r ≡ packed_look (look_by 0 (minus rb rf) (minus rc rb))
lossless_look rf rc rb x y r ex ey er =
    let v : Signed = minus rb rf in
    let u : Signed = minus rc rb in
    packed_look_lem 0 0 0 9 0 v u (minus (9 * x + y) 40) (lossless_choice (v.size + u.size)) refl refl refl (raised 0 9 v u x y ex ey) r er

pub lossy_look : (q c used w place rf rc rb x y r : ℕ) → c ≡ choice_of q (distance rb rf + distance rc rb) → used ≡ used_base q c → w ≡ used_weight c → place ≡ place_of c 0
    → Raised used (minus rb rf) x → Raised used (minus rc rb) y → r ≡ 2 * (place + distance (w * x + y) (4 * w + 4)) + flag (ltb (w * x + y) (4 * w + 4))
    → r ≡ packed_look (look_by q (minus rb rf) (minus rc rb))
lossy_look q c used w place rf rc rb x y r ec eu ew ep ex ey er =
    let v : Signed = minus rb rf in
    let u : Signed = minus rc rb in
    packed_look_lem q c used w place v u (minus (w * x + y) (4 * w + 4)) ec eu ew ep (raised used w v u x y ex ey) r er

-- ---- parts

flat_level : (i m : ℕ) → 1 ≤ i → m ≤ 7 → level_size (i - 1) m ≡ flag (leb i m)
unfolding level_size
flat_level i m h k =
    split i m
    (λ a. rw (lt-leb m (i - 1) (omega arith), lt-ltb m (3 * (i - 1) + 18) (omega arith), le-leb i m a))
    (λ a. rw (le-leb m (i - 1) (omega arith), lt-leb i m a))

pub flat_below : (i a b s : ℕ) → 1 ≤ i → a < b → s ≡ flag (leb i (distance a b)) → s ≤ 1 → distance a b ≤ 7 → Part 3 (i - 1) (minus a b) (36 - 3 * s)
unfolding level_of
flat_below i a b s hi h e l k = let f = flat_level i (distance a b) hi k in rw (lt-ltb a b h, f, ← e) (omega arith)

pub flat_not_below : (i a b s : ℕ) → 1 ≤ i → b ≤ a → s ≡ flag (leb i (distance a b)) → distance a b ≤ 7 → Part 3 (i - 1) (minus a b) (36 + 3 * s)
unfolding level_of
flat_not_below i a b s hi h e k = let f = flat_level i (distance a b) hi k in rw (le-ltb a b h, f, ← e) (omega arith)

pub nine_raised : (q r : ℕ) (v : Signed) → Raised q v r → Part 9 q v (9 * r)
nine_raised q r v e = omega (arith, e)

pub even_look : (q rf rc rb rd r : ℕ) → r ≡ packed_look (look_by q (minus rb rf) (minus rc rb)) → r ≡ packed_look (look_of q (even_context rf rc rb rd))
unfolding look_of even_context
even_look q rf rc rb rd r e = e

-- marks and bounds of a base, named by what they hold
pub by_own : (q : ℕ) (t : Marks) (b : Bounds) → t ≡ marks_of q → b ≡ bounds_of q → (t ≡ marks_of t.base) × (b ≡ bounds_of t.base)
by_own q t b et eb = rw et (refl, eb)

pub look_based : (q rf rc rb rd r : ℕ) (t : Marks) → t ≡ marks_of q → r ≡ packed_look (look_by t.base (minus rb rf) (minus rc rb)) → r ≡ packed_look (look_of q (even_context rf rc rb rd))
look_based q rf rc rb rd r t et e = even_look q rf rc rb rd r (rw et at e)
