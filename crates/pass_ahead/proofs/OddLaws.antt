-- Odd positions: what the line above gives, and the samples beside, give the context. Assumes nothing.
use mathlib.Core.Bool.{Bool, true, false, cond}
use mathlib.Core.List.{List}
use mathlib.Core.Path.{◌≡◌, refl, sym, ap, subst, ◌∙◌}
use Prim.Native.Nat.{ℕ, suc, ◌+◌, ◌-◌, ◌*◌, ◌/◌, ◌^◌, ◌≤◌, ◌<◌, min}
use native.Mathlib.Omega.{arith}
use lib.Dec.{eqb}
use lib.ListN.{get_or}
use borrow.Author.Tests.{ne_eqb}
use Rattle.numbers.specs.Numbers.{minus, up, down, flag}
use Rattle.numbers.specs.declared.Signed.{Signed}
use Rattle.numbers.proofs.OrderLaws.{split}
use Rattle.quantiser.specs.Inside.{thresholds_of, Serves}
use Rattle.quantiser.specs.Quantisers.{level_of, gradient_of}
use Rattle.quantiser.specs.declared.Thresholds.{Thresholds}
use Rattle.quantiser.proofs.GradientLaws.{minus_moved}
use Rattle.prediction.specs.Predictions.{extreme, odd_prediction, odd_context}
use Rattle.prediction.specs.declared.Context.{Context}
use Rattle.code.specs.Samples.{choice_of}
use Rattle.pass_steps.specs.Contexts.{used_base, used_weight, place_of, look_of}
use Rattle.pass_steps.specs.Values.{odd_at}
use Rattle.pass_steps.proofs.LookLaws.{choice_cases, no_flat, thresholds_for, serves}
use Rattle.pass_ahead.specs.Looks.{look_by, Raised, Part}
use Rattle.pass_ahead.specs.Odds.{rc_at, rb_at, rd_at, Beyond, Parts, Upper, Continued, Aimed, AimsAt, LossyAims, ByFlatness}
use Rattle.pass_ahead.specs.declared.Aim.{Aim}
use Rattle.pass_ahead.proofs.LookLaws.{look_place, look_negative, lossless_choice}

pub odd_predicted : (ra rg rb rc rd b t r : ℕ) → Beyond rb rc rd b t → r ≡ (ra + rg + 2 * b) / 2 ^ t → r ≡ odd_prediction ra rg rb rc rd
unfolding odd_prediction
odd_predicted ra rg rb rc rd b t r e er = er ∙ rw (e.0, e.1) (go (extreme rb rc rd))
  where
    go : (x : Bool) → (ra + rg + 2 * cond x rb 0) / 2 ^ (1 + flag x) ≡ cond x ((ra + rg + 2 * rb) / 4) ((ra + rg) / 2)
    go true = refl
    go false = omega arith

-- it has 16 bits
pub odd_small : (ra rg rb rc rd b t x y r : ℕ) → Beyond rb rc rd b t → ra < 2 ^ 16 → rg < 2 ^ 16 → x < 2 ^ 16 → x ≡ b → y ≡ t → r ≡ (ra + rg + 2 * x) / 2 ^ y
    → r < 2 ^ 16
odd_small ra rg rb rc rd b t x y r e ha hg hx ex ey er = go (extreme rb rc rd) (ex ∙ e.0) (ey ∙ e.1)
  where
    go : (z : Bool) → x ≡ cond z rb 0 → y ≡ 1 + flag z → r < 2 ^ 16
    go true fx fy = let f : 2 ^ y ≡ 4 = rw fy refl in let g = rw f at er in omega arith
    go false fx fy = let f : 2 ^ y ≡ 2 = rw fy refl in let g = rw f at er in omega arith

-- a part and a raised level make the gradient, raised by 40
pub continued : (used part y : ℕ) (u g : Signed) → Raised used u y → g ≡ minus (part + y) 40 → Continued used part u g
unfolding gradient_of
continued used part y u g ey eg weight v p =
    let a : Signed = level_of used v in
    eg ∙ minus_moved (part + y) 40 (weight * up a + up (level_of used u)) (weight * down a + down (level_of used u)) (omega arith)

pub aimed : (used part first slot flip : ℕ) (u g : Signed) → Continued used part u g → slot ≡ first + g.size → flip ≡ flag g.negative
    → Aimed used part first u (record { slot = slot; flip = flip })
aimed used part first slot flip u g e es ef weight v p =
    let eg = e weight v p in
    (es ∙ ap (λ (x : Signed). first + x.size) eg, ef ∙ ap (λ (x : Signed). flag x.negative) eg)

-- which is that of the look, where its quantiser is the one that is chosen
aims : (q c used w place part : ℕ) (v u : Signed) (r : Aim) → c ≡ choice_of q (v.size + u.size) → used ≡ used_base q c → w ≡ used_weight c → place ≡ place_of c 0
    → Part w used v part → Aimed used part (56 + place) u r → AimsAt (look_by q v u) r
aims q c used w place part v u r ec eu ew ep p a =
    let g : Signed = gradient_of used w v u in
    let x = a w v p in
    let l : place + g.size ≡ (look_by q v u).place = look_place q c used w place v u g ec eu ew ep refl in
    (omega (arith, x.0, l), x.1 ∙ ap flag (look_negative q c used w place v u g ec eu ew ep refl))

pub lossless_aims : (q part first : ℕ) (v u : Signed) (r : Aim) → q ≡ 0 → first ≡ 56 → Part 9 q v part → Aimed 0 part first u r → AimsAt (look_by q v u) r
lossless_aims q part first v u r z f p a =
    rw z (aims 0 0 0 9 0 part v u r (lossless_choice (v.size + u.size)) refl refl refl (rw z at p) (rw f at a))

-- the choice by a flatness of which no part is counted beyond 8
near_choice : (q a b : ℕ) → choice_of q (min 8 (min 8 a + b)) ≡ choice_of q (a + b)
near_choice q a b =
    split 8 (a + b)
    (λ h. no_flat q (min 8 (min 8 a + b)) (omega arith) ∙ sym (no_flat q (a + b) h))
    (λ h. let e : min 8 (min 8 a + b) ≡ a + b = omega arith in rw e)

capped_choice : (q f : ℕ) → choice_of q (min 8 f) ≡ choice_of q f
capped_choice q f =
    split 8 f
    (λ h. no_flat q (min 8 f) (omega arith) ∙ sym (no_flat q f h))
    (λ h. let e : min 8 f ≡ f = omega arith in rw e)

-- the thresholds of the line's base, with the base that is used, serve the second difference
pub capped_serves : (q size d j used : ℕ) (t : Thresholds) → j ≡ min 8 (size + d) → used ≡ used_base q (choice_of q j) → t ≡ thresholds_for q used → Serves t d
capped_serves q size d j used t ej eu et =
    let x : Context = record { prediction = 0; first = record { negative = false; size = size }; second = record { negative = false; size = d } } in
    let c = capped_choice q (size + d) in
    rw (et, eu, ej, c) (serves q d x (omega arith))

choice_small : (q f c : ℕ) → c ≡ choice_of q f → c ≤ 3
choice_small q f c e = choice_cases q f (λ z. omega arith) (λ i z l h. omega arith)

-- rows of the parts, and where their quantisers' records begin, fit their arrays
pub rows_fit : (q j : ℕ) (l : List ℕ) → ByFlatness q l → j ≤ 8 → q < 256
    → (get_or l j 0 ≤ 336) × (get_or l (9 + j) 0 < 2 ^ 16) × (get_or l (18 + j) 0 < 256)
rows_fit q j l t h s =
    let c : ℕ = choice_of q j in
    let m : c ≤ 3 = choice_small q j c refl in
    (omega (arith, t.row j h), omega (arith, t.first j h, place_small c m), omega (arith, t.base j h, base_small c m))
  where
    place_small : (c : ℕ) → c ≤ 3 → place_of c 0 ≤ 51
    place_small c l = go (eqb c 0)
      where
        go : (b : Bool) → cond b 0 (36 + 5 * c + 0) ≤ 51
        go true = omega arith
        go false = omega arith

    base_small : (c : ℕ) → c ≤ 3 → used_base q c < 256
    base_small c l = go (eqb c 0)
      where
        go : (b : Bool) → cond b q (c - 1) < 256
        go true = s
        go false = omega arith

pub lossy_aims : (q h size j part used : ℕ) (flats parts : List ℕ) (u : Signed) (r : Aim) → ByFlatness q flats → j ≡ min 8 (size + u.size)
    → part ≡ get_or parts (get_or flats j 0 + h) 0 → used ≡ get_or flats (18 + j) 0 → Aimed used part (get_or flats (9 + j) 0) u r → LossyAims q parts h size u r
lossy_aims q h size j part used flats parts u r t ej ep eu a v p es =
    let le : j ≤ 8 = omega arith in
    let ec : choice_of q j ≡ choice_of q (v.size + u.size) = rw (ej, es) (near_choice q v.size u.size) in
    let b : Aimed (used_base q (choice_of q j)) part (56 + place_of (choice_of q j) 0) u r = rw (eu, t.first j le, t.base j le) at a in
    choice_cases q j
    (λ z.
    let row : get_or flats j 0 + h ≡ 192 + h = omega (arith, t.row j le) in
    let m : Part 9 q v part = rw (ep, row) p.main in
    aims q 0 q 9 0 part v u r (sym z ∙ ec) refl refl refl m (rw z at b))
    (λ i z l f.
    let row : get_or flats j 0 + h ≡ 240 + 48 * i + h = omega (arith, t.row j le) in
    let m : Part 3 i v part = rw (ep, row) (p.flat (omega arith) i l) in
    aims q (suc i) i 3 (place_of (suc i) 0) part v u r (sym z ∙ ec) (flat_base i) (flat_weight i) refl m (based i (rw z at b)))
  where
    flat_base : (i : ℕ) → i ≡ used_base q (suc i)
    flat_base i = rw (ne_eqb (suc i) 0 (omega arith)) (omega arith)

    flat_weight : (i : ℕ) → 3 ≡ used_weight (suc i)
    flat_weight i = rw (ne_eqb (suc i) 0 (omega arith))

    based : (i : ℕ) → Aimed (used_base q (suc i)) part (56 + place_of (suc i) 0) u r → Aimed i part (56 + place_of (suc i) 0) u r
    based i x = subst (λ (n : ℕ). Aimed n part (56 + place_of (suc i) 0) u r) (sym (flat_base i)) x

-- the parts of a line that is not lossless
pub upper_parts : (q h : ℕ) (v : Signed) (l : List ℕ) → 1 ≤ q → Upper q v l h → Parts q v l h
upper_parts q h v l one x = record { main = x.main; flat = x.flat one }

-- ---- among the lines

pub beyond_small : (rb rc rd b t h : ℕ) → Beyond rb rc rd b t → h ≡ t → h < 32
beyond_small rb rc rd b t h e eh = go (extreme rb rc rd) e.1
  where
    go : (x : Bool) → t ≡ 1 + flag x → h < 32
    go true k = omega arith
    go false k = omega arith

pub predicted_at : (lines : List ℕ) (S i b t ra rg x y r : ℕ) → ra ≡ get_or lines i 0 → rg ≡ get_or lines (i + 2) 0 → x ≡ b → y ≡ t
    → Beyond (rb_at lines S i) (rc_at lines S i) (rd_at lines S i) b t → r ≡ (ra + rg + 2 * x) / 2 ^ y → r ≡ (odd_at lines S i).prediction
unfolding odd_at odd_context
predicted_at lines S i b t ra rg x y r ea eg ex ey h er =
    odd_predicted (get_or lines i 0) (get_or lines (i + 2) 0) (rb_at lines S i) (rc_at lines S i) (rd_at lines S i) b t r h (er ∙ rw (ea, eg, ex, ey))

look_at : (q S i : ℕ) (lines : List ℕ) → look_of q (odd_at lines S i) ≡ look_by q (minus (rb_at lines S i) (rc_at lines S i)) (minus (rc_at lines S i) (get_or lines i 0))
unfolding look_of odd_at odd_context
look_at q S i lines = refl

pub own_serves : (q m : ℕ) (t : Thresholds) → t ≡ thresholds_of q → Serves t m
own_serves q m t e = rw e (refl, refl, refl, omega arith, omega arith, omega arith)

module _ (q S i h : ℕ) (lines l : List ℕ) (ra rc : ℕ) (r : Aim) (ea : ra ≡ get_or lines i 0) (ec : rc ≡ rc_at lines S i)
    (up : Upper q (minus (rb_at lines S i) (rc_at lines S i)) l h) where
  pub aims_lossless_at : (used part : ℕ) → q ≡ 0 → used ≡ 0 → part ≡ get_or l (192 + h) 0 → Aimed used part 56 (minus rc ra) r → AimsAt (look_of q (odd_at lines S i)) r
  aims_lossless_at used part z eu ep a =
      let b : Aimed 0 part 56 (minus (rc_at lines S i) (get_or lines i 0)) r = rw (eu, ec, ea) at a in
      rw (look_at q S i lines) (lossless_aims q part 56 _ _ r z refl (rw ep up.main) b)

  pub aims_lossy_at : (size : ℕ) → (q ≡ 0 → ⊥) → size ≡ get_or l (384 + h) 0 → LossyAims q l h size (minus rc ra) r → AimsAt (look_of q (odd_at lines S i)) r
  aims_lossy_at size nz es a =
      let one : 1 ≤ q = omega (arith, nz) in
      let b : LossyAims q l h size (minus (rc_at lines S i) (get_or lines i 0)) r = rw (ec, ea) at a in
      rw (look_at q S i lines) (b _ (upper_parts q h _ l one up) (es ∙ up.size one))
