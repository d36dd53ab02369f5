-- What is filled in is of the line's positions. Assumes nothing.
use mathlib.Core.List.{List}
use mathlib.Core.Path.{◌≡◌, refl, ap, ◌∙◌}
use Prim.Native.Nat.{ℕ, zero, suc, ◌+◌, ◌-◌, ◌*◌, ◌≤◌, ◌<◌}
use native.Mathlib.Nat.{mul-le-mul_right, add-mul}
use native.Mathlib.Omega.{arith}
use lib.ListN.{get_or}
use Rattle.numbers.specs.Numbers.{minus}
use Rattle.numbers.specs.declared.Signed.{Signed}
use Rattle.prediction.specs.Predictions.{even_prediction, even_context}
use Rattle.prediction.specs.declared.Context.{Context}
use Rattle.pass_steps.specs.Contexts.{look_of}
use Rattle.pass_steps.specs.Values.{even_at}
use Rattle.pass_ahead.specs.Looks.{packed_look, Part}
use Rattle.pass_ahead.specs.Odds.{rc_at, rb_at, rd_at, Beyond}
use Rattle.pass_ahead.specs.Arrays.{Filled, Second, After, BeyondAhead, HalvingAhead, AheadRow, Rows, left_at, EvenHere, OddHere, Ahead}

-- a line has two above it, and ends within the lines
pub placed : (w line len : ℕ) → 2 ≤ line → (line + 1) * (w + 2) ≤ len → (2 * (w + 2) ≤ line * (w + 2)) × (line * (w + 2) + (w + 2) ≤ len)
placed w line len h k =
    let e : (line + 1) * (w + 2) ≡ line * (w + 2) + 1 * (w + 2) = add-mul line 1 (w + 2) in
    (mul-le-mul_right (w + 2) h, omega (arith, e, k))

less : {x y : ℕ} (d : ℕ) → x + d ≡ y → x ≡ y - d
less d e = omega arith

three : (h : ℕ) (v : Signed) (l : List ℕ) → Part 3 0 v (get_or l (240 + h) 0) → Part 3 1 v (get_or l (288 + h) 0) → Part 3 2 v (get_or l (336 + h) 0)
    → (i : ℕ) → i < 3 → Part 3 i v (get_or l (240 + 48 * i + h) 0)
three h v l a b c zero lt = a
three h v l a b c (suc zero) lt = b
three h v l a b c (suc (suc zero)) lt = c
three h v l a b c (suc (suc (suc i))) lt = absurd (omega arith)

module _ (w line c n from top : ℕ) (lines odds evens : List ℕ) (low : 2 * (w + 2) ≤ line * (w + 2)) (wide : 8 ≤ w)
    (ef : from + 8 + (w + 2) ≡ line * (w + 2) + c) (et : top + 2 * (w + 2) ≡ line * (w + 2) + c + 1)
    (fo : Filled 56 (Second lines from) (n + 5) odds) (fe : Filled 56 (After lines from) (n + 5) evens) where
  -- the places among the lines
  rf_at : (h : ℕ) → top + 2 * h ≡ left_at w line (c + 2 * h) + 1 - 2 * (w + 2)
  rf_at h = less (2 * (w + 2)) (omega arith)

  rc_at_lem : (h : ℕ) → from + 2 * (h + 4) ≡ left_at w line (c + 2 * h) - (w + 2)
  rc_at_lem h = less (w + 2) (omega arith)

  rb_at_lem : (h : ℕ) → from + 2 * (h + 4) + 1 ≡ left_at w line (c + 2 * h) + 1 - (w + 2)
  rb_at_lem h = less (w + 2) (omega arith)

  rd_at_lem : (h : ℕ) → from + 2 * (h + 5) ≡ left_at w line (c + 2 * h) + 2 - (w + 2)
  rd_at_lem h = less (w + 2) (omega arith)

  module _ (tops : List ℕ) (ft : Filled 56 (Second lines top) n tops) where
    context_is : (h : ℕ) → h < n
        → even_context (get_or tops h 0) (get_or odds (h + 4) 0) (get_or evens (h + 4) 0) (get_or odds (h + 5) 0) ≡ even_at lines (w + 2) (left_at w line (c + 2 * h))
    unfolding even_at
    context_is h lt =
        rw (ft.each h lt, fo.each (h + 4) (omega arith), fe.each (h + 4) (omega arith), fo.each (h + 5) (omega arith), rf_at h, rb_at_lem h, rc_at_lem h, rd_at_lem h)

    prediction_is : (rf rc rb rd : ℕ) → even_prediction rf rc rb rd ≡ (even_context rf rc rb rd).prediction
    unfolding even_context
    prediction_is rf rc rb rd = refl

    pub even_here : (q rows h : ℕ) (l : List ℕ) → 5 ≤ rows → Rows (AheadRow q odds evens tops) rows n l → h < n → EvenHere q w lines line (c + 2 * h) h l
    even_here q rows h l five r lt =
        let z : 48 * 0 + h ≡ h = omega arith in
        record {
          prediction = (rw z at (r.each 0 h (omega arith) lt)) ∙ prediction_is _ _ _ _ ∙ ap (λ (x : Context). x.prediction) (context_is h lt);
          look = r.each 1 h (omega arith) lt ∙ ap (λ (x : Context). packed_look (look_of q x)) (context_is h lt);
        }

  module _ (h : ℕ) (lt : h < n) (far : 8 ≤ c + 2 * h) (tops : List ℕ) where
    abbrev i : ℕ
    i = left_at w line (c + 2 * h - 7)

    rb_is : get_or odds (h + 1) 0 ≡ rb_at lines (w + 2) i
    rb_is = let e : from + 2 * (h + 1) ≡ i + 1 - (w + 2) = less (w + 2) (omega arith) in fo.each (h + 1) (omega arith) ∙ rw e

    rc_is : get_or evens h 0 ≡ rc_at lines (w + 2) i
    rc_is = let e : from + 2 * h + 1 ≡ i - (w + 2) = less (w + 2) (omega arith) in fe.each h (omega arith) ∙ rw e

    rd_is : get_or evens (h + 1) 0 ≡ rd_at lines (w + 2) i
    rd_is = let e : from + 2 * (h + 1) + 1 ≡ i + 2 - (w + 2) = less (w + 2) (omega arith) in fe.each (h + 1) (omega arith) ∙ rw e

    beyond_is : (b t : ℕ) → BeyondAhead odds evens h b → HalvingAhead odds evens h t → Beyond (rb_at lines (w + 2) i) (rc_at lines (w + 2) i) (rd_at lines (w + 2) i) b t
    beyond_is b t eb et = (rw (rb_is, rc_is, rd_is) at eb, rw (rb_is, rc_is, rd_is) at et)

    pub lossless_here : (l : List ℕ) → Rows (AheadRow 0 odds evens tops) 5 n l → OddHere 0 w lines line (c + 2 * h - 7) h l
    lossless_here l r =
        record {
          prediction = beyond_is _ _ (r.each 2 h (omega arith) lt) (r.each 3 h (omega arith) lt);
          gradient = record {
            main = rw (rb_is, rc_is) at (r.each 4 h (omega arith) lt);
            flat = λ one. absurd (omega arith);
            size = λ one. absurd (omega arith);
          };
        }

    pub lossy_here : (q : ℕ) (l : List ℕ) → Rows (AheadRow q odds evens tops) 9 n l → OddHere q w lines line (c + 2 * h - 7) h l
    lossy_here q l r =
        record {
          prediction = beyond_is _ _ (r.each 2 h (omega arith) lt) (r.each 3 h (omega arith) lt);
          gradient = record {
            main = rw (rb_is, rc_is) at (r.each 4 h (omega arith) lt);
            flat = λ one small.
                three h (minus (rb_at lines (w + 2) i) (rc_at lines (w + 2) i)) l ((rw (rb_is, rc_is) at (r.each 5 h (omega arith) lt)) small)
                ((rw (rb_is, rc_is) at (r.each 6 h (omega arith) lt)) small) ((rw (rb_is, rc_is) at (r.each 7 h (omega arith) lt)) small);
            size = λ one. rw (rb_is, rc_is) at (r.each 8 h (omega arith) lt);
          };
        }

  pub lossless_ahead : (tops l : List ℕ) → Filled 56 (Second lines top) n tops → Rows (AheadRow 0 odds evens tops) 5 n l → Ahead 0 w lines line c n l
  lossless_ahead tops l ft r =
      record { evens = λ h lt inside. even_here tops ft 0 5 h l (omega arith) r lt; odds = λ h lt far. lossless_here h lt far tops l r }

  pub lossy_ahead : (q : ℕ) (tops l : List ℕ) → Filled 56 (Second lines top) n tops → Rows (AheadRow q odds evens tops) 9 n l → Ahead q w lines line c n l
  lossy_ahead q tops l ft r =
      record { evens = λ h lt inside. even_here tops ft q 9 h l (omega arith) r lt; odds = λ h lt far. lossy_here h lt far tops q l r }

-- ---- what is known ahead reads the two lines above alone: where these stay, it stays
module _ (q W line : ℕ) (lines new : List ℕ) (two : 2 ≤ line)
    (same : (j : ℕ) → (line - 2) * (W + 2) ≤ j → j < line * (W + 2) → get_or new j 0 ≡ get_or lines j 0) where
  begins : line * (W + 2) ≡ (line - 2) * (W + 2) + 2 * (W + 2)
  begins = let e : line ≡ line - 2 + 2 = omega arith in ap (λ (m : ℕ). m * (W + 2)) e ∙ add-mul (line - 2) 2 (W + 2)

  one_up : (j x : ℕ) → j + (W + 2) ≡ line * (W + 2) + x → x < W + 2 → get_or new j 0 ≡ get_or lines j 0
  one_up j x e h = let b = begins in same j (omega (arith, b, e)) (omega (arith, b, e))

  two_up : (j x : ℕ) → j + 2 * (W + 2) ≡ line * (W + 2) + x → x < W + 2 → get_or new j 0 ≡ get_or lines j 0
  two_up j x e h = let b = begins in same j (omega (arith, b, e)) (omega (arith, b, e))

  -- a place before another, and the way back
  more : {x y : ℕ} (d : ℕ) → d ≤ y → x ≡ y - d → x + d ≡ y
  more d h e = omega arith

  line_long : 2 * (W + 2) ≤ line * (W + 2)
  line_long = mul-le-mul_right (W + 2) two

  rc_kept : (p : ℕ) → p < W → rc_at new (W + 2) (left_at W line p) ≡ rc_at lines (W + 2) (left_at W line p)
  rc_kept p h = let l = line_long in one_up _ p (more (W + 2) (omega (arith, l)) refl) (omega arith)

  rb_kept : (p : ℕ) → p < W → rb_at new (W + 2) (left_at W line p) ≡ rb_at lines (W + 2) (left_at W line p)
  rb_kept p h = let l = line_long in one_up _ (p + 1) (more (W + 2) (omega (arith, l)) refl ∙ omega arith) (omega arith)

  rd_kept : (p : ℕ) → p < W → rd_at new (W + 2) (left_at W line p) ≡ rd_at lines (W + 2) (left_at W line p)
  rd_kept p h = let l = line_long in one_up _ (p + 2) (more (W + 2) (omega (arith, l)) refl ∙ omega arith) (omega arith)

  rf_kept : (p : ℕ) → p < W → get_or new (left_at W line p + 1 - 2 * (W + 2)) 0 ≡ get_or lines (left_at W line p + 1 - 2 * (W + 2)) 0
  rf_kept p h = let l = line_long in two_up _ (p + 1) (more (2 * (W + 2)) (omega (arith, l)) refl ∙ omega arith) (omega arith)

  even_kept : (p : ℕ) → p < W → even_at lines (W + 2) (left_at W line p) ≡ even_at new (W + 2) (left_at W line p)
  unfolding even_at
  even_kept p h = rw (rf_kept p h, rc_kept p h, rb_kept p h, rd_kept p h)

  pub even_here_kept : (p h : ℕ) (l : List ℕ) → p < W → EvenHere q W lines line p h l → EvenHere q W new line p h l
  even_here_kept p h l inside e =
      record {
        prediction = e.prediction ∙ ap (λ (x : Context). x.prediction) (even_kept p inside);
        look = e.look ∙ ap (λ (x : Context). packed_look (look_of q x)) (even_kept p inside);
      }

  pub odd_here_kept : (p h : ℕ) (l : List ℕ) → p < W → OddHere q W lines line p h l → OddHere q W new line p h l
  odd_here_kept p h l inside e =
      record {
        prediction = rw (rb_kept p inside, rc_kept p inside, rd_kept p inside) e.prediction;
        gradient = rw (rb_kept p inside, rc_kept p inside) e.gradient;
      }

  pub ahead_kept : (c n : ℕ) (l : List ℕ) → c + 2 * n ≤ W + 8 → Ahead q W lines line c n l → Ahead q W new line c n l
  ahead_kept c n l most a =
      record {
        evens = λ h lt inside. even_here_kept (c + 2 * h) h l inside (a.evens h lt inside);
        odds = λ h lt far. odd_here_kept (c + 2 * h - 7) h l (omega arith) (a.odds h lt far);
      }
