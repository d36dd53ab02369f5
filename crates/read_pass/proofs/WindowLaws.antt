-- A pass goes by the two lines above each of its lines, wherever these stand: two readings that agree there end alike, with the same samples in
-- the lines of the pass. Assumes nothing.
use mathlib.Core.Bool.{Bool, true, false, cond}
use mathlib.Core.List.{List, [], ◌∷◌}
use mathlib.Core.Logic.{◌≢◌}
use mathlib.Core.Path.{◌≡◌, refl, sym, ◌∙◌}
use Prim.Native.Nat.{ℕ, zero, suc, ◌+◌, ◌-◌, ◌*◌, ◌/◌, ◌%◌, ◌≤◌, ◌<◌}
use native.Mathlib.Omega.{arith}
use borrow.Author.Tests.{eq-eqb, ne_eqb, eqb-true, eqb-false, lt-ltb, le-ltb, le-leb, lt-leb}
use lib.Dec.{eqb, ltb, leb}
use lib.ListN.{length, get_or, set, length-set}
use lib.Seq.{get_or-set_same, get_or-set_other}
use Rattle.numbers.proofs.OrderLaws.{split}
use Rattle.prediction.specs.declared.Context.{Context}
use Rattle.pass_schedule.specs.Steps.{Step, step_at, even_steps, odd_steps, turn_steps, upto, pass_steps}
use Rattle.pass_steps.specs.Contexts.{context_in, look_of, slot_of, step_context}
use Rattle.pass_steps.specs.Values.{even_at, odd_at, context_at}
use Rattle.pass_schedule.specs.declared.Plan.{Plan}
use Rattle.pass_steps.specs.declared.Look.{Look}
use Rattle.pass_steps.proofs.ContextLaws.{context_is}
use Rattle.read_pass.specs.Readings.{Reading, interpolate, taken, code_of, read_step, and_then, reads, read_pass}
use Rattle.read_pass.specs.Windows.{placed}
use Rattle.read_pass.proofs.StepLaws.{reads_append}
use Rattle.std.specs.Prelude.{None, Some, Option}
use Rattle.code.specs.declared.Code.{Code}

-- ---- two outcomes

-- both are cut off, or both go on, with readings that R holds of
abbrev pub Alike : (Reading → Reading → Type 0) → Option Reading → Option Reading → Type 0
Alike R None None = Unit {0}
Alike R None (Some y) = ⊥
Alike R (Some x) None = ⊥
Alike R (Some x) (Some y) = R x y

alike_then : (R Q : Reading → Reading → Type 0) (o o' : Option Reading) (f f' : Reading → Option Reading)
    → Alike R o o' → ((x y : Reading) → R x y → Alike Q (f x) (f' y)) → Alike Q (and_then o f) (and_then o' f')
unfolding and_then
alike_then R Q None None f f' a k = tt
alike_then R Q None (Some y) f f' a k = absurd a
alike_then R Q (Some x) None f f' a k = absurd a
alike_then R Q (Some x) (Some y) f f' a k = k x y a

alike_weaker : (R Q : Reading → Reading → Type 0) (o o' : Option Reading) → Alike R o o' → ((x y : Reading) → R x y → Q x y) → Alike Q o o'
alike_weaker R Q None None a k = tt
alike_weaker R Q None (Some y) a k = absurd a
alike_weaker R Q (Some x) None a k = absurd a
alike_weaker R Q (Some x) (Some y) a k = k x y a

-- with what each of them is
pub alike_with : (R Q : Reading → Reading → Type 0) (o o' : Option Reading) → Alike R o o' → ((x y : Reading) → o ≡ Some x → o' ≡ Some y → R x y → Q x y)
    → Alike Q o o'
alike_with R Q None None a k = tt
alike_with R Q None (Some y) a k = absurd a
alike_with R Q (Some x) None a k = absurd a
alike_with R Q (Some x) (Some y) a k = k x y refl refl a

pub alike_same : (Q : Reading → Reading → Type 0) (o : Option Reading) → ((x : Reading) → o ≡ Some x → Q x x) → Alike Q o o
alike_same Q None k = tt
alike_same Q (Some x) k = k x refl

-- by the second of them
pub alike_none : (R : Reading → Reading → Type 0) (o o' : Option Reading) → Alike R o o' → o' ≡ None → o ≡ None
alike_none R None o' a e = refl
alike_none R (Some x) o' a e = absurd (rw e at a)

pub alike_some : (R : Reading → Reading → Type 0) (o o' : Option Reading) (y : Reading) → Alike R o o' → o' ≡ Some y → (x : Reading) × (o ≡ Some x) × R x y
alike_some R None o' y a e = absurd (rw e at a)
alike_some R (Some x) o' y a e = (x, refl, rw e at a)

-- ---- one step

-- one sample more in each, the same one, and else the same
pub record Put (i i' : ℕ) (r r' z z' : Reading) : Type 0 where
  pub value : ℕ
  pub lines : z.lines ≡ set r.lines (i + 1) value
  pub lines' : z'.lines ≡ set r'.lines (i' + 1) value
  pub sets : z.set ≡ z'.set
  pub ats : z.at ≡ z'.at
  pub tights : z.tight ≡ z'.tight
  pub longs : z.long ≡ z'.long

module _ (bits q W : ℕ) (s : List ℕ) (L L' p : ℕ) (coded : Bool) (r r' : Reading) (es : r.set ≡ r'.set) (ea : r.at ≡ r'.at) (et : r.tight ≡ r'.tight)
    (el : r.long ≡ r'.long)
    (ex : step_context W (step_at L p coded) r.lines ≡ step_context W (step_at L' p coded) r'.lines) where
  -- what a code makes of both
  code_alike : (b : Bool) (g : Option Code) (i i' slot : ℕ) (c : Context) (h : Look)
      → Alike (Put i i' r r') (cond b (taken bits q i slot c h r g) (Some (interpolate i c r)))
      (cond b (taken bits q i' slot c h r' g) (Some (interpolate i' c r')))
  code_alike true None i i' slot c h = tt
  code_alike true (Some d) i i' slot c h =
      record { value = _; lines = refl; lines' = refl; sets = rw es; ats = refl; tights = rw et; longs = rw el }
  code_alike false g i i' slot c h =
      record { value = _; lines = refl; lines' = refl; sets = es; ats = ea; tights = et; longs = el }

  same_code : (slot : ℕ) (h : Look) → code_of bits q s slot h r ≡ code_of bits q s slot h r'
  same_code slot h = rw (es, ea)

  pub step_alike : Alike (Put (L * (W + 2) + p) (L' * (W + 2) + p) r r') (read_step bits q W s (step_at L p coded) r) (read_step bits q W s (step_at L' p coded) r')
  unfolding read_step
  step_alike =
      let c : Context = step_context W (step_at L' p coded) r'.lines in
      let h : Look = look_of q c in
      let slot : ℕ = slot_of p h.place in
      rw (ex, same_code slot h) (code_alike coded (code_of bits q s slot h r') (L * (W + 2) + p) (L' * (W + 2) + p) slot c h)

-- ---- the lines that a line of a pass goes by

-- entry d from where the line two above begins
abbrev Same : ℕ → ℕ → List ℕ → List ℕ → ℕ → Type 0
Same b b' l l' d = get_or l (b + d) 0 ≡ get_or l' (b' + d) 0

-- in both lists, from b and from b' on, stand the line two above, the one above, and the line itself, of which the even positions below e, the odd ones
-- below o, and the guards are the same
pub record Rows (W e o b b' : ℕ) (l l' : List ℕ) : Type 0 where
  pub room : b + 3 * (W + 2) ≤ length l
  pub room' : b' + 3 * (W + 2) ≤ length l'
  pub two_up : (p : ℕ) → p < W → Same b b' l l' (p + 1)
  pub one_up : (j : ℕ) → j < W + 2 → Same b b' l l' (W + 2 + j)
  pub left : Same b b' l l' (2 * (W + 2))
  pub right : Same b b' l l' (2 * (W + 2) + (W + 1))
  pub evens : (p : ℕ) → p % 2 ≡ 0 → p < e → p < W → Same b b' l l' (2 * (W + 2) + (p + 1))
  pub odds : (p : ℕ) → p % 2 ≡ 1 → p < o → p < W → Same b b' l l' (2 * (W + 2) + (p + 1))

by : {X : Type 0} (a b : ℕ) → (a ≡ b → X) → (a ≢ b → X) → X
by {X} a b f g = go (eqb a b) refl
  where
    go : (t : Bool) → eqb a b ≡ t → X
    go true e = f (eqb-true a b e)
    go false e = g (eqb-false a b e)

module _ (W e o b b' : ℕ) (l l' : List ℕ) (R : Rows W e o b b' l l') (v : ℕ) where
  -- one entry more is the same
  here : (k : ℕ) → k < 3 * (W + 2) → (d : ℕ) → (d ≢ k → Same b b' l l' d) → Same b b' (set l (b + k) v) (set l' (b' + k) v) d
  here k h d f =
      by d k
      (λ (m : d ≡ k). rw m (get_or-set_same l (b + k) v 0 (omega (arith, R.room)) ∙ sym (get_or-set_same l' (b' + k) v 0 (omega (arith, R.room')))))
      (λ (n : d ≢ k). get_or-set_other l (b + k) (b + d) v 0 (λ m. n (omega arith)) ∙ f n ∙ sym (get_or-set_other l' (b' + k) (b' + d) v 0 (λ m. n (omega arith))))

  -- an entry elsewhere changes none of these
  elsewhere : (i i' : ℕ) → ((d : ℕ) → d < 3 * (W + 2) → (b + d ≢ i) × (b' + d ≢ i')) → Rows W e o b b' (set l i v) (set l' i' v)
  elsewhere i i' out =
      record {
        room = rw length-set R.room;
        room' = rw length-set R.room';
        two_up = λ p h. keep (p + 1) (omega arith) (R.two_up p h);
        one_up = λ j h. keep (W + 2 + j) (omega arith) (R.one_up j h);
        left = keep (2 * (W + 2)) (omega arith) R.left;
        right = keep (2 * (W + 2) + (W + 1)) (omega arith) R.right;
        evens = λ p t h w. keep (2 * (W + 2) + (p + 1)) (omega arith) (R.evens p t h w);
        odds = λ p t h w. keep (2 * (W + 2) + (p + 1)) (omega arith) (R.odds p t h w);
      }
    where
      keep : (d : ℕ) → d < 3 * (W + 2) → Same b b' l l' d → Same b b' (set l i v) (set l' i' v) d
      keep d h f = get_or-set_other l i (b + d) v 0 (out d h).0 ∙ f ∙ sym (get_or-set_other l' i' (b' + d) v 0 (out d h).1)

  -- the next even position, and the next odd one
  even_more : e % 2 ≡ 0 → e < W → Rows W (e + 2) o b b' (set l (b + (2 * (W + 2) + (e + 1))) v) (set l' (b' + (2 * (W + 2) + (e + 1))) v)
  even_more te we =
      let k : ℕ = 2 * (W + 2) + (e + 1) in
      let hk : k < 3 * (W + 2) = omega arith in
      record {
        room = rw length-set R.room;
        room' = rw length-set R.room';
        two_up = λ p h. here k hk (p + 1) (λ n. R.two_up p h);
        one_up = λ j h. here k hk (W + 2 + j) (λ n. R.one_up j h);
        left = here k hk (2 * (W + 2)) (λ n. R.left);
        right = here k hk (2 * (W + 2) + (W + 1)) (λ n. R.right);
        evens = λ p t h w. here k hk (2 * (W + 2) + (p + 1)) (λ n. R.evens p t (omega (arith, n)) w);
        odds = λ p t h w. here k hk (2 * (W + 2) + (p + 1)) (λ n. R.odds p t h w);
      }

  odd_more : o % 2 ≡ 1 → o < W → Rows W e (o + 2) b b' (set l (b + (2 * (W + 2) + (o + 1))) v) (set l' (b' + (2 * (W + 2) + (o + 1))) v)
  odd_more to wo =
      let k : ℕ = 2 * (W + 2) + (o + 1) in
      let hk : k < 3 * (W + 2) = omega arith in
      record {
        room = rw length-set R.room;
        room' = rw length-set R.room';
        two_up = λ p h. here k hk (p + 1) (λ n. R.two_up p h);
        one_up = λ j h. here k hk (W + 2 + j) (λ n. R.one_up j h);
        left = here k hk (2 * (W + 2)) (λ n. R.left);
        right = here k hk (2 * (W + 2) + (W + 1)) (λ n. R.right);
        evens = λ p t h w. here k hk (2 * (W + 2) + (p + 1)) (λ n. R.evens p t h w);
        odds = λ p t h w. here k hk (2 * (W + 2) + (p + 1)) (λ n. R.odds p t (omega (arith, n)) w);
      }

-- ---- contexts

module _ (W e o b b' : ℕ) (l l' : List ℕ) (R : Rows W e o b b' l l') (p : ℕ) (w : p < W) where
  even_context_lem : p % 2 ≡ 0 → context_at l (W + 2) (b + 2 * (W + 2) + p) p ≡ context_at l' (W + 2) (b' + 2 * (W + 2) + p) p
  unfolding context_at even_at
  even_context_lem t =
      let f : (a : ℕ) → a + 2 * (W + 2) + p + 1 - 2 * (W + 2) ≡ a + (p + 1) = λ a. omega arith in
      let c : (a : ℕ) → a + 2 * (W + 2) + p - (W + 2) ≡ a + (W + 2 + p) = λ a. omega arith in
      let u : (a : ℕ) → a + 2 * (W + 2) + p + 1 - (W + 2) ≡ a + (W + 2 + (p + 1)) = λ a. omega arith in
      let d : (a : ℕ) → a + 2 * (W + 2) + p + 2 - (W + 2) ≡ a + (W + 2 + (p + 2)) = λ a. omega arith in
      rw (
        eq-eqb (p % 2) 0 t,
        f b,
        f b',
        c b,
        c b',
        u b,
        u b',
        d b,
        d b',
        R.two_up p w,
        R.one_up p (omega arith),
        R.one_up (p + 1) (omega arith),
        R.one_up (p + 2) (omega arith),
      )

  -- an odd position goes by the even ones beside it
  odd_context_lem : p % 2 ≡ 1 → ((p + 1 < W) → p + 1 < e) → p ≤ e → context_at l (W + 2) (b + 2 * (W + 2) + p) p ≡ context_at l' (W + 2) (b' + 2 * (W + 2) + p) p
  unfolding context_at odd_at
  odd_context_lem t h k =
      let a₁ : (a : ℕ) → a + 2 * (W + 2) + p ≡ a + (2 * (W + 2) + (p - 1 + 1)) = λ a. omega arith in
      let g : (a : ℕ) → a + 2 * (W + 2) + p + 2 ≡ a + (2 * (W + 2) + (p + 1 + 1)) = λ a. omega arith in
      let c : (a : ℕ) → a + 2 * (W + 2) + p - (W + 2) ≡ a + (W + 2 + p) = λ a. omega arith in
      let u : (a : ℕ) → a + 2 * (W + 2) + p + 1 - (W + 2) ≡ a + (W + 2 + (p + 1)) = λ a. omega arith in
      let d : (a : ℕ) → a + 2 * (W + 2) + p + 2 - (W + 2) ≡ a + (W + 2 + (p + 2)) = λ a. omega arith in
      let left_one : get_or l (b + 2 * (W + 2) + p) 0 ≡ get_or l' (b' + 2 * (W + 2) + p) 0 = rw (a₁ b, a₁ b')
      (R.evens (p - 1) (omega arith) (omega arith) (omega arith)) in
      let right-one : get_or l (b + 2 * (W + 2) + p + 2) 0 ≡ get_or l' (b' + 2 * (W + 2) + p + 2) 0 = rw (g b, g b') (next h) in
      rw (
        ne_eqb (p % 2) 0 (omega arith),
        c b,
        c b',
        u b,
        u b',
        d b,
        d b',
        left_one,
        right-one,
        R.one_up p (omega arith),
        R.one_up (p + 1) (omega arith),
        R.one_up (p + 2) (omega arith),
      )
    where
      next : ((p + 1 < W) → p + 1 < e) → Same b b' l l' (2 * (W + 2) + (p + 1 + 1))
      next h =
          by (p + 1) W
          (λ (m : p + 1 ≡ W). let g : 2 * (W + 2) + (p + 1 + 1) ≡ 2 * (W + 2) + (W + 1) = omega arith in rw g R.right)
          (λ (n : p + 1 ≢ W). R.evens (p + 1) (omega arith) (h (omega (arith, n))) (omega (arith, n)))

-- by lines and positions, where there are two lines above
by_places : (W L L' p : ℕ) (l l' : List ℕ) → 2 ≤ L → 2 ≤ L' → context_at l (W + 2) (L * (W + 2) + p) p ≡ context_at l' (W + 2) (L' * (W + 2) + p) p
    → context_in W l L p ≡ context_in W l' L' p
by_places W L L' p l l' h h' e = sym (context_is W L p l h refl refl) ∙ e ∙ context_is W L' p l' h' refl refl

two_above : (W b L : ℕ) → L * (W + 2) ≡ b + 2 * (W + 2) → 2 ≤ L
two_above W b zero e = absurd (omega arith)
two_above W b (suc zero) e = absurd (omega arith)
two_above W b (suc (suc n)) e = omega arith

-- rows of which as many positions are the same, counted otherwise
rows_more : {W e o f u b b' : ℕ} {l l' : List ℕ} → ((p : ℕ) → p % 2 ≡ 0 → p < f → p < W → p < e) → ((p : ℕ) → p % 2 ≡ 1 → p < u → p < W → p < o)
    → Rows W e o b b' l l' → Rows W f u b b' l l'
rows_more ev od R =
    record {
      room = R.room;
      room' = R.room';
      two_up = R.two_up;
      one_up = R.one_up;
      left = R.left;
      right = R.right;
      evens = λ p t h w. R.evens p t (ev p t h w) w;
      odds = λ p t h w. R.odds p t (od p t h w) w;
    }

-- ---- a pass

-- two readings of such passes: the lines of each begin, two above, at b and c in the one, and at b' and c' in the other
pub record Twin (W b b' c c' e o f u : ℕ) (r r' : Reading) : Type 0 where
  pub first : Rows W e o b b' r.lines r'.lines
  pub second : Rows W f u c c' r.lines r'.lines
  pub sets : r.set ≡ r'.set
  pub ats : r.at ≡ r'.at
  pub tights : r.tight ≡ r'.tight
  pub longs : r.long ≡ r'.long

module _ (bits q W : ℕ) (s : List ℕ) (P : Plan) (A C b b' c c' : ℕ) (eb : P.first * (W + 2) ≡ b + 2 * (W + 2)) (eb' : A * (W + 2) ≡ b' + 2 * (W + 2))
    (ec : P.second * (W + 2) ≡ c + 2 * (W + 2)) (ec' : C * (W + 2) ≡ c' + 2 * (W + 2)) (apart : b + 3 * (W + 2) ≤ c) (apart' : b' + 3 * (W + 2) ≤ c') where
  abbrev T : ℕ → ℕ → ℕ → ℕ → Reading → Reading → Type 0
  T e o f u = Twin W b b' c c' e o f u

  -- a sample of the first line, and of the second
  put_first : (p e o f u g v : ℕ) (r r' z z' : Reading) → p < W → T e o f u r r'
      → ((x : ℕ) → Rows W g v b b' (set r.lines (b + (2 * (W + 2) + (p + 1))) x) (set r'.lines (b' + (2 * (W + 2) + (p + 1))) x))
      → Put (P.first * (W + 2) + p) (A * (W + 2) + p) r r' z z' → T g v f u z z'
  put_first p e o f u g v r r' z z' w t more k =
      let i : P.first * (W + 2) + p + 1 ≡ b + (2 * (W + 2) + (p + 1)) = omega (arith, eb) in
      let i' : A * (W + 2) + p + 1 ≡ b' + (2 * (W + 2) + (p + 1)) = omega (arith, eb') in
      let l : z.lines ≡ set r.lines (b + (2 * (W + 2) + (p + 1))) k.value = rw i at k.lines in
      let l' : z'.lines ≡ set r'.lines (b' + (2 * (W + 2) + (p + 1))) k.value = rw i' at k.lines' in
      record {
        first = rw (l, l') (more k.value);
        second =
            rw (l, l') (elsewhere W f u c c' r.lines r'.lines t.second k.value (b + (2 * (W + 2) + (p + 1))) (b' + (2 * (W + 2) + (p + 1)))
            (λ d h. (λ m. omega (arith, apart), λ m. omega (arith, apart'))));
        sets = k.sets;
        ats = k.ats;
        tights = k.tights;
        longs = k.longs;
      }

  put_second : (p e o f u g v : ℕ) (r r' z z' : Reading) → p < W → T e o f u r r'
      → ((x : ℕ) → Rows W g v c c' (set r.lines (c + (2 * (W + 2) + (p + 1))) x) (set r'.lines (c' + (2 * (W + 2) + (p + 1))) x))
      → Put (P.second * (W + 2) + p) (C * (W + 2) + p) r r' z z' → T e o g v z z'
  put_second p e o f u g v r r' z z' w t more k =
      let i : P.second * (W + 2) + p + 1 ≡ c + (2 * (W + 2) + (p + 1)) = omega (arith, ec) in
      let i' : C * (W + 2) + p + 1 ≡ c' + (2 * (W + 2) + (p + 1)) = omega (arith, ec') in
      let l : z.lines ≡ set r.lines (c + (2 * (W + 2) + (p + 1))) k.value = rw i at k.lines in
      let l' : z'.lines ≡ set r'.lines (c' + (2 * (W + 2) + (p + 1))) k.value = rw i' at k.lines' in
      record {
        first =
            rw (l, l') (elsewhere W e o b b' r.lines r'.lines t.first k.value (c + (2 * (W + 2) + (p + 1))) (c' + (2 * (W + 2) + (p + 1)))
            (λ d h. (λ m. omega (arith, apart), λ m. omega (arith, apart'))));
        second = rw (l, l') (more k.value);
        sets = k.sets;
        ats = k.ats;
        tights = k.tights;
        longs = k.longs;
      }

  -- one step of each kind
  first_even : (p o f u : ℕ) (coded : Bool) (r r' : Reading) → p % 2 ≡ 0 → p < W → T p o f u r r'
      → Alike (T (p + 2) o f u) (read_step bits q W s (step_at P.first p coded) r) (read_step bits q W s (step_at A p coded) r')
  first_even p o f u coded r r' t w k =
      let x : step_context W (step_at P.first p coded) r.lines ≡ step_context W (step_at A p coded) r'.lines =
      by_places W P.first A p r.lines r'.lines (two_above W b P.first eb) (two_above W b' A eb')
      (rw (eb, eb') (even_context_lem W p o b b' r.lines r'.lines k.first p w t)) in
      alike_weaker (Put (P.first * (W + 2) + p) (A * (W + 2) + p) r r') (T (p + 2) o f u) (read_step bits q W s (step_at P.first p coded) r)
      (read_step bits q W s (step_at A p coded) r')
      (step_alike bits q W s P.first A p coded r r' k.sets k.ats k.tights k.longs x)
      (λ z z' y. put_first p p o f u (p + 2) o r r' z z' w k (λ v. even_more W p o b b' r.lines r'.lines k.first v t w) y)

  second_even : (p e o u : ℕ) (coded : Bool) (r r' : Reading) → p % 2 ≡ 0 → p < W → T e o p u r r'
      → Alike (T e o (p + 2) u) (read_step bits q W s (step_at P.second p coded) r) (read_step bits q W s (step_at C p coded) r')
  second_even p e o u coded r r' t w k =
      let x : step_context W (step_at P.second p coded) r.lines ≡ step_context W (step_at C p coded) r'.lines =
      by_places W P.second C p r.lines r'.lines (two_above W c P.second ec) (two_above W c' C ec')
      (rw (ec, ec') (even_context_lem W p u c c' r.lines r'.lines k.second p w t)) in
      alike_weaker (Put (P.second * (W + 2) + p) (C * (W + 2) + p) r r') (T e o (p + 2) u) (read_step bits q W s (step_at P.second p coded) r)
      (read_step bits q W s (step_at C p coded) r')
      (step_alike bits q W s P.second C p coded r r' k.sets k.ats k.tights k.longs x)
      (λ z z' y. put_second p e o p u (p + 2) u r r' z z' w k (λ v. even_more W p u c c' r.lines r'.lines k.second v t w) y)

  first_odd : (p e f u : ℕ) (r r' : Reading) → p % 2 ≡ 1 → p < W → p + 1 < e → T e p f u r r'
      → Alike (T e (p + 2) f u) (read_step bits q W s (step_at P.first p true) r) (read_step bits q W s (step_at A p true) r')
  first_odd p e f u r r' t w h k =
      let x : step_context W (step_at P.first p true) r.lines ≡ step_context W (step_at A p true) r'.lines =
      by_places W P.first A p r.lines r'.lines (two_above W b P.first eb) (two_above W b' A eb')
      (rw (eb, eb') (odd_context_lem W e p b b' r.lines r'.lines k.first p w t (λ y. h) (omega arith))) in
      alike_weaker (Put (P.first * (W + 2) + p) (A * (W + 2) + p) r r') (T e (p + 2) f u) (read_step bits q W s (step_at P.first p true) r)
      (read_step bits q W s (step_at A p true) r')
      (step_alike bits q W s P.first A p true r r' k.sets k.ats k.tights k.longs x)
      (λ z z' y. put_first p e p f u e (p + 2) r r' z z' w k (λ v. odd_more W e p b b' r.lines r'.lines k.first v t w) y)

  second_odd : (p e o f : ℕ) (r r' : Reading) → p % 2 ≡ 1 → p < W → p + 1 < f → T e o f p r r'
      → Alike (T e o f (p + 2)) (read_step bits q W s (step_at P.second p true) r) (read_step bits q W s (step_at C p true) r')
  second_odd p e o f r r' t w h k =
      let x : step_context W (step_at P.second p true) r.lines ≡ step_context W (step_at C p true) r'.lines =
      by_places W P.second C p r.lines r'.lines (two_above W c P.second ec) (two_above W c' C ec')
      (rw (ec, ec') (odd_context_lem W f p c c' r.lines r'.lines k.second p w t (λ y. h) (omega arith))) in
      alike_weaker (Put (P.second * (W + 2) + p) (C * (W + 2) + p) r r') (T e o f (p + 2)) (read_step bits q W s (step_at P.second p true) r)
      (read_step bits q W s (step_at C p true) r')
      (step_alike bits q W s P.second C p true r r' k.sets k.ats k.tights k.longs x)
      (λ z z' y. put_second p e o f p f (p + 2) r r' z z' w k (λ v. odd_more W f p c c' r.lines r'.lines k.second v t w) y)

  -- two steps, and the steps of a turn
  two_steps : (R Q : Reading → Reading → Type 0) (x y x' y' : Step) (r r' : Reading) → Alike R (read_step bits q W s x r) (read_step bits q W s x' r')
      → ((z z' : Reading) → R z z' → Alike Q (read_step bits q W s y z) (read_step bits q W s y' z'))
      → Alike Q (reads bits q W s (x ∷ y ∷ []) r) (reads bits q W s (x' ∷ y' ∷ []) r')
  unfolding reads and_then
  two_steps R Q x y x' y' r r' a k =
      alike_then R Q (read_step bits q W s x r) (read_step bits q W s x' r') (λ z. and_then (read_step bits q W s y z) (λ v. Some v))
      (λ z. and_then (read_step bits q W s y' z) (λ v. Some v)) a
      (λ z z' h. alike_then Q Q (read_step bits q W s y z) (read_step bits q W s y' z') (λ v. Some v) (λ v. Some v) (k z z' h) (λ v v' m. m))

  -- both lines are equally far
  abbrev pub At : ℕ → ℕ → Reading → Reading → Type 0
  At e o = T e o e o

  at_more : {e o f u : ℕ} (r r' : Reading) → ((p : ℕ) → p % 2 ≡ 0 → p < f → p < W → p < e) → ((p : ℕ) → p % 2 ≡ 1 → p < u → p < W → p < o) → At e o r r'
      → At f u r r'
  at_more r r' ev od k = record {
    first = rows_more ev od k.first;
    second = rows_more ev od k.second;
    sets = k.sets;
    ats = k.ats;
    tights = k.tights;
    longs = k.longs;
  }

  -- nothing is read
  no_steps : (R : Reading → Reading → Type 0) (r r' : Reading) → R r r' → Alike R (reads bits q W s [] r) (reads bits q W s [] r')
  unfolding reads
  no_steps R r r' k = k

  even_part_lem : (p o : ℕ) (r r' : Reading) → p % 2 ≡ 0 → At p o r r'
      → Alike (At (p + 2) o) (reads bits q W s (cond (ltb p W) (even_steps P p) []) r) (reads bits q W s (cond (ltb p W) (even_steps (placed P A C) p) []) r')
  even_part_lem p o r r' t k =
      split W p
      (λ h. rw (le-ltb p W h) (no_steps (At (p + 2) o) r r' (at_more r r' (λ x y z w. omega arith) (λ x y z w. z) k)))
      (λ w. rw (lt-ltb p W w)
      (two_steps (T (p + 2) o p o) (At (p + 2) o) (step_at P.first p _) (step_at P.second p _) (step_at A p _) (step_at C p _) r r'
      (first_even p o p o _ r r' t w k)
      (λ z z' h. second_even p (p + 2) o o _ z z' t w h)))

  odd_part_lem : (p : ℕ) (r r' : Reading) → p % 2 ≡ 0 → W % 2 ≡ 0 → p < W + 8 → At (p + 2) (p - 7) r r'
      → Alike (At (p + 2) (p + 2 - 7)) (reads bits q W s (cond (leb 8 p) (odd_steps P (p - 7)) []) r)
      (reads bits q W s (cond (leb 8 p) (odd_steps (placed P A C) (p - 7)) []) r')
  odd_part_lem p r r' t even lt k =
      split 8 p
      (λ h.
      let g : p + 2 - 7 ≡ p - 7 + 2 = omega arith in
      rw (le-leb 8 p h, g)
      (two_steps (T (p + 2) (p - 7 + 2) (p + 2) (p - 7)) (At (p + 2) (p - 7 + 2)) (step_at P.first (p - 7) true) (step_at P.second (p - 7) true)
      (step_at A (p - 7) true) (step_at C (p - 7) true) r r'
      (first_odd (p - 7) (p + 2) (p + 2) (p - 7) r r' (omega arith) (omega arith) (omega arith) k)
      (λ z z' m. second_odd (p - 7) (p + 2) (p - 7 + 2) (p + 2) z z' (omega arith) (omega arith) (omega arith) m)))
      (λ h. rw (lt-leb 8 p h) (no_steps (At (p + 2) (p + 2 - 7)) r r' (at_more r r' (λ x y z w. z) (λ x y z w. absurd (omega arith)) k)))

  -- a turn, and all turns so far
  turn_alike : (t : ℕ) (r r' : Reading) → W % 2 ≡ 0 → t < W / 2 + 4 → At (2 * t) (2 * t - 7) r r'
      → Alike (At (2 * t + 2) (2 * t + 2 - 7)) (reads bits q W s (turn_steps W P t) r) (reads bits q W s (turn_steps W (placed P A C) t) r')
  unfolding turn_steps
  turn_alike t r r' even h k =
      rw (
        reads_append bits q W s (cond (ltb (2 * t) W) (even_steps P (2 * t)) []) (cond (leb 8 (2 * t)) (odd_steps P (2 * t - 7)) []) r,
        reads_append bits q W s (cond (ltb (2 * t) W) (even_steps (placed P A C) (2 * t)) []) (cond (leb 8 (2 * t)) (odd_steps (placed P A C) (2 * t - 7)) []) r',
      )
      (alike_then (At (2 * t + 2) (2 * t - 7)) (At (2 * t + 2) (2 * t + 2 - 7)) (reads bits q W s (cond (ltb (2 * t) W) (even_steps P (2 * t)) []) r)
      (reads bits q W s (cond (ltb (2 * t) W) (even_steps (placed P A C) (2 * t)) []) r') _ _ (even_part_lem (2 * t) (2 * t - 7) r r' (omega arith) k)
      (λ z z' m. odd_part_lem (2 * t) z z' (omega arith) even (omega arith) m))

  turns_alike : (t : ℕ) (r r' : Reading) → W % 2 ≡ 0 → t ≤ W / 2 + 4 → At 0 0 r r'
      → Alike (At (2 * t) (2 * t - 7)) (reads bits q W s (upto (turn_steps W P) t) r) (reads bits q W s (upto (turn_steps W (placed P A C)) t) r')
  unfolding upto
  turns_alike zero r r' even h k = no_steps (At 0 0) r r' k
  turns_alike (suc t) r r' even h k =
      let g : 2 * suc t ≡ 2 * t + 2 = omega arith in
      rw (
        g,
        reads_append bits q W s (upto (turn_steps W P) t) (turn_steps W P t) r,
        reads_append bits q W s (upto (turn_steps W (placed P A C)) t) (turn_steps W (placed P A C) t) r',
      )
      (alike_then (At (2 * t) (2 * t - 7)) (At (2 * t + 2) (2 * t + 2 - 7)) (reads bits q W s (upto (turn_steps W P) t) r)
      (reads bits q W s (upto (turn_steps W (placed P A C)) t) r') _ _
      (turns_alike t r r' even (omega arith) k)
      (λ z z' m. turn_alike t z z' even (omega arith) m))

  -- a pass: where the lines above and the guards are the same, both are cut off, or both end with the same samples in the lines of the pass
  pub pass_alike : (r r' : Reading) → W % 2 ≡ 0 → At 0 0 r r' → Alike (At W W) (read_pass bits q W s P r) (read_pass bits q W s (placed P A C) r')
  unfolding read_pass pass_steps
  pass_alike r r' even k =
      alike_weaker (At (2 * (W / 2 + 4)) (2 * (W / 2 + 4) - 7)) (At W W) (reads bits q W s (upto (turn_steps W P) (W / 2 + 4)) r)
      (reads bits q W s (upto (turn_steps W (placed P A C)) (W / 2 + 4)) r')
      (turns_alike (W / 2 + 4) r r' even (omega arith) k)
      (λ z z' m. at_more z z' (λ p t h w. omega arith) (λ p t h w. omega arith) m)
