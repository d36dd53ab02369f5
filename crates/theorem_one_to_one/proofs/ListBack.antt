-- Steps one after the other, read and written. No sample of theirs is put twice, so that each stands at the end as it was read. Assumes nothing.
use mathlib.Core.Bool.{Bool, true, false, cond, ◌&&◌}
use mathlib.Core.List.{List, [], ◌∷◌}
use mathlib.Core.Logic.{◌≢◌}
use mathlib.Core.Path.{◌≡◌, refl, sym, ◌∙◌}
use Prim.Native.Nat.{ℕ, ◌+◌, ◌*◌, ◌≤◌, zero-le}
use native.Mathlib.Nat.{le_refl}
use native.Mathlib.Omega.{arith}
use lib.Dec.{eqb, leb}
use lib.ListN.{get_or}
use borrow.Author.Tests.{eq-eqb, eqb-true, leb-true}
use Rattle.numbers.proofs.BoolLaws.{both}
use Rattle.quantiser.specs.Quantisers.{largest}
use Rattle.prediction.specs.Predictions.{flatness_of}
use Rattle.prediction.specs.declared.Context.{Context}
use Rattle.code.specs.Samples.{choice_of}
use Rattle.pass_schedule.specs.Steps.{Step}
use Rattle.pass_steps.specs.Contexts.{used_base, look_of, step_context, step_look}
use Rattle.pass_steps.specs.Contexts.{Depth}
use Rattle.pass_schedule.proofs.OrderLaws.{All, cell, Apart}
use Rattle.read_pass.specs.Readings.{Reading, read_step, and_then, reads}
use Rattle.read_pass.proofs.FrameLaws.{first_then, steps_leave}
use Rattle.read_pass.proofs.RangeLaws.{step_keeps}
use Rattle.write_pass.specs.Puts.{Wanted}
use Rattle.write_pass.specs.Writings.{Writing, write_step, writes}
use Rattle.write_pass.proofs.LosslessLaws.{Lossless}
use Rattle.theorem_one_to_one.specs.UsedBases.{base_in_steps, IsNear}
use Rattle.theorem_one_to_one.proofs.StepForward.{InLines, step_forward}
use Rattle.theorem_one_to_one.proofs.StepBack.{step_backward}
use Rattle.theorem_one_to_one.proofs.Together.{stored_cut, Sound, writing_of, CleanReading, StoredWriting, Together, Back, together_then, back_then}
use Rattle.write_pass.proofs.WriteLaws.{wanted, afresh, writes_add, writes_right}
use Rattle.std.specs.Prelude.{None, Option, Some}

-- ---- bases

-- the base that is used is at most that of the line
used_le : (q : ℕ) (x : Context) → (look_of q x).base ≤ q
unfolding look_of choice_of
used_le q x =
    let f = flatness_of x in
    pick (leb 1 q && leb f 5) 1 _ (λ e. zero-le)
    (pick (leb 2 q && leb f 6) 2 _ (λ e. let h = leb-true 2 q (both (leb 2 q) (leb f 6) e).0 in omega (arith, h))
    (pick (leb 3 q && leb f 7) 3 0 (λ e. let h = leb-true 3 q (both (leb 3 q) (leb f 7) e).0 in omega (arith, h)) (le_refl q)))
  where
    pick : (t : Bool) (i rest : ℕ) → (t ≡ true → used_base q i ≤ q) → used_base q rest ≤ q → used_base q (cond t i rest) ≤ q
    pick true i rest f g = f refl
    pick false i rest f g = g

module _ (bits q W : ℕ) (s : List ℕ) where
  -- the base of a step is found at its place
  base_here : (x : Step) (l : List Step) (r : Reading) → base_in_steps bits q W s x.line x.position (x ∷ l) r ≡ Some (step_look q W x r.lines).base
  unfolding base_in_steps
  base_here x l r = rw (eq-eqb x.line x.line refl, eq-eqb x.position x.position refl)

  -- and that of a later one, which goes to another place, after this one was read
  base_later : (x : Step) (l : List Step) (r y : Reading) (m p : ℕ) → read_step bits q W s x r ≡ Some y → cell W x ≢ m * (W + 2) + p + 1
      → base_in_steps bits q W s m p (x ∷ l) r ≡ base_in_steps bits q W s m p l y
  unfolding base_in_steps and_then
  base_later x l r y m p e ne = go (eqb x.line m) (eqb x.position p) refl refl
    where
      go : (a b : Bool) → eqb x.line m ≡ a → eqb x.position p ≡ b
          → cond (a && b) (Some (step_look q W x r.lines).base) (and_then (read_step bits q W s x r) (λ z. base_in_steps bits q W s m p l z))
          ≡ base_in_steps bits q W s m p l y
      go true true f g = absurd (ne (rw (eqb-true x.line m f, eqb-true x.position p g)))
      go true false f g = rw e
      go false b f g = rw e

  -- it is at most that of the line
  pub base_le : (m p : ℕ) (l : List Step) (r : Reading) (b : ℕ) → base_in_steps bits q W s m p l r ≡ Some b → b ≤ q
  unfolding base_in_steps and_then
  base_le m p [] r b e = let no : ◌≡◌ {A = ℕ} 0 1 = cc in absurd (omega arith)
  base_le m p (x ∷ l) r b e = go (eqb x.line m && eqb x.position p) (read_step bits q W s x r) (λ z f. base_le m p l z b f) e
    where
      go : (here : Bool) (o : Option Reading) → ((z : Reading) → base_in_steps bits q W s m p l z ≡ Some b → b ≤ q)
          → cond here (Some (step_look q W x r.lines).base) (and_then o (λ z. base_in_steps bits q W s m p l z)) ≡ Some b → b ≤ q
      go true o rest f = let is : (step_look q W x r.lines).base ≡ b = cc in rw (← is) (used_le q (step_context W x r.lines))
      go false None rest f = let no : ◌≡◌ {A = ℕ} 0 1 = cc in absurd (omega arith)
      go false (Some z) rest f = rest z f

-- ---- forward, with any base

module _ (bits q W : ℕ) (strict : Bool) (s t : List ℕ) (n : ℕ) (depth : Depth bits) where
  -- the sample of a step, after the steps from r on: near, by the base that is found for it; or the set's, where the set is held to it
  pub record Left (all : List Step) (r z : Reading) (x : Step) : Type 0 where
    pub near : x.coded ≡ true
        → (b : ℕ) × (base_in_steps bits q W s x.line x.position all r ≡ Some b) × IsNear b (wanted W t n x) (get_or z.lines (cell W x) 0)
    pub held : x.coded ≡ false → strict ≡ true → get_or z.lines (cell W x) 0 ≡ wanted W t n x

  abbrev pub StepsForward : List Step → Reading → Reading → Type 0
  StepsForward l r z = Together (CleanReading s) (writing_of s) (reads bits q W s l) (writes bits q W strict t n l) r z × All (Left l r z) l

  sound_next : (x : Step) (r z : Reading) → Sound bits W r.lines → read_step bits q W s x r ≡ Some z → Sound bits W z.lines
  sound_next x r z ok e =
      let k = step_keeps bits q W s depth.1 x r z e in
      record { long = k.lines ∙ ok.long; small = k.samples ok.small }

  -- what is written goes on with the steps that follow
  stored_first : (l : List Step) (w : Writing) → StoredWriting s (writes bits q W strict t n l w) → StoredWriting s w
  stored_first l w h =
      stored_cut s w.bits (writes bits q W strict t n l (afresh w)).bits _ w.wrong (rw (writes_add bits q W strict t n l w) at h)
      (λ e. writes_right bits q W strict t n l w (rw (writes_add bits q W strict t n l w) e))

  -- what the steps after x leave is left after x too
  later : (x : Step) (l : List Step) (r y z : Reading) → read_step bits q W s x r ≡ Some y → (k : List Step) → All (λ u. cell W x ≢ cell W u) k
      → All (Left l y z) k → All (Left (x ∷ l) r z) k
  later x l r y z e [] a b = tt
  later x l r y z e (u ∷ k) a b = (
    record {
      near = λ c. let f = b.0.near c in (f.0, base_later bits q W s x l r y u.line u.position e a.0 ∙ f.1, f.2);
      held = b.0.held;
    },
    later x l r y z e k a.1 b.1,
  )

  -- where the bits of the steps stand, the steps are read
  pub steps_forward : (l : List Step) (r : Reading) → Sound bits W r.lines → Wanted (largest bits) W t n l → All (InLines W) l → Apart W l → CleanReading s r
      → StoredWriting s (writes bits q W strict t n l (writing_of s r)) → (z : Reading) × StepsForward l r z
  unfolding reads writes
  steps_forward [] r ok range in_lines apart clean stored = (r, (record { read = refl; clean = clean; same = refl }, tt))
  steps_forward (x ∷ l) r ok range in_lines apart clean stored =
      let w : Writing = write_step bits q W strict t n x (writing_of s r) in
      let after : StoredWriting s (writes bits q W strict t n l w) = stored in
      let one = step_forward bits q W strict s t n x r depth ok in_lines.0 clean range.0 (stored_first l w after) in
      let y : Reading = one.0 in
      let T = one.1.0 in
      let L = one.1.1 in
      let rest = steps_forward l y (sound_next x r y ok T.read) range.1 in_lines.1 apart.1 T.clean (rw T.same at after) in
      let z : Reading = rest.0 in
      let U = rest.1.0 in
      let stays : get_or z.lines (cell W x) 0 ≡ get_or y.lines (cell W x) 0 = steps_leave bits q W s (cell W x) l y z apart.0 U.read in (
        z,
        (
          together_then (CleanReading s) (writing_of s) (read_step bits q W s x) (reads bits q W s l) _ _ r y z T U,
          (
            record {
              near = λ c. ((step_look q W x r.lines).base, base_here bits q W s x l r, rw stays (L.near c));
              held = λ c g. stays ∙ L.held c g;
            },
            later x l r y z T.read l apart.0 rest.1.1,
          ),
        ),
      )

-- ---- backward, lossless

module _ (bits W : ℕ) (s t : List ℕ) (n : ℕ) (Q : Lossless bits) where
  -- each sample of the steps stands where it goes
  abbrev pub Stand : List Step → Reading → Type 0
  Stand l z = All (λ x. get_or z.lines (cell W x) 0 ≡ wanted W t n x) l

  abbrev pub StepsBack : List Step → Reading → Reading → Type 0
  StepsBack l r z = Back (CleanReading s) (writing_of s) (writes bits 0 W true t n l) r z

  sound_after : (x : Step) (r z : Reading) → Sound bits W r.lines → read_step bits 0 W s x r ≡ Some z → Sound bits W z.lines
  sound_after x r z ok e =
      let k = step_keeps bits 0 W s Q.high x r z e in
      record { long = k.lines ∙ ok.long; small = k.samples ok.small }

  -- where the steps were read, their bits stand
  pub steps_backward : (l : List Step) (r z : Reading) → Sound bits W r.lines → All (InLines W) l → Apart W l → reads bits 0 W s l r ≡ Some z
      → CleanReading s z → Stand l z
      → StepsBack l r z
  unfolding reads writes
  steps_backward [] r z ok in_lines apart e clean stand =
      let is : r ≡ z = cc in
      record { clean = rw (← is) at clean; same = rw is }
  steps_backward (x ∷ l) r z ok in_lines apart e clean stand =
      let f = first_then bits 0 W s x l r z e in
      let y : Reading = f.0 in
      let rest : StepsBack l y z = steps_backward l y z (sound_after x r y ok f.1) in_lines.1 apart.1 f.2 clean stand.1 in
      let there : get_or y.lines (cell W x) 0 ≡ wanted W t n x = sym (steps_leave bits 0 W s (cell W x) l y z apart.0 f.2) ∙ stand.0 in
      back_then (CleanReading s) (writing_of s) (write_step bits 0 W true t n x) (writes bits 0 W true t n l) r y z
      (step_backward bits W s t n Q x r ok in_lines.0 y f.1 rest.clean there) rest
