-- Writing a block: bits are only added to, and the first wrong sample stays. Assumes nothing.
use mathlib.Core.Bool.{Bool}
use mathlib.Core.List.{List, [], ◌++◌, append-nil}
use mathlib.Core.Path.{◌≡◌, refl, ap}
use Prim.Native.Nat.{ℕ, zero, suc, ◌≤◌, ◌<◌}
use native.Mathlib.Omega.{arith}
use Rattle.image_map.specs.Places.{width_of}
use Rattle.pass_schedule.specs.Steps.{plan_of, pass_steps}
use Rattle.pass_schedule.specs.declared.Plan.{Plan}
use Rattle.write_pass.specs.Writings.{write_pass}
use Rattle.write_pass.proofs.WriteLaws.{pass_after, writes_right}
use Rattle.read_block.specs.Records.{base_of}
use Rattle.write_block.specs.WrittenBlocks.{WriteState, repeats, enter_writing, leave_writing, write_pass_at, before_writing, is_strict, write_line, write_lines}
use Rattle.read_block.specs.declared.Form.{Form}
use Rattle.std.specs.Prelude.{None}

-- bits that stand before those of a state, and a state with no bits yet
abbrev pub after_bits : List Bool → WriteState → WriteState
after_bits l r = record { lines = r.lines; records = r.records; bits = l ++ r.bits; wrong = r.wrong }

abbrev pub afresh_state : WriteState → WriteState
afresh_state r = record { lines = r.lines; records = r.records; bits = []; wrong = r.wrong }

-- what may be exchanged with bits that stand before adds its own bits to what was there
adds : (f : WriteState → WriteState) → ((l : List Bool) (r : WriteState) → f (after_bits l r) ≡ after_bits l (f r))
    → (r : WriteState) → f r ≡ after_bits r.bits (f (afresh_state r))
adds f each r =
    let e : after_bits r.bits (afresh_state r) ≡ r = rw (append-nil r.bits) in
    rw e at (each r.bits (afresh_state r))

-- ---- things that are done one after the other

module _ {A : Type 0} (f : ℕ → A → A) where
  -- what each of them may be exchanged with, all of them may
  pub repeats_after : (g : A → A) → ((i : ℕ) (r : A) → f i (g r) ≡ g (f i r)) → (n : ℕ) (r : A) → repeats f n (g r) ≡ g (repeats f n r)
  unfolding repeats
  repeats_after g each zero r = refl
  repeats_after g each (suc n) r = rw (repeats_after g each n r) (each n (repeats f n r))

  -- what each of them takes back, all of them do
  pub repeats_back : (Q : A → Type 0) → ((i : ℕ) (r : A) → Q (f i r) → Q r) → (n : ℕ) (r : A) → Q (repeats f n r) → Q r
  unfolding repeats
  repeats_back Q each zero r q = q
  repeats_back Q each (suc n) r q = repeats_back Q each n r (each n (repeats f n r) q)

  -- what holds of i of them holds of one more
  pub repeats_through : (Q : ℕ → A → Type 0) (m : ℕ) → ((i : ℕ) → i < m → (r : A) → Q i r → Q (suc i) (f i r)) → (n : ℕ) → n ≤ m → (r : A) → Q 0 r
      → Q n (repeats f n r)
  unfolding repeats
  repeats_through Q m each zero h r q = q
  repeats_through Q m each (suc n) h r q = each n (omega arith) (repeats f n r) (repeats_through Q m each n (omega arith) r q)

-- ---- passes and lines

module _ (F : Form) (q : ℕ) (strict : Bool) (t : List ℕ) where
  -- a pass adds the same bits, whatever stands before
  pub pass_at_after : (n : ℕ) (l : List Bool) (i : ℕ) (r : WriteState)
      → write_pass_at F q strict t n i (after_bits l r) ≡ after_bits l (write_pass_at F q strict t n i r)
  unfolding write_pass_at
  pass_at_after n l i r =
      let P : Plan = plan_of F.xtrans i in
      ap (leave_writing P r) (pass_after F.bits q (width_of F.xtrans) strict t n l P (enter_writing F P r))

  -- so what it writes is what was there, and its own bits
  pub pass_at_adds : (n i : ℕ) (r : WriteState) → write_pass_at F q strict t n i r ≡ after_bits r.bits (write_pass_at F q strict t n i (afresh_state r))
  pass_at_adds n i = adds (write_pass_at F q strict t n i) (λ l. pass_at_after n l i)

  -- where no sample is wrong in the end, none was before
  pub pass_at_right : (n i : ℕ) (r : WriteState) → (write_pass_at F q strict t n i r).wrong ≡ None → r.wrong ≡ None
  unfolding write_pass_at write_pass
  pass_at_right n i r e =
      let P : Plan = plan_of F.xtrans i in
      writes_right F.bits q (width_of F.xtrans) strict t n (pass_steps (width_of F.xtrans) P) (enter_writing F P r) e

-- the same of lines
module _ (F : Form) (bases t : List ℕ) where
  pub line_after : (l : List Bool) (n : ℕ) (r : WriteState) → write_line F bases t n (after_bits l r) ≡ after_bits l (write_line F bases t n r)
  unfolding write_line
  line_after l n r =
      repeats_after (write_pass_at F (base_of bases n) (is_strict bases) t n) (after_bits l) (pass_at_after F (base_of bases n) (is_strict bases) t n l) 6 (before_writing F bases n r)

  pub line_adds : (n : ℕ) (r : WriteState) → write_line F bases t n r ≡ after_bits r.bits (write_line F bases t n (afresh_state r))
  line_adds n = adds (write_line F bases t n) (λ l. line_after l n)

  pub line_right : (n : ℕ) (r : WriteState) → (write_line F bases t n r).wrong ≡ None → r.wrong ≡ None
  unfolding write_line
  line_right n r e =
      repeats_back (write_pass_at F (base_of bases n) (is_strict bases) t n) (λ (z : WriteState). z.wrong ≡ None) (pass_at_right F (base_of bases n) (is_strict bases) t n) 6
      (before_writing F bases n r) e

  -- one line more
  pub lines_more : (n : ℕ) → write_lines F bases t (suc n) ≡ write_line F bases t n (write_lines F bases t n)
  unfolding write_lines repeats
  lines_more n = refl
