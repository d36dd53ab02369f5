-- The totals of going on, with those of storing, are those of the reading from the top. Assumes nothing.
use mathlib.Core.Bool.{true}
use mathlib.Core.List.{List, [], ◌∷◌, ◌++◌}
use mathlib.Core.Path.{◌≡◌, refl, ap}
use Prim.Native.Nat.{ℕ, zero, suc, ◌+◌, ◌-◌, ◌≤◌, max}
use native.Mathlib.Nat.{add-zero, add-suc}
use native.Mathlib.Omega.{arith}
use Rattle.image_map.proofs.PartLaws.{by_test}
use Rattle.stream.specs.declared.header.FujiHeader.{FujiHeader}
use Rattle.image_region.specs.Regions.{line_count}
use Rattle.image_region.specs.declared.Rect.{Rect}
use Rattle.saved_state.specs.Checkpoints.{next_line, position_in}
use Rattle.read_block.specs.Blocks.{State, runs, read_line_at, start_state, read_lines, totals_in, totals_after}
use Rattle.read_block.specs.Images.{form_of, bytes_in, bases_in, is_read, read_in}
use Rattle.saved_state.specs.Resuming.{resumed_after, lines_resumed, is_touched, lines_wanted, resumed_in, resumed_totals}
use Rattle.read_block.specs.Totals.{used_bits, gathered, gather_from, codes_in_line, block_codes, sum_of}
use Rattle.read_block.specs.declared.Form.{Form}
use Rattle.read_block.proofs.TotalLaws.{totals_true}
use Rattle.theorem_going_on.specs.GoingOn.{read_by_both}
use Rattle.theorem_going_on.proofs.CountLaws.{Both}
use Rattle.theorem_going_on.proofs.ResumedLaws.{Holds, Pair, position_is, alike, reached, Reach, ended, goes, reach}
use Rattle.std.specs.Prelude.{None, Option, Some}

-- ---- more lines have no fewer bits

sum_left : {A : Type 0} (f : A → ℕ) (k l : List A) → sum_of f k ≤ sum_of f (k ++ l)
unfolding sum_of
sum_left f [] l = omega arith
sum_left f (x ∷ k) l = omega (arith, sum_left f k l)

gathered_grows : {A B : Type 0} (f : ℕ → A → Option A) (g : ℕ → A → List B) (v : B → ℕ) (r : A) (n m : ℕ)
    → sum_of v (gathered f g n r) ≤ sum_of v (gathered f g (n + m) r)
unfolding gathered
gathered_grows f g v r n zero = rw (add-zero n) (omega arith)
gathered_grows f g v r n (suc m) =
    rw (add-suc n m)
    (omega (arith, gathered_grows f g v r n m, sum_left v (gathered f g (n + m) r) (gather_from (runs f (n + m) r) (λ z. g (n + m) z))))

bits_grow : (F : Form) (bases s : List ℕ) (n m : ℕ) (z y : State) → read_lines F bases s n ≡ Some z → read_lines F bases s (n + m) ≡ Some y
    → z.at.0 ≤ y.at.0
unfolding block_codes
bits_grow F bases s n m z y e f =
    let a = rw e at (totals_true F bases s n z e).bits in
    let b = rw f at (totals_true F bases s (n + m) y f).bits in
    let g = gathered_grows (read_line_at F bases s) (codes_in_line F bases s) used_bits (start_state F bases) n m in
    omega (arith, a, b, g)

-- ---- going on

module _ (d : List ℕ) (h : FujiHeader) (b n : ℕ) (z : State) (c : List ℕ) (g : Holds d h b n z c) (r : Rect) where
  abbrev F : Form
  F = form_of h

  abbrev B : List ℕ
  B = bases_in d b

  abbrev S : List ℕ
  S = bytes_in d b

  -- the lines that both calls read
  both_lines : suc n + resumed_in d b h c r ≡ read_by_both d h r b n
  unfolding lines_resumed
  both_lines =
      by_test (is_touched r b) (λ t. rw t (by (reach d h b n z c g r))) (λ t. rw t (add-zero (suc n)))
    where
      by : Reach d h b n z c g r
          → suc n + lines_resumed d b h c (line_count r - next_line c) ≡ max (suc n) (read_in d h r b)
      by (ended l e f) = omega (arith, l, e, f)
      by (goes l e) = omega (arith, e)

  -- of a state that was reached
  sums : (m : ℕ) (x y : Option State) → Both (Pair d h b n z c g m) x y → is_read y ≡ true
      → ((u : State) → x ≡ Some u → z.at.0 ≤ u.at.0)
      → (z.at.0 + ((totals_in y).bits - position_in c) ≡ (totals_in x).bits) × (z.long + (totals_in y).long ≡ (totals_in x).long)
  sums m None None a e k = absurd (let no : ◌≡◌ {A = ℕ} 0 1 = cc in omega arith)
  sums m None (Some y) a e k = absurd a
  sums m (Some x) None a e k = absurd a
  sums m (Some x) (Some y) a e k =
      let p = ap (λ u. u.0) a.0.at in (
        omega (arith, p, k x refl, position_is d h b n z c g),
        omega (arith, a.0.long),
      )

  pub totals_same : let t = totals_after F B S (read_by_both d h r b n) in
      (z.at.0 + (resumed_totals d b h c r).bits ≡ t.bits) × (z.long + (resumed_totals d b h c r).long ≡ t.long)
  totals_same =
      let m : ℕ = resumed_in d b h c r in
      rw (← both_lines)
      (sums m (read_lines F B S (suc n + m)) (resumed_after d b h c m) (alike d h b n z c g m)
      (reached d h b n z c g (lines_wanted b c r)) (λ u e. bits_grow F B S (suc n) m z u g.read e))
