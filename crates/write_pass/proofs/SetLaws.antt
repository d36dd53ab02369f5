-- Where the samples of a set stand: index, and line, colour line and position, are matched one to one. Assumes nothing.
use mathlib.Core.Bool.{Bool}
use mathlib.Core.Path.{◌≡◌, ◌∙◌}
use Prim.Native.Nat.{ℕ, zero, suc, ◌+◌, ◌*◌, ◌/◌, ◌%◌, ◌<◌}
use native.Mathlib.Nat.{mod-lt, div-lt_iff_lt-mul, div-add-mod'}
use native.Mathlib.Omega.{arith}
use lib.Arith.{digits_div, digits_mod, digits_lt}
use lib.Dec.{lit<}
use borrow.Author.Tests.{lt-ltb, le-ltb}
use Rattle.numbers.proofs.OrderLaws.{split}
use Rattle.pass_schedule.specs.Steps.{plan_of}
use Rattle.pass_schedule.proofs.PlanLaws.{first_line, second_line, lines_are, each_pass}
use Rattle.colour_lines.specs.Sets.{line_size, set_size, rank_of, line_of_rank, index_in, line_at, colour_line_at, position_at}

pub rank_of_line : (c : ℕ) → c < 12 → rank_of (line_of_rank c) ≡ c
unfolding rank_of line_of_rank
rank_of_line c h =
    split 3 c
    (λ a. split 9 c
    (λ b. rw (le-ltb c 3 a, le-ltb c 9 b, le-ltb (c + 6) 5 (omega arith), le-ltb (c + 6) 13 (omega arith)) (omega arith))
    (λ b. rw (le-ltb c 3 a, lt-ltb c 9 b, le-ltb (c + 4) 5 (omega arith), lt-ltb (c + 4) 13 (omega arith)) (omega arith)))
    (λ a. rw (lt-ltb c 3 a, lt-ltb (c + 2) 5 (omega arith)) (omega arith))

module _ (W n c p : ℕ) (hc : c < 12) (hp : p < W) where
  index_is : index_in W n (line_of_rank c) p ≡ n * line_size W + (c * W + p)
  unfolding index_in
  index_is = rw (rank_of_line c hc)

  inside : c * W + p < line_size W
  inside = digits_lt hc hp

  pub index_lt : (lines : ℕ) → n < lines → index_in W n (line_of_rank c) p < set_size W lines
  index_lt lines h = rw index_is (digits_lt h inside)

  pub line_at_lem : line_at W (index_in W n (line_of_rank c) p) ≡ n
  line_at_lem = rw index_is (digits_div n inside)

  pub colour_line_at_lem : colour_line_at W (index_in W n (line_of_rank c) p) ≡ line_of_rank c
  colour_line_at_lem = rw (index_is, digits_mod n inside, digits_div c hp)

  pub position_at_lem : position_at W (index_in W n (line_of_rank c) p) ≡ p
  position_at_lem = rw (index_is, digits_mod n inside) (digits_mod c hp)

-- the other way
module _ (W lines j : ℕ) (pos : 0 < W) (h : j < set_size W lines) where
  pub line_lt : line_at W j < lines
  line_lt = (div-lt_iff_lt-mul {k = line_size W} (omega arith)).1 h

  pub rank_lt : j % line_size W / W < 12
  rank_lt = (div-lt_iff_lt-mul {k = W} pos).1 (mod-lt j (omega arith))

  pub position_lt : position_at W j < W
  position_lt = mod-lt (j % line_size W) pos

  pub index_at : index_in W (line_at W j) (colour_line_at W j) (position_at W j) ≡ j
  index_at =
      index_is W (line_at W j) (j % line_size W / W) (position_at W j) rank_lt position_lt
      ∙ rw (div-add-mod' (j % line_size W) W) (div-add-mod' j (line_size W))

-- ---- the two lines of each pass are the twelve colour lines

module _ (xtrans : Bool) (Q : ℕ → Type 0) where
  -- what holds of the lines of each pass holds of the twelve, and the other way
  pub passes_lines : ((i : ℕ) → i < 6 → Q (plan_of xtrans i).first × Q (plan_of xtrans i).second) → (c : ℕ) → c < 12 → Q (line_of_rank c)
  unfolding line_of_rank
  passes_lines f = twelve
    where
      at : (i : ℕ) → i < 6 → Q (first_line i) × Q (second_line i)
      at i h = let e = lines_are xtrans i in rw (e.0, e.1) at (f i h)

      twelve : (c : ℕ) → c < 12 → Q (line_of_rank c)
      twelve zero h = (at 0 (lit< tt)).0
      twelve (suc zero) h = (at 2 (lit< tt)).0
      twelve (suc (suc zero)) h = (at 4 (lit< tt)).0
      twelve (suc (suc (suc zero))) h = (at 0 (lit< tt)).1
      twelve (suc (suc (suc (suc zero)))) h = (at 1 (lit< tt)).0
      twelve (suc (suc (suc (suc (suc zero))))) h = (at 2 (lit< tt)).1
      twelve (suc (suc (suc (suc (suc (suc zero)))))) h = (at 3 (lit< tt)).0
      twelve (suc (suc (suc (suc (suc (suc (suc zero))))))) h = (at 4 (lit< tt)).1
      twelve (suc (suc (suc (suc (suc (suc (suc (suc zero)))))))) h = (at 5 (lit< tt)).0
      twelve (suc (suc (suc (suc (suc (suc (suc (suc (suc zero))))))))) h = (at 1 (lit< tt)).1
      twelve (suc (suc (suc (suc (suc (suc (suc (suc (suc (suc zero)))))))))) h = (at 3 (lit< tt)).1
      twelve (suc (suc (suc (suc (suc (suc (suc (suc (suc (suc (suc zero))))))))))) h = (at 5 (lit< tt)).1
      twelve (suc (suc (suc (suc (suc (suc (suc (suc (suc (suc (suc (suc c)))))))))))) h = absurd (omega arith)

  pub lines_passes : ((c : ℕ) → c < 12 → Q (line_of_rank c)) → (i : ℕ) → i < 6 → Q (plan_of xtrans i).first × Q (plan_of xtrans i).second
  unfolding line_of_rank
  lines_passes f i h =
      let e = lines_are xtrans i in
      rw (e.0, e.1) (each_pass (λ i. Q (first_line i) × Q (second_line i)) (
        (f 0 (lit< tt), f 3 (lit< tt)),
        (f 4 (lit< tt), f 9 (lit< tt)),
        (f 1 (lit< tt), f 5 (lit< tt)),
        (f 6 (lit< tt), f 10 (lit< tt)),
        (f 2 (lit< tt), f 7 (lit< tt)),
        (f 8 (lit< tt), f 11 (lit< tt)),
      ) i h)
