-- A set with one line of six rows more. Assumes nothing.
use mathlib.Core.List.{List, [], ◌∷◌, ◌++◌, append_assoc, append-nil}
use mathlib.Core.Path.{◌≡◌, refl, sym, ap, ◌∙◌}
use Prim.Native.Nat.{ℕ, zero, suc, ◌+◌, ◌*◌, ◌/◌, ◌%◌, ◌≤◌, ◌<◌}
use native.Mathlib.Nat.{add-suc, mod-lt, div-lt_iff_lt-mul, div-add-mod'}
use native.Mathlib.Omega.{arith}
use lib.Arith.{digits_div, digits_mod, digits_lt}
use lib.ListN.{length, get_or, drop, get_or-append}
use lib.Seq.{ext_get_or, get_or-append-add, get_or-take, get_or-drop}
use Rattle.numbers.proofs.OrderLaws.{split}
use Rattle.image_map.specs.Places.{width_of}
use Rattle.colour_lines.specs.Sets.{line_size, line_of_rank}
use Rattle.pass_schedule.specs.Steps.{upto}
use Rattle.read_block.specs.Blocks.{State, read_lines}
use Rattle.read_block.specs.Records.{table}
use Rattle.read_block.specs.TightBlocks.{read_sample}
use Rattle.read_block.specs.declared.Form.{Form}
use Rattle.read_block.proofs.LineLaws.{width_in_range}
use Rattle.read_block.proofs.TableLaws.{table_length, table_get_d}
use Rattle.read_set.specs.HandedSets.{set_with}
use Rattle.read_set.specs.Inside.{twelve}
use Rattle.read_set.proofs.PutLaws.{colour, colours_long}
use Rattle.std.specs.Prelude.{Some}

table_split : (f : ℕ → ℕ) (a b : ℕ) → table f (a + b) ≡ table f a ++ table (λ j. f (a + j)) b
unfolding table
table_split f a zero = let e : a + 0 ≡ a = omega arith in rw e (sym (append-nil (table f a)))
table_split f a (suc b) = rw (add-suc a b, table_split f a b) (append_assoc (table f a) (table (λ j. f (a + j)) b) (f (a + b) ∷ []))

-- position p of colour line c of the twelve
colours_at : (w : ℕ) (lines : List ℕ) → length lines ≡ 18 * (w + 2) → (n c p : ℕ) → n ≤ 12 → c < n → p < w
    → get_or (upto (colour w lines) n) (c * w + p) 0 ≡ get_or lines (line_of_rank c * (w + 2) + 1 + p) 0
unfolding upto
colours_at w lines long zero c p hn hc hp = absurd (omega arith)
colours_at w lines long (suc n) c p hn hc hp =
    let all = colours_long w lines long n (omega arith) in
    split n c
    (λ k. let e : c ≡ n = omega arith in
    rw e ((rw all at (get_or-append-add (upto (colour w lines) n) (colour w lines n) p 0))
    ∙ get_or-take w (drop (line_of_rank n * (w + 2) + 1) lines) p 0 hp ∙ get_or-drop (line_of_rank n * (w + 2) + 1) lines p 0))
    (λ k. let m : c * w + p < n * w = digits_lt k hp in
    get_or-append (upto (colour w lines) n) (colour w lines n) 0 (c * w + p) (omega arith) ∙ colours_at w lines long n c p (omega arith) k hp)

module _ (F : Form) (bases s : List ℕ) (n : ℕ) (z : State) (e : read_lines F bases s (suc n) ≡ Some z)
    (long : length z.lines ≡ 18 * (width_of F.xtrans + 2)) where
  abbrev W : ℕ
  W = width_of F.xtrans

  abbrev L : ℕ
  L = line_size W

  pos : 0 < W
  pos = omega (arith, (width_in_range F.xtrans W refl).0)

  twelve_long : length (twelve W z.lines) ≡ L
  unfolding twelve
  twelve_long = colours_long W z.lines long 12 (omega arith)

  at : (j : ℕ) → j < L → read_sample F bases s (n * L + j) ≡ get_or (twelve W z.lines) j 0
  unfolding twelve
  at j h =
      let c : j / W < 12 = (div-lt_iff_lt-mul {k = W} pos).1 h in
      let q : j / W * W + j % W ≡ j = div-add-mod' j W in
      let there = rw q at (colours_at W z.lines long 12 (j / W) (j % W) (omega arith) c (mod-lt j pos)) in
      let place : line_of_rank (j / W) * (W + 2) + 1 + j % W ≡ line_of_rank (j / W) * (W + 2) + j % W + 1 = omega arith in
      rw (digits_div n h, digits_mod n h, e) (sym (rw place at there))

  pub set_more : set_with F bases (suc n) s ≡ set_with F bases n s ++ twelve W z.lines
  unfolding set_with
  set_more =
      let k : suc n * L ≡ n * L + L = omega arith in
      ap (table (read_sample F bases s)) k ∙ table_split (read_sample F bases s) (n * L) L
      ∙ ap (λ (l : List ℕ). table (read_sample F bases s) (n * L) ++ l)
      (ext_get_or 0 (table (λ j. read_sample F bases s (n * L + j)) L) (twelve W z.lines)
      (table_length (λ j. read_sample F bases s (n * L + j)) L ∙ sym twelve_long)
      (λ j h. let l : j < L = omega (arith, table_length (λ j. read_sample F bases s (n * L + j)) L) in table_get_d
      (λ j. read_sample F bases s (n * L + j)) L j 0 l ∙ at j l))
