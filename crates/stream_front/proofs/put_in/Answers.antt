-- `stream_front::put_in` meets its contract. Assumes nothing.
use mathlib.Core.List.{List, ◌++◌}
use mathlib.Core.Path.{◌≡◌, refl, sym, ap, ◌∙◌}
use Prim.Native.Nat.{ℕ, ◌+◌, ◌*◌, ◌≤◌, ◌<◌}
use native.Mathlib.Omega.{arith}
use lib.ListN.{length, drop}
use Rattle.stream.specs.declared.header.FujiHeader.{FujiHeader}
use Rattle.stream.specs.declared.header.Refusal.TheVariants.{LongBlock, ShortOutput}
use Rattle.stream.specs.Streams.{row_length, row_start}
use Rattle.stream_front.specs.Fronts.{front_bytes, sum_of, first_long, front_answer}
use Rattle.stream_front.proofs.FrontLaws.{product_le, answer_count, answer_rows, answer_long, answer_short, answer_length, front_size_is}
use Rattle.stream_front.proofs.put_in.Goals as goal
use Rattle.std.specs.Prelude.{Err, Ok}

other_rows : (h : FujiHeader) (n row : ℕ) → row ≡ row_length h → (n ≡ h.blocks * row → ⊥) → n ≡ h.blocks * row_length h → ⊥
other_rows h n row e ne f = ne (f ∙ rw e)

long_answer : (h : FujiHeader) (rows lengths : List ℕ) (room long : ℕ) → long ≡ first_long lengths → length lengths ≡ h.blocks → length rows ≡
    h.blocks * row_length h → long < h.blocks
    → Err (LongBlock long) ≡ front_answer h rows lengths room
long_answer h rows lengths room long e f g l = rw e (answer_long h rows lengths room f g (rw e at l))

short_answer : (h : FujiHeader) (rows lengths : List ℕ) (room long n : ℕ) → long ≡ first_long lengths → n ≡ row_start h h.blocks → length lengths ≡ h.blocks
    → length rows ≡ h.blocks * row_length h → h.blocks ≤ long → room < n → Err ShortOutput ≡ front_answer h rows lengths room
short_answer h rows lengths room long n e en f g l k = answer_short h rows lengths room f g (rw e at l) (rw en at k)

length_answer : (h : FujiHeader) (rows lengths : List ℕ) (room long n m : ℕ) → long ≡ first_long lengths → n ≡ row_start h h.blocks → m ≡ sum_of
    lengths h.blocks
    → length lengths ≡ h.blocks → length rows ≡ h.blocks * row_length h → h.blocks ≤ long → n ≤ room → Ok (n + m) ≡ front_answer h rows lengths room
length_answer h rows lengths room long n m e en em f g l k = rw (en, em) (answer_length h rows lengths room f g (rw e at l) (rw en at k))

put : (d : List ℕ) (h : FujiHeader) (rows lengths out out' : List ℕ) (n : ℕ) → n ≡ row_start h h.blocks → out' ≡ front_bytes d h rows lengths ++ drop n out
    → out' ≡ front_bytes d h rows lengths ++ drop (length (front_bytes d h rows lengths)) out
put d h rows lengths out out' n en e = e ∙ ap (λ (m : ℕ). front_bytes d h rows lengths ++ drop m out) (en ∙ sym (front_size_is d h rows lengths))

pub returns-then-lengths-blocks : goal.returns-then-lengths-blocks
returns-then-lengths-blocks c = (answer_count _ _ _ _ c.if-lengths-blocks.true, refl)

pub overflow_mul-blocks : goal.overflow_mul-blocks
overflow_mul-blocks c =
    omega (
      arith,
      product_le c.args.h.blocks c.row_length-row.result c.requires.0.blocks_high
          (omega (arith, c.row_length-row.ensures.1, c.requires.0.lines_high)),
    )

pub returns-then-rows-blocks : goal.returns-then-rows-blocks
returns-then-rows-blocks c = (
  answer_rows _ _ _ _ c.if-lengths-blocks.false (other_rows c.args.h (length c.args.rows.now) c.row_length-row.result
      c.row_length-row.ensures.0 c.if-rows-blocks.true),
  refl,
)

pub returns-in-Some : goal.returns-in-Some
returns-in-Some c = (
  long_answer _ _ _ _ _ c.in-Some.ensures.0 c.if-lengths-blocks.false (c.if-rows-blocks.false ∙ rw c.row_length-row.ensures.0)
      (omega arith),
  refl,
)

pub returns-then-out-n : goal.returns-then-out-n
returns-then-out-n c = (
  short_answer _ _ _ _ _ _ refl c.front_length-n.ensures.0 c.if-lengths-blocks.false
      (c.if-rows-blocks.false ∙ rw c.row_length-row.ensures.0) (rw c.if-lengths-blocks.false at c.in_default.ensures) c.if-out-n.true,
  refl,
)

pub fill_front-requires : goal.fill_front-requires
fill_front-requires c =
    record {
      ruled = (c.requires.0, (c.requires.1, (c.front_length-n.ensures.0, c.if-out-n.false)));
      lengths_len = (c.if-lengths-blocks.false, c.if-rows-blocks.false ∙ rw c.row_length-row.ensures.0);
    }

pub returns : goal.returns
returns c = (
  length_answer _ _ _ _ _ _ _ refl c.front_length-n.ensures.0 (rw c.if-lengths-blocks.false at c.sum_of.ensures.0) c.if-lengths-blocks.false
      (c.if-rows-blocks.false ∙ rw c.row_length-row.ensures.0) (rw c.if-lengths-blocks.false at c.in_default.ensures) c.if-out-n.false,
  put _ _ _ _ _ _ _ c.front_length-n.ensures.0 c.fill_front.ensures,
)
