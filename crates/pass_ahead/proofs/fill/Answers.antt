-- `pass_ahead::fill` meets its contract. Assumes nothing.
use native.Mathlib.Omega.{arith}
use mathlib.Core.Path.{◌≡◌}
use Prim.Native.Nat.{ℕ, ◌+◌, ◌-◌, ◌*◌, ◌≤◌}
use Rattle.pass_ahead.proofs.AheadLaws.{placed, lossless_ahead, lossy_ahead}
use Rattle.pass_ahead.proofs.fill.Goals as goal
use Rattle.pass_ahead.proofs.fill.Goals.{Start}

low : (c : Start) → 2 * (c.args.w + 2) ≤ c.args.line * (c.args.w + 2)
low c = (placed c.args.w c.args.line _ c.requires.le_w.1.1.0 c.requires.w_in_bounds).0

-- where the samples of the lines above are taken from
abbrev from : (c : Start) → ℕ
from c = c.args.line * (c.args.w + 2) + c.args.c - (c.args.w + 2) - 8

abbrev top : (c : Start) → ℕ
top c = c.args.line * (c.args.w + 2) + c.args.c - (c.args.w + 2) + 1 - (c.args.w + 2)

from_is : (c : Start) → from c + 8 + (c.args.w + 2) ≡ c.args.line * (c.args.w + 2) + c.args.c
from_is c = omega (arith, low c, c.requires.le_w.0)

top_is : (c : Start) → top c + 2 * (c.args.w + 2) ≡ c.args.line * (c.args.w + 2) + c.args.c + 1
top_is c = omega (arith, low c)

pub returns-then-base-eq0 : goal.returns-then-base-eq0
returns-then-base-eq0 c =
    record {
      out_len_2 = c.lossless.ensures.all;
      ahead = rw c.if-base-eq0.true (lossless_ahead c.args.w c.args.line c.args.c c.args.n (from (goal.at.returns-then-base-eq0 c).Start) (top (goal.at.returns-then-base-eq0 c).Start) c.args.lines.now _ _ (low (goal.at.returns-then-base-eq0 c).Start) c.requires.le_w.0 (from_is (goal.at.returns-then-base-eq0 c).Start) (top_is (goal.at.returns-then-base-eq0 c).Start) c.split.ensures.filled c.split.ensures.filled_2 _ _ c.take_every_second.ensures c.lossless.ensures);
    }

pub returns-else-base-eq0 : goal.returns-else-base-eq0
returns-else-base-eq0 c =
    record {
      out_len_2 = c.lossy.ensures.all;
      ahead = lossy_ahead c.args.w c.args.line c.args.c c.args.n (from (goal.at.returns-else-base-eq0 c).Start) (top (goal.at.returns-else-base-eq0 c).Start) c.args.lines.now _ _ (low (goal.at.returns-else-base-eq0 c).Start) c.requires.le_w.0 (from_is (goal.at.returns-else-base-eq0 c).Start) (top_is (goal.at.returns-else-base-eq0 c).Start) c.split.ensures.filled c.split.ensures.filled_2 c.args.base _ _ c.take_every_second.ensures c.lossy.ensures;
    }
