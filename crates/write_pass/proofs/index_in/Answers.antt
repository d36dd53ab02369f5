-- `write_pass::index_in` meets its contract: there are twelve ranks, and so it lies in its line. Assumes nothing.
use mathlib.Core.Path.{◌≡◌}
use Prim.Native.Nat.{ℕ, ◌+◌, ◌*◌, ◌^◌, ◌≤◌, ◌<◌}
use native.Mathlib.Nat.{mul-le-mul, add_assoc}
use native.Mathlib.Omega.{arith}
use lib.Arith.{digits_lt}
use Rattle.colour_lines.specs.Sets.{rank_of, index_in}
use Rattle.write_pass.proofs.index_in.Goals as goal

lines_le : (w n : ℕ) → w ≤ 512 → n < 2 ^ 16 → n * (12 * w) ≤ 2 ^ 16 * (12 * 512)
lines_le w n hw hn = mul-le-mul {n₂ = 2 ^ 16} {m₂ = 12 * 512} (omega arith) (omega arith)

ranks_le : (w r : ℕ) → w ≤ 512 → r ≤ 11 → r * w ≤ 11 * 512
ranks_le w r hw hr = mul-le-mul hr hw

inside : (w n r p : ℕ) → r ≤ 11 → p < w → n * (12 * w) + r * w + p < (n + 1) * (12 * w)
inside w n r p hr hp =
    rw (add_assoc (n * (12 * w)) (r * w) p) (digits_lt {q = n} {m = n + 1} (omega arith) (digits_lt {q = r} {m = 12} (omega arith) hp))

index_is : (w n line r p : ℕ) → r ≡ rank_of line → n * (12 * w) + r * w + p ≡ index_in w n line p
unfolding index_in
index_is w n line r p e = rw (e, add_assoc (n * (12 * w)) (rank_of line * w) p)

pub returns : goal.returns
returns c =
    (index_is c.args.w c.args.n c.args.line _ c.args.p c.rank_of.ensures.0, inside c.args.w c.args.n _ c.args.p c.rank_of.ensures.1 c.requires.1.0)
