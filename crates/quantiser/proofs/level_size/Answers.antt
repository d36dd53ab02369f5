-- `quantiser::level_size` meets its contract: the level counts the thresholds that are reached. Assumes nothing.
use borrow.Author.Rules.{rules}
use mathlib.Core.Path.{◌≡◌}
use Prim.Native.Nat.{ℕ, ◌+◌}
use lib.Dec.{leb}
use Rattle.numbers.specs.Numbers.{flag}
use Rattle.quantiser.specs.Inside.{Serves}
use Rattle.quantiser.specs.Quantisers.{level_size}
use Rattle.quantiser.specs.declared.Thresholds.{Thresholds}
use Rattle.quantiser.proofs.GradientLaws.{level_count}
use Rattle.quantiser.proofs.level_size.Goals as goal

abbrev counted : Thresholds → ℕ → ℕ
counted t m = flag (leb (t.base + 1) m) + flag (leb t.second m) + flag (leb t.third m) + flag (leb t.fourth m)

count : (t : Thresholds) (m : ℕ) → Serves t m → counted t m ≡ level_size t.base m
count t m e = rw (e.0, e.1, e.2) (level_count t.base m)

pub returns : goal.returns
returns c = (
  rw (c.reached.ensures.0, c.reached-2.ensures.0, c.reached-3.ensures.0, c.reached-4.ensures.0)
      (count c.args.t c.args.m c.requires.1),
  search rules,
)
