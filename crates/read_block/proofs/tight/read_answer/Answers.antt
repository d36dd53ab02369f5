-- `read_block::tight::read_answer` meets its contract, by what the walk says. Assumes nothing.
use mathlib.Core.Path.{◌≡◌}
use Prim.Native.Nat.{ℕ}
use Rattle.line_totals.specs.declared.Totals.{Totals}
use Rattle.line_totals.specs.declared.TightLines.{TightLines}
use Rattle.stream.specs.declared.header.Refusal.TheVariants.{Truncated}
use Rattle.read_block.specs.Inside.{walked_counted}
use Rattle.read_block.proofs.tight.read_answer.Goals as goal
use Rattle.std.specs.Prelude.{Err, Ok, Result}

cut : (b n : ℕ) (t : Totals) (w : Result (Totals × TightLines) (ℕ × Totals)) → w ≡ Err (n, t) → record { answer = Err (Truncated b n); totals = t } ≡ walked_counted b w
cut b n t w e = rw e

all : (b : ℕ) (t : Totals) (tight : TightLines) (w : Result (Totals × TightLines) (ℕ × Totals)) → w ≡ Ok (t, tight) → record { answer = (Ok tt); totals = t } ≡ walked_counted b w
all b t tight w e = rw e

pub returns-in-Err : goal.returns-in-Err
returns-in-Err c = cut _ _ _ _ c.in-Err.is

pub returns-in-Ok : goal.returns-in-Ok
returns-in-Ok c = all _ _ _ _ c.in-Ok.is
