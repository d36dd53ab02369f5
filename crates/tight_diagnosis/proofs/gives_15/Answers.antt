-- `tight_diagnosis::gives_15` meets its contract. Assumes nothing.
use mathlib.Core.List.{List}
use mathlib.Core.Path.{◌≡◌}
use Prim.Native.Nat.{ℕ}
use lib.Dec.{eqb}
use lib.ListN.{get_or}
use Rattle.stream.specs.Refusals.{refusal_words}
use Rattle.stream.specs.declared.header.Refusal.{Refusal}
use Rattle.tight_diagnosis.specs.Faults.{gives15}
use Rattle.tight_diagnosis.proofs.gives_15.Goals as goal
use Rattle.std.specs.Prelude.{Err, Result}

of_refusal : (a : Result Unit Refusal) (r : Refusal) (w : List ℕ) → a ≡ Err r → w ≡ refusal_words r → eqb (get_or w 0 0) 15 ≡ gives15 a
of_refusal a r w e f = rw (e, f)

pub returns-in-Err : goal.returns-in-Err
returns-in-Err c = of_refusal _ _ _ c.in-Err.is c.refusal_words-w.ensures
