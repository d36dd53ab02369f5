-- Of answers: what `?` passes on, an error as it is, and what is the same where two answers are. Assumes nothing.
use Rattle.std.proofs.Common.{◌≡◌, ap}
use Rattle.std.specs.Prelude.{Result, Ok, Err, IsErr, IsErrAnd}

pub passed_on : {T E : Type 0} (r : Result T E) (e : E) → IsErr r × IsErrAnd r (λ x. x ≡ e) → r ≡ Err e
passed_on (Ok x) e h = search (h.0)
passed_on {E = E} (Err x) e h = ap (λ (y : E). Err y) h.1

-- what is answered is the same where the answers are
pub same_ok : {T E : Type 0} (x y : T) → ◌≡◌ {A = Result T E} (Ok x) (Ok y) → x ≡ y
same_ok x y e = cc

-- an answer whose value is known
pub answered : {T E : Type 0} {r : Result T E} {x y : T} → r ≡ Ok x → x ≡ y → r ≡ Ok y
answered e f = rw f at e
