-- `code_reader::take_any` meets its contract: by the answer of the reader. A code is read inside the block, so that the count stays small. Assumes nothing.
use mathlib.Core.Bool.{Bool}
use mathlib.Core.List.{List}
use mathlib.Core.Path.{◌≡◌, sym, ◌∙◌}
use Prim.Native.Nat.{ℕ}
use native.Mathlib.Omega.{arith}
use Rattle.code.specs.Inside.{Bounds, Small}
use Rattle.code.specs.Inside.{taken_of}
use Rattle.code.specs.declared.Code.{Code}
use Rattle.code.proofs.CodeLaws.{code_shape}
use Rattle.code_reader.proofs.take_any.Goals as goal
use Rattle.std.specs.Prelude.{None, Option, Some}
use Rattle.code.specs.declared.Place.{Place}

module _ (M : ℕ) (tight : Bool) (long : ℕ) (o got : Option Code) (is : got ≡ o) where
  cut_off : got ≡ None → (None ≡ taken_of M tight long o) × Small None
  cut_off e = (rw (sym is ∙ e), tt)

  read : (s : List ℕ) (c : Code) (r : Option (ℕ × Place)) → got ≡ Some c → Bounds s got → r ≡ taken_of M tight long (Some c)
      → (r ≡ taken_of M tight long o) × Small r
  read s c r e bounds f = (rw (sym is ∙ e) f, rw f (rw e at bounds).0)

pub returns-in_err-c : goal.returns-in_err-c
returns-in_err-c c = rw c.from_residual.ensures (cut_off _ _ _ _ _ c.read_code.ensures.0 c.in_err-c.was)

pub take-requires : goal.take-requires
take-requires c =
    let shape = code_shape _ _ _ _ _ _ (sym c.read_code.ensures.0 ∙ c.in_ok-c.was) in
    omega (arith, shape.inside, c.requires.s_len_bound.0, c.requires.long_le_at)

pub returns : goal.returns
returns c =
    read _ _ _ _ _ c.read_code.ensures.0 _ _ _ c.in_ok-c.was c.read_code.ensures.1 c.take.ensures

pub read_code-requires : goal.read_code-requires
read_code-requires c = omega (arith, c.requires)
