-- Rules. The other way, lossless: the residual and the code below 2^bits of a wanted sample.
use Rattle.std.specs.Prelude.{ℕ, ◌-◌, ◌*◌, cond}
use Rattle.numbers.specs.declared.Signed.{Signed}

-- the code of a residual: twice its size, less 1 if it is negative
unfoldable pub code_of_residual : Signed → ℕ
code_of_residual r = cond r.negative (2 * r.size - 1) (2 * r.size)
