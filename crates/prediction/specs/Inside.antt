-- Inside. What only our own functions say.
use Rattle.std.specs.Prelude.{◌^◌, ◌<◌}
use Rattle.prediction.specs.declared.Context.{Context}

-- the ranges of a context's numbers, where the neighbours are samples of 16 bits
pub record ContextRanges (x : Context) : Type 0 where
  pub prediction : x.prediction < 2 ^ 16
  pub first : x.first.size < 2 ^ 16
  pub second : x.second.size < 2 ^ 16
