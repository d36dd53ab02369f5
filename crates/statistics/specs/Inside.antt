-- Inside. What only our own functions say.
use Rattle.std.specs.Prelude.{◌*◌, ◌≤◌}
use Rattle.statistics.specs.declared.Record.{Record}
use Rattle.statistics.specs.Statistics.{largest_residual}

-- what holds of every record of a block that is being read: a start record has it, and an update keeps it
pub record InRange (t : Record) : Type 0 where
  pub some : 1 ≤ t.n
  pub most : t.n ≤ 64
  pub sums : t.sum ≤ t.n * largest_residual
