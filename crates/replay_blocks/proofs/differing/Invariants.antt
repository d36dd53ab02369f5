-- `replay_blocks::differing`: of the readings that were made, at most all differ.
use Rattle.std.specs.Prelude.{◌≤◌}
use Rattle.replay_blocks.proofs.differing.Given as goal

abbrev pub invariant-loop-colour : goal.invariant-loop-colour
invariant-loop-colour g l = l.differ ≤ l.colour
