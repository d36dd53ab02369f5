-- `tight_findings::find_in` meets its contract: no block before b has a fault. Assumes nothing.
use mathlib.Core.Path.{◌≡◌}
use Prim.Native.Nat.{◌≤◌}
use Rattle.tight_findings.specs.Findings.{lowest}
use Rattle.tight_findings.proofs.find_in.Given as goal
use Rattle.std.specs.Prelude.{None}

abbrev pub invariant-loop-b : goal.invariant-loop-b
invariant-loop-b l = ((l.blocks ≡ l.h.blocks) × (l.blocks ≤ 16)) × (lowest l.d l.h l.b ≡ None)
