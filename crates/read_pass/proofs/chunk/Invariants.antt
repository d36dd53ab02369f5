-- `read_pass::chunk` meets its contract: after each turn the steps of the turns so far are read, and what was made ahead is right still. Assumes nothing.
use mathlib.Core.List.{List}
use mathlib.Core.Path.{◌≡◌}
use Prim.Native.Nat.{ℕ}
use lib.ListN.{length}
use Rattle.pass_schedule.specs.declared.Plan.{Plan}
use Rattle.pass_steps.specs.Values.{SetInRange, AreKs}
use Rattle.pass_ahead.specs.Arrays.{Ahead}
use Rattle.read_pass.specs.Readings.{Reading}
use Rattle.read_pass.specs.Pairs.{held, chunk_steps}
use Rattle.read_pass.proofs.StepLaws.{StepsGive}
use Rattle.read_pass.proofs.chunk.Given as goal
use Rattle.std.specs.Prelude.{Some}

-- what is known before turn h: from r₀ on the turns before it have been read, up to r
pub record Turns (bits q W : ℕ) (s : List ℕ) (P : Plan) (c n h : ℕ) (ks first second : List ℕ) (r₀ r : Reading) : Type 0 where
  pub same : length r.lines ≡ length r₀.lines
  pub records : SetInRange r.set
  pub ks_kept : AreKs r.set ks
  pub one : Ahead q W r.lines P.first c n first
  pub two : Ahead q W r.lines P.second c n second
  pub read : StepsGive bits q W s (chunk_steps W P c h) r₀ (Some r)

abbrev pub invariant-loop-h : goal.invariant-loop-h
invariant-loop-h l =
    Turns l.bits l.base l.w l.block l.plan l.c l.n l.h l.ks l.first l.second (held l.initial.lines l.initial.sums l.initial.ns l.initial.place) (held l.lines l.sums l.ns l.place)
