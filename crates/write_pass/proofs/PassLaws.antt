-- What a whole pass of writing keeps, and how many bits it adds. Assumes nothing.
use mathlib.Core.Bool.{Bool}
use mathlib.Core.List.{List}
use mathlib.Core.Path.{◌≡◌}
use Prim.Native.Nat.{ℕ, ◌+◌, ◌/◌, ◌^◌, ◌≤◌}
use native.Mathlib.Omega.{arith}
use lib.ListN.{length}
use Rattle.quantiser.specs.Quantisers.{largest}
use Rattle.pass_schedule.specs.Steps.{pass_steps}
use Rattle.pass_schedule.specs.declared.Plan.{Plan}
use Rattle.write_pass.specs.Puts.{Within}
use Rattle.write_pass.specs.Writings.{Writing, write_pass}
use Rattle.write_pass.proofs.StepPuts.{writes_within, writes_wrong, writes_short}
use Rattle.pass_schedule.proofs.TurnLaws.{turns_le}
use Rattle.std.specs.Prelude.{Some}

module _ (bits q W : ℕ) (strict : Bool) (t : List ℕ) (n : ℕ) (P : Plan) (r : Writing) where
  -- samples up to M
  pub pass_within : Within (largest bits) r.lines → Within (largest bits) (write_pass bits q W strict t n P r).lines
  unfolding write_pass
  pass_within = writes_within bits q W strict t n (pass_steps W P) r

  -- the first wrong sample stays the first
  pub pass_wrong : (j : ℕ) → r.wrong ≡ Some j → (write_pass bits q W strict t n P r).wrong ≡ Some j
  unfolding write_pass
  pass_wrong = writes_wrong bits q W strict t n (pass_steps W P) r

  -- at most 1040 steps of 80 bits
  pub pass_short : bits ≤ 16 → W ≤ 512 → length (write_pass bits q W strict t n P r).bits ≤ length r.bits + 2 ^ 17
  unfolding write_pass pass_steps
  pass_short depth h = omega (arith, writes_short bits q W strict t n depth (pass_steps W P) r, turns_le W P (W / 2 + 4))
