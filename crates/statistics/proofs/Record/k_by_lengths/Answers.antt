-- `statistics::Record::k_by_lengths` meets its contract: `least` is near k, and the machine's shift by it loses nothing. Assumes nothing.
use mathlib.Core.Path.{◌∙◌}
use Prim.Native.Nat.{◌+◌, ◌*◌, ◌%◌, ◌^◌, min}
use lib.Dec.{ltb}
use Rattle.std.proofs.Math.Nat.{min_comm}
use Rattle.numbers.specs.Numbers.{flag}
use Rattle.numbers.proofs.FlagLaws.{flag_of}
use Rattle.statistics.specs.Statistics.{k_of}
use mathlib.Core.Path.{◌≡◌, refl}
use native.Mathlib.Nat.{mod-eq_of_lt}
use native.Mathlib.Omega.{arith}
use Rattle.statistics.proofs.LengthLaws.{Near, lengths_near, near_k}
use Rattle.statistics.proofs.Record.k_by_lengths.Goals as goal
use Rattle.statistics.proofs.Record.k_by_lengths.Goals.{After-longer-least}

-- `least` is near k
is_near : (c : After-longer-least) → Near c.args.self.sum c.args.self.n c.longer-least.result
is_near c = lengths_near c.args.self c.requires c.longer-least.ensures

pub overflow_shl-self : goal.overflow_shl-self
overflow_shl-self c = omega (arith, (is_near (goal.at.overflow_shl-self c).After-longer-least).small)

pub returns : goal.returns
returns c =
    let e = c.longer-least.result in
    let t = c.args.self in
    let near : Near t.sum t.n e = is_near (goal.at.returns c).After-longer-least in
    let exact : (t.n * 2 ^ e) % 2 ^ 32 ≡ t.n * 2 ^ e = mod-eq_of_lt near.exact in
    let more : c.from.result ≡ flag (ltb (t.n * 2 ^ e) t.sum) = rw exact at (c.from.ensures ∙ flag_of _) in
    let least : min 15 (e + c.from.result) ≡ k_of t = rw more (near_k t e _ c.requires.some near refl) in
    (c.min.ensures ∙ min_comm _ _ ∙ least, omega (arith, c.min.ensures))
