-- `pass_ahead::lossy_packed` meets its contract. Assumes nothing.
use Rattle.std.proofs.Math.Nat.{min_comm}
use mathlib.Core.Path.{◌∙◌}
use mathlib.Core.Path.{◌≡◌, ◌∙◌}
use Prim.Native.Nat.{ℕ, ◌+◌, min}
use Rattle.code.specs.Samples.{choice_of}
use Rattle.pass_ahead.specs.Looks.{bounds_of, reached_of}
use Rattle.pass_ahead.specs.declared.Bounds.{Bounds}
use Rattle.pass_ahead.proofs.LookLaws.{choice_counted, choice_near}
use Rattle.pass_ahead.proofs.lossy_packed.Goals as goal

chosen : (q m n d e a k c : ℕ) (b : Bounds) → b ≡ bounds_of q → d ≡ m → a ≡ min 8 d → e ≡ n → k ≡ min 8 e → c ≡ reached_of b (a + k) → c ≡ choice_of q (m + n)
chosen q m n d e a k c b eb ed ea ee ek ec = choice_counted q (a + k) c b eb ec ∙ rw (ea, ek, ed, ee) (choice_near q m n)

pub packed_by-requires : goal.packed_by-requires
packed_by-requires c =
    (c.requires.0, (chosen c.args.t.base _ _ _ _ _ _ _ c.args.b c.requires.1 c.abs_diff.ensures (c.min.ensures ∙ min_comm _ _) c.abs_diff-2.ensures (c.min-2.ensures ∙ min_comm _ _) c.choice16.ensures.0, c.choice16.ensures.1))
