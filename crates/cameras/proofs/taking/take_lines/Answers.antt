-- `cameras::taking::take_lines` meets its contract: line by line, until one has no entry. Assumes nothing.
use Rattle.std.proofs.Common.{sym, refl, arith}
use Rattle.cameras.proofs.EntryLaws.{took_none, lines_none, line_taken, line_left, numbered_with}
use Rattle.cameras.proofs.taking.take_lines.Goals as goal

pub loop-n-init : goal.loop-n-init
loop-n-init c = (took_none _ _ _ _, lines_none _ _ _ _, c.requires.all_numbered)

pub returns-in_default-clause-lines_value : goal.returns-in_default-clause-lines_value
returns-in_default-clause-lines_value c =
    let none = sym c.in_default.ensures in
    (line_left _ _ _ _ _ _ _ _ _ c.loop-n.invariant.0 c.loop-n.invariant.1 c.base_of.ensures.0 (omega arith) none refl, omega arith)

pub loop-n-preserved : goal.loop-n-preserved
loop-n-preserved c =
    let m = line_taken _ _ _ _ _ c.args.count _ _ _ c.loop-n.invariant.0 c.loop-n.invariant.1 c.base_of.ensures.0 (omega arith) (sym c.in-Some.ensures.0) _ c.in-Some.ensures.1 refl in (
      m.1,
      m.2,
      rw c.in-Some.ensures.1 (numbered_with _ _ _ _ c.requires.le_bits.0 c.requires.le_bits.1.0 c.base_of.ensures.1 c.loop-n.invariant.2),
    )
