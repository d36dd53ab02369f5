-- `read_block::tight::tight_answer` meets its contract, by what the walk says. Assumes nothing.
use mathlib.Core.Path.{sym, ◌∙◌}
use Rattle.read_block.proofs.TightLaws.{cut_off, loose, accepted, wrong_tail}
use Rattle.read_block.proofs.tight.tight_answer.Goals as goal

pub returns-then-tight-count : goal.returns-then-tight-count
returns-then-tight-count c =
    loose c.args.form c.args.s.now c.args.b c.args.count _ _ c.args.got c.requires.1 c.in-Ok.is c.if-tight-count.true

pub returns-then-is_tail : goal.returns-then-is_tail
returns-then-is_tail c =
    accepted c.args.form c.args.s.now c.args.b c.args.count _ _ c.args.got c.requires.1 c.in-Ok.is c.if-tight-count.false
    (sym c.if-is_tail.true ∙ c.is_tail.ensures)

pub returns-in-Err : goal.returns-in-Err
returns-in-Err c =
    cut_off c.args.form c.args.s.now c.args.b c.args.count _ _ c.args.got c.requires.1 c.in-Err.is

pub returns-else-is_tail : goal.returns-else-is_tail
returns-else-is_tail c =
    wrong_tail c.args.form c.args.s.now c.args.b c.args.count _ _ c.args.got c.requires.1 c.in-Ok.is c.if-tight-count.false
    (sym c.if-is_tail.false ∙ c.is_tail.ensures)
