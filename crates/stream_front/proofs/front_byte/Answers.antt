-- `stream_front::front_byte` meets its contract. Assumes nothing.
use mathlib.Core.Path.{◌∙◌}
use native.Mathlib.Omega.{arith}
use Rattle.stream_front.proofs.FrontLaws.{front_head, front_size, front_fill, row_asks, fill_row}
use Rattle.stream_front.proofs.front_byte.Goals as goal

pub returns-then-i-lt16 : goal.returns-then-i-lt16
returns-then-i-lt16 c = front_head _ _ _ _ _ c.if-i-lt16.true

pub returns-then-i-blocks : goal.returns-then-i-blocks
returns-then-i-blocks c = c.size_byte.ensures ∙ front_size _ _ _ _ _ c.if-i-lt16.false c.if-i-blocks.true

pub returns-then-i-start : goal.returns-then-i-start
returns-then-i-start c =
    front_fill _ _ _ _ _ c.if-i-blocks.false (omega (arith, c.if-i-start.true, c.padded-start.ensures.0))

pub row_byte-requires : goal.row_byte-requires
row_byte-requires c =
    row_asks c.args.h c.args.i _ _ _ _ c.requires.ruled.0.blocks_high c.requires.ruled.0.lines_high c.padded-start.ensures.0
    c.row_length-row.ensures.0
    c.row_length-row.ensures.1 c.padded.ensures.0 c.requires.lengths_len.1 c.requires.ruled.1.1 c.if-i-start.false

pub returns : goal.returns
returns c =
    fill_row _ _ _ _ _ _ _ _ _ c.padded-start.ensures.0 c.row_length-row.ensures.0 c.padded.ensures.0 c.if-i-start.false
    c.row_byte.ensures
