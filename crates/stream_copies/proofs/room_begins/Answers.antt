-- `stream_copies::room_begins` meets its contract. Assumes nothing.
use Rattle.stream_copies.proofs.RoomLaws.{room_count, room_scratch, room_ruled, room_short, room_on}
use Rattle.numbers.proofs.PassedLaws.{passed_on}
use Rattle.stream_copies.proofs.room_begins.Goals as goal

pub returns-then-count-set_size : goal.returns-then-count-set_size
returns-then-count-set_size c = room_count _ _ _ _ _ _ _ c.set_size.ensures c.if-count-set_size.true

pub front_length-requires : goal.front_length-requires
front_length-requires c =
    room_ruled c.args.h c.args.tight 0 c.args.count c.args.samples c.args.records _ c.set_size.ensures c.if-count-set_size.false _
    c.with_scratch.ensures _ c.in_ok-g.was c.requires _ c.kind_of.ensures

pub returns-then-room-front_length : goal.returns-then-room-front_length
returns-then-room-front_length c =
    room_short _ _ _ _ _ _ _ c.set_size.ensures c.if-count-set_size.false _ c.with_scratch.ensures _
    c.in_ok-g.was _ c.kind_of.ensures _
    c.front_length.ensures.0 c.if-room-front_length.true

pub returns-in_err-g : goal.returns-in_err-g
returns-in_err-g c = rw (passed_on _ _ c.from_residual.ensures) (room_scratch _ _ _ _ _ _ _ c.set_size.ensures c.if-count-set_size.false _
    c.with_scratch.ensures _ c.in_err-g.was)

pub returns : goal.returns
returns c =
    room_on _ _ _ _ _ _ _ c.set_size.ensures c.if-count-set_size.false _ c.with_scratch.ensures _
    c.in_ok-g.was _ c.kind_of.ensures _
    c.front_length.ensures.0 c.if-room-front_length.false
