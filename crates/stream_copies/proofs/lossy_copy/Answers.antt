-- `stream_copies::lossy_copy` meets its contract. Assumes nothing.
use mathlib.Core.Bool.{true}
use mathlib.Core.Path.{refl}
use native.Mathlib.Omega.{arith}
use Rattle.stream.proofs.StreamLaws.{opened}
use Rattle.stream_front.proofs.FrontLaws.{product_le}
use Rattle.stream_copies.specs.MadeStreams.{Lent}
use Rattle.stream_copies.proofs.MadeLaws.{open_refused, is_open, lossy_wrong, lossy_made}
use Rattle.numbers.proofs.PassedLaws.{passed_on}
use Rattle.stream_copies.proofs.lossy_copy.Goals as goal

pub overflow_mul-blocks : goal.overflow_mul-blocks
overflow_mul-blocks c =
    let before : Lent = record { out = c.args.out.now; set = c.args.set.now; lines = c.args.lines.now; records = c.args.rs.now } in
    let R = (opened c.args.d.now c.in_ok-h.h (is_open c.args.d.now c.args.bases.now before _ _ c.open.ensures
    c.in_ok-h.was)).ruled in
    omega (arith, product_le c.in_ok-h.h.blocks c.in_ok-h.h.lines R.blocks_high (omega (arith, R.lines_high)))

pub returns-then-bases-blocks : goal.returns-then-bases-blocks
returns-then-bases-blocks c =
    lossy_wrong c.args.d.now c.args.bases.now (record {
      out = c.args.out.now;
      set = c.args.set.now;
      lines = c.args.lines.now;
      records = c.args.rs.now;
    }) _ _
    c.open.ensures c.in_ok-h.was _ _ refl refl c.if-bases-blocks.true

pub make-requires : goal.make-requires
make-requires c =
    let before : Lent = record { out = c.args.out.now; set = c.args.set.now; lines = c.args.lines.now; records = c.args.rs.now } in (
      is_open c.args.d.now c.args.bases.now before _ _ c.open.ensures c.in_ok-h.was,
      λ e.
          c.if-bases-blocks.false,
    )

pub returns-in_err-h : goal.returns-in_err-h
returns-in_err-h c = rw (passed_on _ _ c.from_residual.ensures) (open_refused c.args.d.now c.args.bases.now (record {
  out = c.args.out.now;
  set = c.args.set.now;
  lines = c.args.lines.now;
  records = c.args.rs.now;
}) true _ _
    c.open.ensures c.in_err-h.was)

pub returns : goal.returns
returns c =
    lossy_made c.args.d.now c.args.bases.now (record {
      out = c.args.out.now;
      set = c.args.set.now;
      lines = c.args.lines.now;
      records = c.args.rs.now;
    }) _ _
    c.open.ensures c.in_ok-h.was _ _ refl refl
    c.if-bases-blocks.false _ _ c.make.ensures
