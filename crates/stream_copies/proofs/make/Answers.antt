-- `stream_copies::make` meets its contract, by how it begins. Assumes nothing.
use mathlib.Core.Path.{◌≡◌, refl, sym, ap, ◌∙◌}
use native.Mathlib.Omega.{arith}
use lib.ListN.{length, replicate}
use Prim.Native.Nat.{ℕ}
use Rattle.stream.proofs.StreamLaws.{opened}
use Rattle.stream_copies.specs.MadeStreams.{is_tight_call}
use Rattle.stream_copies.proofs.RoomLaws.{room_accepted}
use Rattle.stream_copies.proofs.MadeLaws.{made_refused, made_on, opens_on, fits_on, ruled_on, front_on, zeros_taken, made_behind}
use Rattle.numbers.proofs.PassedLaws.{passed_on}
use Rattle.stream_copies.proofs.make.Goals as goal

pub room_begins-requires : goal.room_begins-requires
room_begins-requires c = (opened c.args.d.now c.args.h c.requires.0).ruled

pub front_length-front-requires : goal.front_length-front-requires
front_length-front-requires c =
    let k = room_accepted _ _ _ _ _ _ _ (sym c.room_begins.ensures ∙ c.in_ok-g.was) in
    ruled_on c.args.d.now c.args.h _ k.header c.requires.0 _ _ c.kind_of.ensures

pub clear_front-requires : goal.clear_front-requires
clear_front-requires c =
    let k = room_accepted _ _ _ _ _ _ _ (sym c.room_begins.ensures ∙ c.in_ok-g.was) in
    omega (
      arith,
      k.front,
      front_on (is_tight_call c.args.rows.now) c.in_ok-g.g _ _
          c.kind_of.ensures c.front_length-front.ensures.0,
    )

pub make_in-made-requires : goal.make_in-made-requires
make_in-made-requires c =
    let k = room_accepted _ _ _ _ _ _ _ (sym c.room_begins.ensures ∙ c.in_ok-g.was) in
    let f = front_on (is_tight_call c.args.rows.now) c.in_ok-g.g _ _ c.kind_of.ensures c.front_length-front.ensures.0 in
    record {
      d_value = (
        opens_on c.args.d.now c.args.h _ k.header c.requires.0,
        fits_on c.args.d.now c.args.h _ k.header c.requires.0
            c.args.rows.now c.requires.1,
      );
      set_len = (k.whole, k.fits);
      front_value = (f, (omega (arith, k.front, f, c.clear_front.auto), zeros_taken c.front_length-front.result c.args.out.now _ c.clear_front.ensures));
    }

pub returns-in_err-g : goal.returns-in_err-g
returns-in_err-g c = rw (passed_on _ _ c.from_residual.ensures) (made_refused c.args.d.now c.args.rows.now (record {
  out = c.args.out.now;
  set = c.args.set.now;
  lines = c.args.lines.now;
  records = c.args.rs.now;
}) _ _
    (sym c.room_begins.ensures ∙ c.in_err-g.was))

pub returns : goal.returns
returns c =
    let e = sym c.room_begins.ensures ∙ c.in_ok-g.was in
    let k = room_accepted _ _ _ _ _ _ _ e in
    let f = front_on (is_tight_call c.args.rows.now) c.in_ok-g.g _ _ c.kind_of.ensures c.front_length-front.ensures.0 in
    let long : length c.make_in-made.new.set ≡ length c.args.set.now = omega (arith, c.make_in-made.auto) in
    made_on c.args.d.now c.args.rows.now (record {
      out = c.args.out.now;
      set = c.args.set.now;
      lines = c.args.lines.now;
      records = c.args.rs.now;
    }) _ _ e _ _
    (made_behind c.args.d.now c.in_ok-g.g c.args.rows.now (opens_on c.args.d.now c.args.h _ k.header c.requires.0)
    (fits_on c.args.d.now c.args.h _ k.header c.requires.0 c.args.rows.now c.requires.1) _ _ _ _ _ _ f c.clear_front.ensures
    (omega (arith, c.clear_front.auto)) refl refl c.make_in-made.ensures refl
    (c.clear.ensures ∙ ap (λ (n : ℕ). replicate n 0) long) refl refl)
