-- `read_block::reading::line` meets its contract: i passes have been read. Assumes nothing.
use mathlib.Core.List.{List}
use mathlib.Core.Path.{◌≡◌, refl, sym, ◌∙◌}
use Prim.Native.Nat.{ℕ, ◌+◌, ◌*◌, ◌≤◌}
use native.Mathlib.Omega.{arith}
use lib.ListN.{length}
use Rattle.image_map.specs.Places.{width_of}
use Rattle.image_map.proofs.PartLaws.{fits_kept}
use Rattle.pass_schedule.specs.Inside.{PlanInRange}
use Rattle.read_pass.proofs.RangeLaws.{pass_keeps}
use Rattle.read_pass.proofs.SiteLaws.{pass_was_read}
use Rattle.read_block.specs.Blocks.{read_line}
use Rattle.read_block.specs.Walks.{state_at}
use Rattle.read_block.specs.WindowedLines.{samples_in, Held, PassPlaced}
use Rattle.read_block.proofs.LineLaws.{so_far_none, planned, planned_in, planned_apart, width_in_range, long_as, held_as, pass_more, pass_cut, ended_past, ended_read}
use Rattle.read_block.proofs.PlacedLines.{only_none, only_more}
use Rattle.read_block.proofs.RangeLaws.{set_in_range, put_in_range}
use Rattle.read_block.proofs.reading.line.Goals as goal
use Rattle.read_block.proofs.reading.line.Goals.{After-pass, In_ok-done, After-window_plan-h, Joined-windowed, then-windowed, else-windowed}
use Rattle.std.specs.Prelude.{None}

-- the lines of the pass are there
there : (c : After-window_plan-h) →
    PlanInRange c.window_plan-h.result × ((c.window_plan-h.result.first + 1) * (c.width-w.result + 2) ≤ length c.loop-i.lines)
    × ((c.window_plan-h.result.second + 1) * (c.width-w.result + 2) ≤ length c.loop-i.lines)
there c =
    planned_in c.args.windowed _ c.loop-i.i _ _ _ _ c.loop-i-test.true c.plan_at-p.ensures
    c.window_plan-h.ensures c.loop-i.invariant.0.0 c.loop-i.invariant.1

cut : (c : After-pass) → c.pass.result ≡ None → (l : List ℕ) → length l ≡ 18 * (c.width-w.result + 2)
    → Held c.args.windowed c.width-w.result 0 l c.args.lines.now
    → read_line (record { bits = c.args.bits; xtrans = c.args.showing.now.xtrans }) c.args.qs.base c.args.block.now (state_at l c.args.rs.now c.args.from) ≡ None
cut c wrong l long held =
    pass_cut c.args.windowed (record { bits = c.args.bits; xtrans = c.args.showing.now.xtrans }) c.args.qs.base c.args.block.now _ c.args.showing.now.part c.args.n
    c.loop-i.i _ _ _ _ _ _ _ _ _ _ c.loop-i.invariant.0.0 c.requires.depth.0.1
    c.loop-i-test.true c.plan_at-p.ensures c.window_plan-h.ensures c.enter.ensures
    c.load_set-set.ensures c.loop-i.invariant.1 (c.loop-i.invariant.6 l long held) _
    c.pass.result c.pass.ensures.answer wrong

-- the pass was read to its end, after which there are still no more long codes than bits
counted : (c : In_ok-done) → c.in_ok-done.done.place.long ≤ c.in_ok-done.done.place.at.0
counted c =
    (pass_keeps _ _ _ _ c.requires.depth.0.1 _ _ _ (pass_was_read _ _ c.pass.result _ c.pass.ensures.answer c.in_ok-done.was)).counted c.loop-i.invariant.4

pub loop-i-init : goal.loop-i-init
loop-i-init c =
    let w = width_in_range c.args.showing.now.xtrans _ c.width-w.ensures in (
      (c.width-w.ensures, w.0, w.1, w.2),
      c.requires.block_len_bound.1.0,
      c.requires.block_len_bound.1.1,
      c.requires.all_in_range.0,
      c.requires.all_in_range.1,
      (c.requires.n_bound.1, only_none c.args.windowed c.args.showing.now.part c.args.n _),
      λ l long held. so_far_none c.args.windowed (record { bits = c.args.bits; xtrans = c.args.showing.now.xtrans }) c.args.qs.base
          c.width-w.result _ _ _ _ l _ _ _ _ long held,
    )

pub enter-requires : goal.enter-requires
enter-requires c =
    let t = there (goal.at.enter-requires c).After-window_plan-h in
    record {
      w_bound = (c.loop-i.invariant.0.2, (t.0.first_low, (t.0.first_high, t.1)));
      le_second = (t.0.second_low, (t.0.second_high, t.2));
    }

pub load_set-set-requires : goal.load_set-set-requires
load_set-set-requires c =
    (c.loop-i.invariant.2, (planned _ c.loop-i.i _ c.loop-i-test.true c.plan_at-p.ensures).1)

pub pass-requires : goal.pass-requires
pass-requires c =
    let t = there (goal.at.pass-requires c).After-window_plan-h in
    let g = (planned _ c.loop-i.i _ c.loop-i-test.true c.plan_at-p.ensures).1 in
    record {
      bytes = c.requires.block_len_bound.0;
      low = c.loop-i.invariant.0.1;
      high = c.loop-i.invariant.0.2;
      even = c.loop-i.invariant.0.3;
      room = (omega (arith, t.1, c.enter.auto), omega (arith, t.2, c.enter.auto));
      plan = t.0;
      apart = planned_apart c.args.windowed _ c.loop-i.i _ _ c.loop-i-test.true c.plan_at-p.ensures c.window_plan-h.ensures;
      depth = c.requires.depth.0;
      base = c.requires.depth.1.0;
      quantisers = c.requires.depth.1.1;
      records = rw c.load_set-set.ensures (set_in_range _ _ g c.loop-i.invariant.3);
      counted = c.loop-i.invariant.4;
    }

pub shape_of-image-in_err-done : goal.shape_of-image-in_err-done
shape_of-image-in_err-done c = c.loop-i.invariant.5.1.kept

pub returns-in_err-done : goal.returns-in_err-done
returns-in_err-done c =
    record {
      fact = λ m long held. rw (
        c.from_residual.ensures,
        cut (goal.at.returns-in_err-done c).After-pass c.in_err-done.was m (long_as _ _ m c.loop-i.invariant.0.0 long)
            (held_as c.args.windowed c.width-w.result _ 0 m c.args.lines.now c.loop-i.invariant.0.0 held),
      ) refl;
      all_in_range_2 = (c.loop-i.invariant.3, c.loop-i.invariant.5.1);
    }

pub store_set-requires : goal.store_set-requires
store_set-requires c =
    (c.loop-i.invariant.2, (planned _ c.loop-i.i _ c.loop-i-test.true c.plan_at-p.ensures).1)

pub emit_pass_at-requires : goal.emit_pass_at-requires
emit_pass_at-requires c =
    let kept : length c.pass.new.lines ≡ samples_in c.args.windowed c.args.showing.now.xtrans =
    omega (arith, c.pass.auto, c.enter.auto, c.loop-i.invariant.1) in
    record {
      n_bound = (
        c.requires.n_bound.0,
        (
          c.loop-i-test.true,
          rw c.if-windowed.true at kept,
        ),
      );
      fits = c.loop-i.invariant.5.0;
    }

-- the two colour lines go to the image in windows
pass_placed : (c : Joined-windowed) →
    PassPlaced c.args.windowed c.args.showing.now.xtrans (width_of c.args.showing.now.xtrans) c.args.showing.now.tile c.pass.new.lines
    c.args.showing.now.part c.args.n c.loop-i.i c.loop-i.image c.if-windowed.image
pass_placed c =
    elim c.if-windowed.branch [
      | then-windowed w ↦ rw (w.image-is, w.if-windowed.true) w.emit_pass_at.ensures
      | else-windowed w ↦ rw (w.image-is, w.if-windowed.false) (record { kept = refl; entries = λ i. refl })
    ]

pub loop-i-preserved : goal.loop-i-preserved
loop-i-preserved c =
    let g = (planned _ c.loop-i.i _ c.loop-i-test.true c.plan_at-p.ensures).1 in
    let e = c.store_set.ensures in
    let new = rw c.in_ok-done.was at c.pass.ensures.records in (
      c.loop-i.invariant.0,
      omega (arith, c.pass.auto, c.enter.auto, c.loop-i.invariant.1),
      omega (arith, c.store_set.auto, c.loop-i.invariant.2),
      rw e (put_in_range _ _ _ g c.loop-i.invariant.2 new c.loop-i.invariant.3),
      counted (goal.at.loop-i-preserved c).In_ok-done,
      (
        fits_kept _ _ _ (pass_placed (goal.at.loop-i-preserved c).Joined-windowed).kept c.loop-i.invariant.5.0,
        only_more c.args.windowed _ _ _ _ c.args.showing.now.part c.args.n _ _ _ _ _ _ _
            c.loop-i.invariant.5.1 (pass_placed (goal.at.loop-i-preserved c).Joined-windowed),
      ),
      λ m long held. rw e
          (pass_more c.args.windowed (record { bits = c.args.bits; xtrans = c.args.showing.now.xtrans }) c.args.qs.base c.args.block.now _ c.args.showing.now.part c.args.n
          c.loop-i.i _ _ _ _ _ _ _ _ _ _ c.loop-i.invariant.0.0
          c.requires.depth.0.1 c.loop-i-test.true c.plan_at-p.ensures c.window_plan-h.ensures c.enter.ensures
          c.load_set-set.ensures c.loop-i.invariant.1
          (c.loop-i.invariant.6 m long held) _ c.pass.result c.pass.ensures.answer _ c.in_ok-done.was _ c.loop-i.invariant.5.0 (rw (sym c.loop-i.invariant.0.0) at (pass_placed (goal.at.loop-i-preserved c).Joined-windowed))),
    )

pub returns-then-is_past : goal.returns-then-is_past
returns-then-is_past c =
    let past = sym c.is_past.ensures ∙ c.if-is_past.true in
    record {
      fact = λ m long held. rw (ended_past c.args.windowed (record { bits = c.args.bits; xtrans = c.args.showing.now.xtrans }) c.args.qs.base _ c.args.block.now _ c.args.showing.now.part c.args.n c.loop-i.i _ _ _ _ _ (omega arith)
          c.loop-i.auto.i-end (c.loop-i.invariant.6 m (long_as _ _ m c.loop-i.invariant.0.0 long) (held_as c.args.windowed c.width-w.result _ 0 m c.args.lines.now c.loop-i.invariant.0.0 held)) past)
          refl;
      all_in_range_2 = (c.loop-i.invariant.3, c.loop-i.invariant.5.1);
    }

pub returns : goal.returns
returns c =
    let past = sym c.is_past.ensures ∙ c.if-is_past.false in
    record {
      fact = λ m long held. ended_read c.args.windowed (record { bits = c.args.bits; xtrans = c.args.showing.now.xtrans }) c.args.qs.base c.width-w.result c.args.block.now _ c.args.showing.now.part c.args.n c.loop-i.i
          (state_at m c.args.rs.now c.args.from) _ _ _ _ (omega arith)
          c.loop-i.auto.i-end (c.loop-i.invariant.6 m (long_as _ _ m c.loop-i.invariant.0.0 long) (held_as c.args.windowed c.width-w.result _ 0 m c.args.lines.now c.loop-i.invariant.0.0 held)) past
          (record { image = c.args.image.now; lines = c.args.lines.now; records = c.args.rs.now }) c.loop-i.invariant.5.1 _ c.loop-i.invariant.0.0;
      all_in_range_2 = (c.loop-i.invariant.3, c.loop-i.invariant.5.1);
    }

pub shape_of-image-then-is_past : goal.shape_of-image-then-is_past
shape_of-image-then-is_past c = c.loop-i.invariant.5.1.kept

pub shape_of-image : goal.shape_of-image
shape_of-image c = c.loop-i.invariant.5.1.kept
