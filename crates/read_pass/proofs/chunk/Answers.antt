-- `read_pass::chunk` meets its contract: after each turn the steps of the turns so far are read, and what was made ahead is right still. Assumes nothing.
use mathlib.Core.Path.{◌≡◌, refl, ◌∙◌}
use Prim.Native.Nat.{◌+◌, ◌-◌, ◌*◌, ◌≤◌, ◌<◌}
use native.Mathlib.Omega.{arith}
use lib.ListN.{length}
use Rattle.pass_schedule.specs.Steps.{even_part, upto}
use Rattle.pass_steps.specs.Values.{SetInRange, AreKs}
use Rattle.pass_ahead.specs.Arrays.{Ahead}
use Rattle.pass_ahead.proofs.AheadLaws.{ahead_kept}
use Rattle.read_pass.specs.Readings.{Reading}
use Rattle.read_pass.specs.Pairs.{held}
use Rattle.read_pass.proofs.RangeLaws.{reads_keep}
use Rattle.read_pass.proofs.AboveLaws.{both_above}
use Rattle.read_pass.proofs.StepLaws.{StepsGive, no_steps, evens_here, evens_over, odds_here, odds_not_yet, turn_more, evens_cut_off, odds_cut_off}
use Rattle.read_pass.proofs.SiteLaws.{met, steps_met, ranges_met, ks_met, length_met, ahead_met, holds_on, pair_was_cut_off, pair_was_at, pair_cut_off}
use Rattle.read_pass.proofs.chunk.Goals as goal
use Rattle.read_pass.proofs.chunk.Goals.{then-p-w+in_ok-place, else-p-w, In-loop-h, Joined-p-w, then-p-ge8+in_ok-place-2, else-p-ge8}
use Rattle.std.specs.Prelude.{Some}

-- there are no more long codes than bits
counted : (c : In-loop-h) → c.loop-h.place.long ≤ c.loop-h.place.at.0
counted c =
    (reads_keep _ _ _ _ c.requires.chunk_asks.holds.depth.1 _ _ _ c.loop-h.invariant.read.are).counted c.requires.chunk_asks.holds.counted

-- ---- where the two ways past it meet
abbrev middle : (c : Joined-p-w) → Reading
middle c = held c.if-p-w.lines c.if-p-w.sums c.if-p-w.ns c.if-p-w.place

record Met (c : Joined-p-w) : Type 0 where
  read :
      StepsGive c.args.spot.bits c.args.base c.args.spot.w c.args.block.now (even_part c.args.spot.w c.args.spot.plan (c.args.spot.p + 2 * c.loop-h.h))
      (held c.loop-h.lines c.loop-h.sums c.loop-h.ns c.loop-h.place) (Some (middle c))
  in_range : SetInRange (middle c).set
  ks_kept : AreKs (middle c).set c.if-p-w.ks
  same : length (middle c).lines ≡ length c.args.lines.now
  one : Ahead c.args.base c.args.spot.w (middle c).lines c.args.spot.plan.first c.args.spot.p c.args.n c.args.first.now
  two : Ahead c.args.base c.args.spot.w (middle c).lines c.args.spot.plan.second c.args.spot.p c.args.n c.args.second.now

evens : (c : Joined-p-w) → Met c
evens c =
    elim c.if-p-w.branch [
      | then-p-w+in_ok-place w ↦
          let m = met w.lines-is w.sums-is w.ns-is w.place-is in
          let at = pair_was_at _ _ _ _ _ _ _ _ _ w.even_pair.ensures.answer w.in_ok-place.was in
          let up = both_above _ c.args.spot.plan c.requires.chunk_asks.holds.apart _ w.if-p-w.true at in
          record {
            read = steps_met m (evens_here c.args.spot.plan _ w.if-p-w.true at);
            in_range = ranges_met m w.even_pair.ensures.records;
            ks_kept = ks_met m w.ks-is w.even_pair.ensures.ks_kept;
            same = length_met m ∙ (w.even_pair.auto.lines ∙ c.loop-h.invariant.same);
            one = ahead_met m (ahead_kept _ _ _ _ _ c.requires.chunk_asks.holds.plan.first_low up.0 _ _ _ c.requires.chunk_asks.ends c.loop-h.invariant.one);
            two = ahead_met m (ahead_kept _ _ _ _ _ c.requires.chunk_asks.holds.plan.second_low up.1 _ _ _ c.requires.chunk_asks.ends c.loop-h.invariant.two);
          }
      | else-p-w w ↦
          let m = met w.lines-is w.sums-is w.ns-is w.place-is in
          record {
            read = steps_met m (evens_over c.args.spot.plan _ w.if-p-w.false);
            in_range = ranges_met m c.loop-h.invariant.records;
            ks_kept = ks_met m w.ks-is c.loop-h.invariant.ks_kept;
            same = length_met m ∙ c.loop-h.invariant.same;
            one = ahead_met m c.loop-h.invariant.one;
            two = ahead_met m c.loop-h.invariant.two;
          }
    ]

-- ---- the odd position
-- it is one of the line
within : (c : Joined-p-w) → c.args.spot.p + 2 * c.loop-h.h - 7 < c.args.spot.w
within c = omega (arith, c.loop-h-test.true, c.requires.chunk_asks.ends, c.requires.chunk_asks.low)

pub loop-h-init : goal.loop-h-init
unfolding upto
loop-h-init c =
    record {
      same = refl;
      records = c.requires.chunk_asks.holds.records;
      ks_kept = c.requires.chunk_asks.holds.ks_kept;
      one = c.requires.ahead.0;
      two = c.requires.ahead.1;
      read = no_steps;
    }

-- ---- the even position
pub even_pair-requires : goal.even_pair-requires
even_pair-requires c =
    record {
      pair_asks = record { holds = holds_on c.requires.chunk_asks.holds c.loop-h.invariant.same c.loop-h.invariant.records c.loop-h.invariant.ks_kept (counted (goal.at.even_pair-requires c).In-loop-h); inside = c.if-p-w.true };
      both_even = record { even = omega (arith, c.requires.chunk_asks.begins); entry = omega (arith, c.loop-h-test.true, c.requires.chunk_asks.most); one = c.loop-h.invariant.one.evens _ c.loop-h-test.true c.if-p-w.true; two = c.loop-h.invariant.two.evens _ c.loop-h-test.true c.if-p-w.true };
      coded = (c.even_codes-first_codes.ensures, c.even_codes-second_codes.ensures);
    }

pub returns-in_err-place : goal.returns-in_err-place
returns-in_err-place c =
    let cut = pair_was_cut_off _ _ _ _ _ _ _ _ _ c.even_pair.ensures.answer c.in_err-place.was in
    record {
      answer = rw c.from_residual.ensures (pair_cut_off _ _ _ (evens_cut_off c.args.spot.plan _ _ c.loop-h.invariant.read c.requires.chunk_asks.begins _ c.loop-h-test.true c.if-p-w.true cut));
      records = c.even_pair.ensures.records;
      ks_kept = c.even_pair.ensures.ks_kept;
    }

pub odd_pair-requires : goal.odd_pair-requires
odd_pair-requires c =
    let e = evens (goal.at.odd_pair-requires c).Joined-p-w in
    let few = (reads_keep _ _ _ _ c.requires.chunk_asks.holds.depth.1 _ _ _ e.read.are).counted (counted (goal.at.odd_pair-requires c).In-loop-h) in record {
      pair_asks = record { holds = holds_on c.requires.chunk_asks.holds e.same e.in_range e.ks_kept few; inside = within (goal.at.odd_pair-requires c).Joined-p-w };
      by_flatness = (
        c.requires.chunk_asks.flats,
        record {
          odd = omega (arith, c.requires.chunk_asks.begins, c.if-p-ge8.true);
          entry = omega (arith, c.loop-h-test.true, c.requires.chunk_asks.most);
          one = e.one.odds _ c.loop-h-test.true c.if-p-ge8.true;
          two = e.two.odds _ c.loop-h-test.true c.if-p-ge8.true;
        },
      );
    }

pub returns-in_err-place-2 : goal.returns-in_err-place-2
returns-in_err-place-2 c =
    let cut = pair_was_cut_off _ _ _ _ _ _ _ _ _ c.odd_pair.ensures.answer c.in_err-place-2.was in
    record {
      answer = rw c.from_residual-in_err-place-2.ensures (pair_cut_off _ _ _ (odds_cut_off c.args.spot.plan _ _ c.loop-h.invariant.read c.requires.chunk_asks.begins _ c.loop-h-test.true c.if-p-ge8.true (evens (goal.at.returns-in_err-place-2 c).Joined-p-w).read cut));
      records = c.odd_pair.ensures.records;
      ks_kept = c.odd_pair.ensures.ks_kept;
    }

-- ---- the turn's end
pub loop-h-preserved : goal.loop-h-preserved
loop-h-preserved c =
    let e = evens (goal.at.loop-h-preserved c).Joined-p-w in
    elim c.if-p-ge8.branch [
      | then-p-ge8+in_ok-place-2 w ↦ let m = met w.lines-is w.sums-is w.ns-is w.place-is in
          let at = pair_was_at _ _ _ _ _ _ _ _ _ w.odd_pair.ensures.answer w.in_ok-place-2.was in
          let up = both_above _ c.args.spot.plan c.requires.chunk_asks.holds.apart _ (within (goal.at.loop-h-preserved c).Joined-p-w) at in
          record {
            same = length_met m ∙ (w.odd_pair.auto.lines ∙ e.same);
            records = ranges_met m w.odd_pair.ensures.records;
            ks_kept = ks_met m w.ks-is w.odd_pair.ensures.ks_kept;
            one = ahead_met m (ahead_kept _ _ _ _ _ c.requires.chunk_asks.holds.plan.first_low up.0 _ _ _ c.requires.chunk_asks.ends e.one);
            two = ahead_met m (ahead_kept _ _ _ _ _ c.requires.chunk_asks.holds.plan.second_low up.1 _ _ _ c.requires.chunk_asks.ends e.two);
            read = turn_more c.args.spot.plan _ _ c.loop-h.invariant.read c.requires.chunk_asks.begins e.read (steps_met m (odds_here c.args.spot.plan _ w.if-p-ge8.true at));
          }
      | else-p-ge8 w ↦ let m = met w.lines-is w.sums-is w.ns-is w.place-is in
          record {
            same = length_met m ∙ e.same;
            records = ranges_met m e.in_range;
            ks_kept = ks_met m w.ks-is e.ks_kept;
            one = ahead_met m e.one;
            two = ahead_met m e.two;
            read = turn_more c.args.spot.plan _ _ c.loop-h.invariant.read c.requires.chunk_asks.begins e.read (steps_met m (odds_not_yet c.args.spot.plan _ w.if-p-ge8.false));
          }
    ]
