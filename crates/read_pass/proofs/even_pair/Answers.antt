-- `read_pass::even_pair` meets its contract: two steps, each interpolated or by the answers of the leaves. Assumes nothing.
use mathlib.Core.Bool.{true, not}
use mathlib.Core.Path.{◌≡◌, refl, sym, ◌∙◌}
use Prim.Native.Nat.{◌≤◌}
use native.Mathlib.Omega.{arith}
use lib.ListN.{length, length-set}
use Rattle.pass_schedule.specs.Steps.{interpolated, step_at}
use Rattle.pass_schedule.proofs.ScheduleLaws.{coded_evens}
use Rattle.pass_steps.specs.Values.{SetInRange, AreKs}
use Rattle.pass_ahead.specs.Arrays.{EvenHere}
use Rattle.pass_ahead.proofs.AheadLaws.{even_here_kept}
use Rattle.read_pass.specs.Readings.{Reading}
use Rattle.read_pass.specs.Pairs.{held}
use Rattle.read_pass.proofs.RangeLaws.{step_keeps}
use Rattle.read_pass.proofs.AboveLaws.{second_above}
use Rattle.read_pass.proofs.StepLaws.{StepGives, two_steps, first_none_lem}
use Rattle.read_pass.proofs.SiteLaws.{line_end, site_interpolated, packed_small, CodedAt, even_coded, k_known, limit_known, raw_fits, total_known, step_known}
use Rattle.read_pass.proofs.SiteLaws.{site_cut_off, site_read, taken_small, met, step_met, ranges_met, ks_met, length_met, pair_cut_off, pair_at}
use Rattle.read_pass.proofs.even_pair.Goals as goal
use Rattle.read_pass.proofs.even_pair.Goals.{then-at+in_ok-code, else-at, After-even_coding-c, After-even_coding-c-then-at-2, Joined-at}
use Rattle.std.specs.Prelude.{Some}

first : (c : After-even_coding-c) →
    CodedAt c.args.turn.spot.bits c.args.turn.base c.args.turn.spot.w c.args.turn.spot.plan.first c.args.turn.spot.p c.args.block.now c.args.lines.now
    c.args.sums.now c.args.ns.now c.args.steps.now c.args.limits.now c.args.totals.now c.even_coding-c.result
first c =
    even_coded c.requires.pair_asks.holds.plan.first_low c.requires.pair_asks.holds.plan.first_high c.requires.pair_asks.holds.width c.requires.pair_asks.inside c.requires.pair_asks.holds.room.0 c.requires.pair_asks.holds.tables c.requires.pair_asks.holds.depth c.requires.pair_asks.holds.base c.requires.pair_asks.holds.ks_kept _ c.requires.both_even.even
    c.requires.both_even.one c.left_of-i.ensures.0 c.even_coding-c.ensures.value c.even_coding-c.ensures.prediction_bound

-- ---- where the two ways to it meet
abbrev middle : (c : Joined-at) → Reading
middle c = held c.if-at.lines c.if-at.sums c.if-at.ns c.if-at.place

record Met (c : Joined-at) : Type 0 where
  read :
      StepGives c.args.turn.spot.bits c.args.turn.base c.args.turn.spot.w c.args.block.now
      (step_at c.args.turn.spot.plan.first c.args.turn.spot.p (not (interpolated c.args.turn.spot.plan.first_rule c.args.turn.spot.p)))
      (held c.args.lines.now c.args.sums.now c.args.ns.now c.args.from) (Some (middle c))
  in_range : SetInRange (middle c).set
  ks_kept : AreKs (middle c).set c.if-at.ks
  same : length (middle c).lines ≡ length c.args.lines.now

one : (c : Joined-at) → Met c
one c =
    let coded = sym (c.at.ensures ∙ coded_evens _ _ _ c.requires.both_even.even c.requires.coded.0) in
    elim c.if-at.branch [
      | then-at+in_ok-code w ↦
          let o : CodedAt c.args.turn.spot.bits c.args.turn.base c.args.turn.spot.w c.args.turn.spot.plan.first c.args.turn.spot.p c.args.block.now c.args.lines.now
          c.args.sums.now c.args.ns.now c.args.steps.now c.args.limits.now c.args.totals.now w.even_coding-c.result =
          even_coded c.requires.pair_asks.holds.plan.first_low c.requires.pair_asks.holds.plan.first_high c.requires.pair_asks.holds.width c.requires.pair_asks.inside c.requires.pair_asks.holds.room.0 c.requires.pair_asks.holds.tables c.requires.pair_asks.holds.depth c.requires.pair_asks.holds.base c.requires.pair_asks.holds.ks_kept _ c.requires.both_even.even
          c.requires.both_even.one c.left_of-i.ensures.0 w.even_coding-c.ensures.value w.even_coding-c.ensures.prediction_bound in
          let m = met w.lines-is w.sums-is w.ns-is w.place-is in
          let new = w.update_by.ensures in
          record {
            read = step_met m (site_read o (coded ∙ w.if-at.true) w.taken.ensures.0 w.in_ok-code.was w.put_sample.ensures new.ns_after);
            in_range = ranges_met m new.set_in_range_2;
            ks_kept = ks_met m w.ks-is new.are_ks_2;
            same = length_met m ∙ w.put_sample.auto.lines;
          }
      | else-at w ↦
          let m = met w.lines-is w.sums-is w.ns-is w.place-is in
          record {
            read = step_met m (site_interpolated c.requires.pair_asks.holds.plan.first_low c.requires.both_even.even c.requires.both_even.one c.left_of-i.ensures.0 (coded ∙ w.if-at.false) refl);
            in_range = ranges_met m c.requires.pair_asks.holds.records;
            ks_kept = ks_met m w.ks-is c.requires.pair_asks.holds.ks_kept;
            same = rw w.lines-is (length-set c.args.lines.now _ _);
          }
    ]

-- there are no more long codes than bits
counted : (c : Joined-at) → c.if-at.place.long ≤ c.if-at.place.at.0
counted c =
    (step_keeps _ _ _ _ c.requires.pair_asks.holds.depth.1 _ _ _ (one c).read.is).counted c.requires.pair_asks.holds.counted

-- what was made ahead of the second sample is right still
here : (c : Joined-at) →
    EvenHere c.args.turn.base c.args.turn.spot.w c.if-at.lines c.args.turn.spot.plan.second c.args.turn.spot.p c.args.turn.entry c.args.second.now
here c =
    even_here_kept _ _ _ _ _ c.requires.pair_asks.holds.plan.second_low (second_above _ c.args.turn.spot.plan c.requires.pair_asks.holds.apart _ c.requires.pair_asks.inside (one c).read) _ _ _ c.requires.pair_asks.inside
    c.requires.both_even.two

second : (c : After-even_coding-c-then-at-2) →
    CodedAt c.args.turn.spot.bits c.args.turn.base c.args.turn.spot.w c.args.turn.spot.plan.second c.args.turn.spot.p c.args.block.now c.if-at.lines
    c.if-at.sums c.if-at.ns c.args.steps.now c.args.limits.now c.args.totals.now c.even_coding-c-then-at-2.result
second c =
    even_coded c.requires.pair_asks.holds.plan.second_low c.requires.pair_asks.holds.plan.second_high c.requires.pair_asks.holds.width c.requires.pair_asks.inside (omega (arith, c.requires.pair_asks.holds.room.1, (one (goal.at.After-even_coding-c-then-at-2 c).Joined-at).same)) c.requires.pair_asks.holds.tables c.requires.pair_asks.holds.depth c.requires.pair_asks.holds.base
    (one (goal.at.After-even_coding-c-then-at-2 c).Joined-at).ks_kept _ c.requires.both_even.even (here (goal.at.After-even_coding-c-then-at-2 c).Joined-at) c.left_of-j.ensures.0 c.even_coding-c-then-at-2.ensures.value c.even_coding-c-then-at-2.ensures.prediction_bound

-- it has a code
coded_2 : (c : After-even_coding-c-then-at-2) →
    not (interpolated c.args.turn.spot.plan.second_rule c.args.turn.spot.p) ≡ true
coded_2 c = sym (c.at-2.ensures ∙ coded_evens _ _ _ c.requires.both_even.even c.requires.coded.1) ∙ c.if-at-2.true

pub even_coding-c-requires : goal.even_coding-c-requires
even_coding-c-requires c = (c.requires.pair_asks.holds.depth.1, (c.requires.both_even.entry, packed_small _ _ _ c.requires.both_even.one.look))

pub taken-requires : goal.taken-requires
taken-requires c =
    record {
      block_len_bound = (c.requires.pair_asks.holds.bytes, (k_known (first c), (limit_known (first c), raw_fits (first c))));
      long_le_at = c.requires.pair_asks.holds.counted;
    }

pub returns-in_err-code : goal.returns-in_err-code
returns-in_err-code c =
    let coded = sym (c.at.ensures ∙ coded_evens _ _ _ c.requires.both_even.even c.requires.coded.0) ∙ c.if-at.true in
    let cut = site_cut_off (first (goal.at.returns-in_err-code c).After-even_coding-c) coded c.taken.ensures.0 c.in_err-code.was in
    record { answer = rw c.from_residual.ensures (pair_cut_off _ _ _ (first_none_lem cut)); records = c.requires.pair_asks.holds.records; ks_kept = c.requires.pair_asks.holds.ks_kept }

pub put_sample-requires : goal.put_sample-requires
put_sample-requires c =
    let small = taken_small c.taken.ensures.1 c.in_ok-code.was in
    record {
      coding_fits = ((first (goal.at.put_sample-requires c).After-even_coding-c).fits, (small, total_known (first (goal.at.put_sample-requires c).After-even_coding-c)));
      slot_bound = step_known (first (goal.at.put_sample-requires c).After-even_coding-c);
    }

pub update_by-requires : goal.update_by-requires
update_by-requires c =
    let small = taken_small c.taken.ensures.1 c.in_ok-code.was in
    record {
      code_bound = (small, ((first (goal.at.update_by-requires c).After-even_coding-c).fits.slot, (c.requires.pair_asks.holds.becomes, c.requires.pair_asks.holds.lengths)));
      set_in_range = c.requires.pair_asks.holds.records;
      are_ks = c.requires.pair_asks.holds.ks_kept;
    }

pub bounds-lines-i : goal.bounds-lines-i
bounds-lines-i c =
    omega (arith, line_end _ _ _ c.requires.pair_asks.inside c.left_of-i.ensures.0, c.requires.pair_asks.holds.room.0)

pub even_coding-c-requires-then-at-2 : goal.even_coding-c-requires-then-at-2
even_coding-c-requires-then-at-2 c =
    (c.requires.pair_asks.holds.depth.1, (c.requires.both_even.entry, packed_small _ _ _ (here (goal.at.even_coding-c-requires-then-at-2 c).Joined-at).look))

pub taken-requires-then-at-2 : goal.taken-requires-then-at-2
taken-requires-then-at-2 c =
    record {
      block_len_bound = (c.requires.pair_asks.holds.bytes, (k_known (second c), (limit_known (second c), raw_fits (second c))));
      long_le_at = counted (goal.at.taken-requires-then-at-2 c).Joined-at;
    }

pub returns-in_err-code-2 : goal.returns-in_err-code-2
returns-in_err-code-2 c =
    let m = one (goal.at.returns-in_err-code-2 c).Joined-at in
    let cut = site_cut_off (second (goal.at.returns-in_err-code-2 c).After-even_coding-c-then-at-2) (coded_2 (goal.at.returns-in_err-code-2 c).After-even_coding-c-then-at-2) c.taken-then-at-2.ensures.0 c.in_err-code-2.was in
    record { answer = rw c.from_residual-in_err-code-2.ensures (pair_cut_off _ _ _ (two_steps m.read cut)); records = m.in_range; ks_kept = m.ks_kept }

pub put_sample-requires-then-at-2 : goal.put_sample-requires-then-at-2
put_sample-requires-then-at-2 c =
    let small = taken_small c.taken-then-at-2.ensures.1 c.in_ok-code-2.was in
    record {
      coding_fits = ((second (goal.at.put_sample-requires-then-at-2 c).After-even_coding-c-then-at-2).fits, (small, total_known (second (goal.at.put_sample-requires-then-at-2 c).After-even_coding-c-then-at-2)));
      slot_bound = step_known (second (goal.at.put_sample-requires-then-at-2 c).After-even_coding-c-then-at-2);
    }

pub update_by-requires-then-at-2 : goal.update_by-requires-then-at-2
update_by-requires-then-at-2 c =
    let m = one (goal.at.update_by-requires-then-at-2 c).Joined-at in
    let small = taken_small c.taken-then-at-2.ensures.1 c.in_ok-code-2.was in
    record {
      code_bound = (small, ((second (goal.at.update_by-requires-then-at-2 c).After-even_coding-c-then-at-2).fits.slot, (c.requires.pair_asks.holds.becomes, c.requires.pair_asks.holds.lengths)));
      set_in_range = m.in_range;
      are_ks = m.ks_kept;
    }

pub returns-then-at-2 : goal.returns-then-at-2
returns-then-at-2 c =
    record {
      answer = pair_at _ _ _
          (two_steps (one (goal.at.returns-then-at-2 c).Joined-at).read
          (site_read (second (goal.at.returns-then-at-2 c).After-even_coding-c-then-at-2) (coded_2 (goal.at.returns-then-at-2 c).After-even_coding-c-then-at-2) c.taken-then-at-2.ensures.0 c.in_ok-code-2.was c.put_sample-then-at-2.ensures c.update_by-then-at-2.ensures.ns_after));
      records = c.update_by-then-at-2.ensures.set_in_range_2;
      ks_kept = c.update_by-then-at-2.ensures.are_ks_2;
    }

pub bounds-lines-j : goal.bounds-lines-j
bounds-lines-j c =
    omega (arith, line_end _ _ _ c.requires.pair_asks.inside c.left_of-j.ensures.0, c.requires.pair_asks.holds.room.1, (one (goal.at.bounds-lines-j c).Joined-at).same)

pub returns : goal.returns
returns c =
    let m = one (goal.at.returns c).Joined-at in
    let coded = sym (c.at-2.ensures ∙ coded_evens _ _ _ c.requires.both_even.even c.requires.coded.1) ∙ c.if-at-2.false in
    let read = two_steps m.read (site_interpolated c.requires.pair_asks.holds.plan.second_low c.requires.both_even.even (here (goal.at.returns c).Joined-at) c.left_of-j.ensures.0 coded refl) in
    record { answer = pair_at _ _ _ read; records = m.in_range; ks_kept = m.ks_kept }

pub shape_of-lines-in_err-code-2 : goal.shape_of-lines-in_err-code-2
shape_of-lines-in_err-code-2 c = (one (goal.at.shape_of-lines-in_err-code-2 c).Joined-at).same

pub shape_of-lines-then-at-2 : goal.shape_of-lines-then-at-2
shape_of-lines-then-at-2 c = c.put_sample-then-at-2.auto.lines ∙ (one (goal.at.shape_of-lines-then-at-2 c).Joined-at).same

pub shape_of-lines : goal.shape_of-lines
shape_of-lines c = length-set c.if-at.lines _ _ ∙ (one (goal.at.shape_of-lines c).Joined-at).same
