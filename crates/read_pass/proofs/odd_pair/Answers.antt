-- `read_pass::odd_pair` meets its contract: two steps, each by the answers of the leaves. Assumes nothing.
use mathlib.Core.Bool.{true}
use mathlib.Core.List.{List}
use mathlib.Core.Path.{◌≡◌, refl, ◌∙◌}
use Prim.Native.Nat.{ℕ, ◌≤◌}
use native.Mathlib.Omega.{arith}
use lib.ListN.{length}
use Rattle.code.specs.declared.Place.{Place}
use Rattle.pass_schedule.specs.Steps.{step_at}
use Rattle.pass_steps.specs.Values.{SetInRange, AreKs}
use Rattle.pass_ahead.specs.Arrays.{OddHere}
use Rattle.pass_ahead.proofs.AheadLaws.{odd_here_kept}
use Rattle.read_pass.specs.Readings.{Reading}
use Rattle.read_pass.specs.Pairs.{held}
use Rattle.read_pass.proofs.RangeLaws.{step_keeps}
use Rattle.read_pass.proofs.AboveLaws.{second_above}
use Rattle.read_pass.proofs.StepLaws.{StepGives, two_steps, first_none_lem}
use Rattle.read_pass.proofs.SiteLaws.{CodedAt, odd_coded, k_known, limit_known, raw_fits, total_known, step_known, site_cut_off, site_read, taken_small, pair_cut_off, pair_at}
use Rattle.read_pass.proofs.odd_pair.Goals as goal
use Rattle.read_pass.proofs.odd_pair.Goals.{After-odd_coding-c, After-odd_coding-c-2, After-update_by}
use Rattle.std.specs.Prelude.{Some}

first : (c : After-odd_coding-c) →
    CodedAt c.args.turn.spot.bits c.args.turn.base c.args.turn.spot.w c.args.turn.spot.plan.first c.args.turn.spot.p c.args.block.now c.args.lines.now
    c.args.sums.now c.args.ns.now c.args.steps.now c.args.limits.now c.args.totals.now c.odd_coding-c.result
first c =
    odd_coded c.requires.pair_asks.holds.plan.first_low c.requires.pair_asks.holds.plan.first_high c.requires.pair_asks.holds.width c.requires.pair_asks.inside c.requires.pair_asks.holds.room.0 c.requires.pair_asks.holds.tables c.requires.pair_asks.holds.depth c.requires.pair_asks.holds.base c.requires.pair_asks.holds.ks_kept _ c.requires.by_flatness.1.odd
    c.odd_coding-c.ensures

-- where the reading is
abbrev between : (c : After-update_by) → Place
between c = c.in_ok-code.between

abbrev lines₁ : (c : After-update_by) → List ℕ
lines₁ c = c.put_sample.new.lines

abbrev middle : (c : After-update_by) → Reading
middle c = held (lines₁ c) c.update_by.new.sums c.update_by.new.ns (between c)

first_read : (c : After-update_by) →
    StepGives c.args.turn.spot.bits c.args.turn.base c.args.turn.spot.w c.args.block.now (step_at c.args.turn.spot.plan.first c.args.turn.spot.p true)
    (held c.args.lines.now c.args.sums.now c.args.ns.now c.args.from) (Some (middle c))
first_read c =
    site_read (first (goal.at.After-update_by c).After-odd_coding-c) refl c.taken.ensures.0 c.in_ok-code.was c.put_sample.ensures
    c.update_by.ensures.ns_after

in_range : (c : After-update_by) → SetInRange (middle c).set
in_range c = c.update_by.ensures.set_in_range_2

ks_kept : (c : After-update_by) → AreKs (middle c).set c.update_by.new.ks
ks_kept c = c.update_by.ensures.are_ks_2

same : (c : After-update_by) → length (lines₁ c) ≡ length c.args.lines.now
same c = c.put_sample.auto.lines

-- there are no more long codes than bits
counted : (c : After-update_by) → (between c).long ≤ (between c).at.0
counted c =
    (step_keeps _ _ _ _ c.requires.pair_asks.holds.depth.1 _ _ _ (first_read c).is).counted c.requires.pair_asks.holds.counted

-- what was made ahead of the second sample is right still
here : (c : After-update_by) →
    OddHere c.args.turn.base c.args.turn.spot.w (lines₁ c) c.args.turn.spot.plan.second c.args.turn.spot.p c.args.turn.entry c.args.second.now
here c =
    odd_here_kept _ _ _ _ _ c.requires.pair_asks.holds.plan.second_low (second_above _ c.args.turn.spot.plan c.requires.pair_asks.holds.apart _ c.requires.pair_asks.inside (first_read c)) _ _ _ c.requires.pair_asks.inside
    c.requires.by_flatness.1.two

second : (c : After-odd_coding-c-2) →
    CodedAt c.args.turn.spot.bits c.args.turn.base c.args.turn.spot.w c.args.turn.spot.plan.second c.args.turn.spot.p c.args.block.now (lines₁ (goal.at.After-odd_coding-c-2 c).After-update_by)
    c.update_by.new.sums c.update_by.new.ns c.args.steps.now c.args.limits.now c.args.totals.now c.odd_coding-c-2.result
second c =
    odd_coded c.requires.pair_asks.holds.plan.second_low c.requires.pair_asks.holds.plan.second_high c.requires.pair_asks.holds.width c.requires.pair_asks.inside (omega (arith, c.requires.pair_asks.holds.room.1, same (goal.at.After-odd_coding-c-2 c).After-update_by)) c.requires.pair_asks.holds.tables c.requires.pair_asks.holds.depth c.requires.pair_asks.holds.base (ks_kept (goal.at.After-odd_coding-c-2 c).After-update_by) _
    c.requires.by_flatness.1.odd c.odd_coding-c-2.ensures

pub odd_coding-c-requires : goal.odd_coding-c-requires
odd_coding-c-requires c =
    record {
      bits_bound = (c.requires.pair_asks.holds.depth.1, (c.requires.pair_asks.holds.width, (c.requires.pair_asks.inside, (c.requires.pair_asks.holds.plan.first_low, (c.requires.pair_asks.holds.plan.first_high, (c.requires.pair_asks.holds.base, c.requires.by_flatness.1.entry))))));
      w_in_bounds = c.requires.pair_asks.holds.room.0;
      by_flatness = (c.requires.by_flatness.0, c.requires.by_flatness.1.one);
    }

pub taken-requires : goal.taken-requires
taken-requires c =
    record {
      block_len_bound = (c.requires.pair_asks.holds.bytes, (k_known (first c), (limit_known (first c), raw_fits (first c))));
      long_le_at = c.requires.pair_asks.holds.counted;
    }

pub returns-in_err-code : goal.returns-in_err-code
returns-in_err-code c =
    let cut = site_cut_off (first (goal.at.returns-in_err-code c).After-odd_coding-c) refl c.taken.ensures.0 c.in_err-code.was in
    record { answer = rw c.from_residual.ensures (pair_cut_off _ _ _ (first_none_lem cut)); records = c.requires.pair_asks.holds.records; ks_kept = c.requires.pair_asks.holds.ks_kept }

pub put_sample-requires : goal.put_sample-requires
put_sample-requires c =
    let small = taken_small c.taken.ensures.1 c.in_ok-code.was in
    record {
      coding_fits = ((first (goal.at.put_sample-requires c).After-odd_coding-c).fits, (small, total_known (first (goal.at.put_sample-requires c).After-odd_coding-c)));
      slot_bound = step_known (first (goal.at.put_sample-requires c).After-odd_coding-c);
    }

pub update_by-requires : goal.update_by-requires
update_by-requires c =
    let small = taken_small c.taken.ensures.1 c.in_ok-code.was in
    record {
      code_bound = (small, ((first (goal.at.update_by-requires c).After-odd_coding-c).fits.slot, (c.requires.pair_asks.holds.becomes, c.requires.pair_asks.holds.lengths)));
      set_in_range = c.requires.pair_asks.holds.records;
      are_ks = c.requires.pair_asks.holds.ks_kept;
    }

-- ---- the second sample
pub odd_coding-c-requires-2 : goal.odd_coding-c-requires-2
odd_coding-c-requires-2 c =
    record {
      bits_bound = (c.requires.pair_asks.holds.depth.1, (c.requires.pair_asks.holds.width, (c.requires.pair_asks.inside, (c.requires.pair_asks.holds.plan.second_low, (c.requires.pair_asks.holds.plan.second_high, (c.requires.pair_asks.holds.base, c.requires.by_flatness.1.entry))))));
      w_in_bounds = omega (arith, c.requires.pair_asks.holds.room.1, same c);
      by_flatness = (c.requires.by_flatness.0, here c);
    }

pub taken-requires-2 : goal.taken-requires-2
taken-requires-2 c =
    record {
      block_len_bound = (c.requires.pair_asks.holds.bytes, (k_known (second c), (limit_known (second c), raw_fits (second c))));
      long_le_at = counted (goal.at.taken-requires-2 c).After-update_by;
    }

pub returns-in_err-code-2 : goal.returns-in_err-code-2
returns-in_err-code-2 c =
    let cut = site_cut_off (second (goal.at.returns-in_err-code-2 c).After-odd_coding-c-2) refl c.taken-2.ensures.0 c.in_err-code-2.was in
    record { answer = rw c.from_residual-in_err-code-2.ensures (pair_cut_off _ _ _ (two_steps (first_read (goal.at.returns-in_err-code-2 c).After-update_by) cut)); records = in_range (goal.at.returns-in_err-code-2 c).After-update_by; ks_kept = ks_kept (goal.at.returns-in_err-code-2 c).After-update_by }

pub put_sample-requires-2 : goal.put_sample-requires-2
put_sample-requires-2 c =
    let small = taken_small c.taken-2.ensures.1 c.in_ok-code-2.was in
    record {
      coding_fits = ((second (goal.at.put_sample-requires-2 c).After-odd_coding-c-2).fits, (small, total_known (second (goal.at.put_sample-requires-2 c).After-odd_coding-c-2)));
      slot_bound = step_known (second (goal.at.put_sample-requires-2 c).After-odd_coding-c-2);
    }

pub update_by-requires-2 : goal.update_by-requires-2
update_by-requires-2 c =
    let small = taken_small c.taken-2.ensures.1 c.in_ok-code-2.was in
    record {
      code_bound = (small, ((second (goal.at.update_by-requires-2 c).After-odd_coding-c-2).fits.slot, (c.requires.pair_asks.holds.becomes, c.requires.pair_asks.holds.lengths)));
      set_in_range = in_range (goal.at.update_by-requires-2 c).After-update_by;
      are_ks = ks_kept (goal.at.update_by-requires-2 c).After-update_by;
    }

pub returns : goal.returns
returns c =
    record {
      answer = pair_at _ _ _
          (two_steps (first_read (goal.at.returns c).After-update_by)
          (site_read (second (goal.at.returns c).After-odd_coding-c-2) refl c.taken-2.ensures.0 c.in_ok-code-2.was c.put_sample-2.ensures c.update_by-2.ensures.ns_after));
      records = c.update_by-2.ensures.set_in_range_2;
      ks_kept = c.update_by-2.ensures.are_ks_2;
    }

pub shape_of-lines-in_err-code-2 : goal.shape_of-lines-in_err-code-2
shape_of-lines-in_err-code-2 c = same (goal.at.shape_of-lines-in_err-code-2 c).After-update_by

pub shape_of-lines : goal.shape_of-lines
shape_of-lines c = c.put_sample-2.auto.lines ∙ same (goal.at.shape_of-lines c).After-update_by
