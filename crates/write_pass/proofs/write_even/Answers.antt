-- `write_pass::write_even` meets its contract: two samples, each interpolated or by the answers of the leaves. Assumes nothing.
use mathlib.Core.Bool.{Bool, true, not}
use mathlib.Core.List.{[], ◌∷◌}
use mathlib.Core.Path.{◌≡◌, refl, sym, ◌∙◌}
use Prim.Native.Nat.{◌+◌, ◌^◌, ◌<◌}
use native.Mathlib.Omega.{arith}
use lib.ListN.{length, length-set}
use Rattle.quantiser.specs.Quantisers.{largest}
use Rattle.pass_schedule.specs.Steps.{Step, step_at, interpolated, even_steps}
use Rattle.pass_steps.specs.Values.{zip_records, AreKs}
use Rattle.write_pass.proofs.StepPuts.{sample_at_lem, same_room, same_wanted, same_steps, no_even, even_due_lem, ends}
use Rattle.write_pass.proofs.SitePuts.{Ready, Done, met, ks_met, first_ready, second_ready, two_puts, Site, site_code, site_value}
use Rattle.write_pass.proofs.SitePuts.{site_right, site_wrong, site_record, site_update, site_k, site_room, site_done}
use Rattle.write_pass.proofs.write_even.Goals as goal
use Rattle.write_pass.proofs.write_even.Goals.{then-has_code, else-has_code+else-is_wrong, After-coded_as-c, After-coded_as-c-then-has_code-2, After-context_at-x, After-context_at-x-2, After-index_in-j-2, Else-p-w, Joined-has_code, Then-has_code, Then-has_code-2}

abbrev first_coded : (c : Else-p-w) → Bool
first_coded c = not (interpolated c.args.spot.plan.first_rule c.args.spot.p)

abbrev second_coded : (c : Else-p-w) → Bool
second_coded c = not (interpolated c.args.spot.plan.second_rule c.args.spot.p)

abbrev second_step : (c : Else-p-w) → Step
second_step c = step_at c.args.spot.plan.second c.args.spot.p (second_coded c)

two : (c : Else-p-w) →
    Ready c.args.spot.bits c.args.base c.args.totals.now c.args.raws.now c.args.limits.now c.args.spot.w c.args.strict c.args.samples.now c.args.n
    (even_steps c.args.spot.plan c.args.spot.p) c.args.store c.args.from c.args.lines.now c.args.sums.now c.args.ns.now c.args.out.now
two c =
    let due = even_due_lem c.args.spot.plan c.args.spot.w c.args.spot.p c.if-p-w.false in
    record {
      numbers = c.requires.steps_ask.numbers;
      wanted = same_wanted (largest c.args.spot.bits) c.args.spot.w c.args.samples.now c.args.n _ _ due c.requires.steps_ask.wanted;
      held = c.requires.steps_ask.held;
      records = c.requires.steps_ask.records;
      low = omega (arith, c.requires.steps_ask.low);
      room = same_room c.args.spot.bits c.args.base c.args.spot.w c.args.strict c.args.samples.now c.args.n _ _ c.args.store c.args.from.0 c.args.lines.now c.args.sums.now c.args.ns.now c.args.out.now due c.requires.steps_ask.room;
    }

site : (c : After-context_at-x) →
    Site c.args.spot.bits c.args.base c.args.totals.now c.args.raws.now c.args.limits.now c.args.spot.w c.args.strict c.args.samples.now c.args.n
    c.args.spot.plan.first c.args.spot.p (first_coded (goal.at.After-context_at-x c).Else-p-w) c.args.store c.args.from c.args.lines.now c.args.sums.now c.args.ns.now c.args.out.now
    c.left_of-i.result c.index_in-j.result c.context_at-x.result
site c =
    record {
      ready = first_ready (two (goal.at.After-context_at-x c).Else-p-w);
      sample = sample_at_lem c.requires.steps_ask.plan.first_low c.left_of-i.ensures.0 c.index_in-j.ensures.0 c.context_at-x.ensures.0;
      ranges = c.context_at-x.ensures.1;
    }

-- the sample comes from inside of the set
within : (c : After-context_at-x) → c.index_in-j.result < length c.args.samples.now
within c = omega (arith, c.index_in-j.ensures.1, c.requires.steps_ask.samples)

asked : (c : Then-has_code) → first_coded (goal.at.Then-has_code c).Else-p-w ≡ true
asked c = sym c.has_code.ensures ∙ c.if-has_code.true

-- it goes inside of the lines
room : (c : After-context_at-x) →
    (c.left_of-i.result + 1 < length c.args.lines.now) × (c.left_of-i.result + 1 < 2 ^ 14)
room c =
    (omega (arith, c.left_of-i.ensures.1.1, c.requires.steps_ask.long), omega (arith, c.left_of-i.ensures.1.1, c.requires.steps_ask.width))

small : (c : After-coded_as-c) → c.coded_as-c.result.value < 2 ^ 16
small c = site_value (site (goal.at.After-coded_as-c c).After-context_at-x) c.from-v.ensures (asked (goal.at.After-coded_as-c c).Then-has_code) c.coded_as-c.ensures

done : (c : Joined-has_code) →
    Done c.args.spot.bits c.args.base c.args.spot.w c.args.strict c.args.samples.now c.args.n
    (step_at c.args.spot.plan.first c.args.spot.p (first_coded (goal.at.Joined-has_code c).Else-p-w)) c.args.store c.args.from c.args.lines.now c.args.sums.now c.args.ns.now c.args.out.now
    c.if-has_code.lines c.if-has_code.sums c.if-has_code.ns c.if-has_code.out c.if-has_code.at
done c =
    let is = sym c.has_code.ensures in
    let v = c.from-v.ensures in
    elim c.if-has_code.branch [
      | then-has_code w ↦
          let s = site (goal.at.Joined-has_code c).After-context_at-x in
          let put = w.put_code-at.ensures in
          let new = w.update_with_k.ensures in
          met w.out-is w.lines-is w.sums-is w.ns-is w.at-is
          (site_done s v (is ∙ w.if-has_code.true) w.coded_as-c.ensures w.record_at-old.ensures
          (site_k s v (is ∙ w.if-has_code.true) w.coded_as-c.ensures w.record_at-old.ensures c.requires.are_ks w.k_at.ensures)
          (put.result_value, put.out_after) w.put_code-at.auto.out (new.ns_after, (new.set_in_range_2, new.are_ks_2)))
      | else-has_code+else-is_wrong w ↦
          met w.out-is w.lines-is w.sums-is w.ns-is w.at-is
          (site_right (site (goal.at.Joined-has_code c).After-context_at-x) v w.is_wrong.ensures (is ∙ w.if-has_code.false) w.if-is_wrong.false)
    ]

done_ks : (c : Joined-has_code) → AreKs (zip_records c.if-has_code.sums c.if-has_code.ns) c.if-has_code.ks
done_ks c =
    elim c.if-has_code.branch [
      | then-has_code w ↦ ks_met w.sums-is w.ns-is w.ks-is w.update_with_k.ensures.are_ks_2
      | else-has_code+else-is_wrong w ↦ ks_met w.sums-is w.ns-is w.ks-is c.requires.are_ks
    ]

site_2 : (c : After-context_at-x-2) →
    Site c.args.spot.bits c.args.base c.args.totals.now c.args.raws.now c.args.limits.now c.args.spot.w c.args.strict c.args.samples.now c.args.n
    c.args.spot.plan.second c.args.spot.p (second_coded (goal.at.After-context_at-x-2 c).Else-p-w) c.args.store c.if-has_code.at c.if-has_code.lines c.if-has_code.sums c.if-has_code.ns c.if-has_code.out
    c.left_of-i-2.result c.index_in-j-2.result c.context_at-x-2.result
site_2 c =
    record {
      ready = second_ready (two (goal.at.After-context_at-x-2 c).Else-p-w) (done (goal.at.After-context_at-x-2 c).Joined-has_code);
      sample = sample_at_lem c.requires.steps_ask.plan.second_low c.left_of-i-2.ensures.0 c.index_in-j-2.ensures.0 c.context_at-x-2.ensures.0;
      ranges = c.context_at-x-2.ensures.1;
    }

-- it goes inside of the lines, and comes from inside of the set
inside : (c : After-index_in-j-2) →
    (c.left_of-i-2.result + 2 < length c.if-has_code.lines) × (c.left_of-i-2.result + 2 < 2 ^ 14) × (c.index_in-j-2.result < length c.args.samples.now)
inside c =
    (omega (arith, c.left_of-i-2.ensures.1.1, c.requires.steps_ask.long, (done (goal.at.After-index_in-j-2 c).Joined-has_code).long), omega (arith, c.left_of-i-2.ensures.1.1, c.requires.steps_ask.width), omega (arith, c.index_in-j-2.ensures.1, c.requires.steps_ask.samples))

asked_2 : (c : Then-has_code-2) → second_coded (goal.at.Then-has_code-2 c).Else-p-w ≡ true
asked_2 c = sym c.has_code-2.ensures ∙ c.if-has_code-2.true

small_2 : (c : After-coded_as-c-then-has_code-2) → c.coded_as-c-then-has_code-2.result.value < 2 ^ 16
small_2 c = site_value (site_2 (goal.at.After-coded_as-c-then-has_code-2 c).After-context_at-x-2) c.from-v-2.ensures (asked_2 (goal.at.After-coded_as-c-then-has_code-2 c).Then-has_code-2) c.coded_as-c-then-has_code-2.ensures

pub returns-then-p-w : goal.returns-then-p-w
returns-then-p-w c =
    record {
      steps_put = no_even c.args.spot.bits c.args.base c.args.spot.w c.args.strict c.args.samples.now c.args.n c.args.spot.plan c.args.spot.p c.args.store c.args.from c.args.lines.now c.args.sums.now c.args.ns.now c.args.out.now c.if-p-w.true;
      set_in_range = c.requires.steps_ask.records;
      are_ks_2 = c.requires.are_ks;
    }

pub coded_as-c-requires : goal.coded_as-c-requires
coded_as-c-requires c = site_code (site (goal.at.coded_as-c-requires c).After-context_at-x) c.from-v.ensures (asked c)

pub record_at-old-requires : goal.record_at-old-requires
record_at-old-requires c =
    site_record (site (goal.at.record_at-old-requires c).After-context_at-x) c.from-v.ensures (asked (goal.at.record_at-old-requires c).Then-has_code) c.coded_as-c.ensures

pub put_code-at-requires : goal.put_code-at-requires
put_code-at-requires c =
    record {
      k_bound = (site_room (site (goal.at.put_code-at-requires c).After-context_at-x) c.from-v.ensures (asked (goal.at.put_code-at-requires c).Then-has_code) c.coded_as-c.ensures c.record_at-old.ensures (site_k (site (goal.at.put_code-at-requires c).After-context_at-x) c.from-v.ensures (asked (goal.at.put_code-at-requires c).Then-has_code) c.coded_as-c.ensures c.record_at-old.ensures c.requires.are_ks c.k_at.ensures)).0;
      at_bound = (site_room (site (goal.at.put_code-at-requires c).After-context_at-x) c.from-v.ensures (asked (goal.at.put_code-at-requires c).Then-has_code) c.coded_as-c.ensures c.record_at-old.ensures (site_k (site (goal.at.put_code-at-requires c).After-context_at-x) c.from-v.ensures (asked (goal.at.put_code-at-requires c).Then-has_code) c.coded_as-c.ensures c.record_at-old.ensures c.requires.are_ks c.k_at.ensures)).1;
    }

pub update_with_k-requires : goal.update_with_k-requires
update_with_k-requires c =
    record {
      code_bound = (site_update (site (goal.at.update_with_k-requires c).After-context_at-x) c.from-v.ensures (asked (goal.at.update_with_k-requires c).Then-has_code) c.coded_as-c.ensures c.record_at-old.ensures c.requires.are_ks).0;
      set_in_range = (site_update (site (goal.at.update_with_k-requires c).After-context_at-x) c.from-v.ensures (asked (goal.at.update_with_k-requires c).Then-has_code) c.coded_as-c.ensures c.record_at-old.ensures c.requires.are_ks).1.0;
      are_ks = (site_update (site (goal.at.update_with_k-requires c).After-context_at-x) c.from-v.ensures (asked (goal.at.update_with_k-requires c).Then-has_code) c.coded_as-c.ensures c.record_at-old.ensures c.requires.are_ks).1.1;
    }

pub returns-then-is_wrong : goal.returns-then-is_wrong
returns-then-is_wrong c =
    let wrong = site_wrong (site (goal.at.returns-then-is_wrong c).After-context_at-x) c.from-v.ensures c.is_wrong.ensures (sym c.has_code.ensures ∙ c.if-has_code.false) c.if-is_wrong.true in
    record {
      steps_put = same_steps (even_due_lem c.args.spot.plan c.args.spot.w c.args.spot.p c.if-p-w.false) (ends wrong (second_step (goal.at.returns-then-is_wrong c).Else-p-w ∷ []) refl);
      set_in_range = (two (goal.at.returns-then-is_wrong c).Else-p-w).records;
      are_ks_2 = c.requires.are_ks;
    }

pub index_in-j-requires-2 : goal.index_in-j-requires-2
index_in-j-requires-2 c =
    (c.requires.steps_ask.width, (c.if-p-w.false, (c.requires.steps_ask.line, (c.requires.steps_ask.plan.second_low, c.requires.steps_ask.plan.second_high))))

pub context_at-x-requires-2 : goal.context_at-x-requires-2
context_at-x-requires-2 c =
    let i = inside c in
    (omega (arith, c.requires.steps_ask.width), (c.left_of-i-2.ensures.1.0, i.0))

pub coded_as-c-requires-then-has_code-2 : goal.coded_as-c-requires-then-has_code-2
coded_as-c-requires-then-has_code-2 c = site_code (site_2 (goal.at.coded_as-c-requires-then-has_code-2 c).After-context_at-x-2) c.from-v-2.ensures (asked_2 c)

pub record_at-old-requires-then-has_code-2 : goal.record_at-old-requires-then-has_code-2
record_at-old-requires-then-has_code-2 c =
    site_record (site_2 (goal.at.record_at-old-requires-then-has_code-2 c).After-context_at-x-2) c.from-v-2.ensures (asked_2 (goal.at.record_at-old-requires-then-has_code-2 c).Then-has_code-2) c.coded_as-c-then-has_code-2.ensures

pub put_code-at-requires-then-has_code-2 : goal.put_code-at-requires-then-has_code-2
put_code-at-requires-then-has_code-2 c =
    record {
      k_bound = (site_room (site_2 (goal.at.put_code-at-requires-then-has_code-2 c).After-context_at-x-2) c.from-v-2.ensures (asked_2 (goal.at.put_code-at-requires-then-has_code-2 c).Then-has_code-2) c.coded_as-c-then-has_code-2.ensures c.record_at-old-then-has_code-2.ensures (site_k (site_2 (goal.at.put_code-at-requires-then-has_code-2 c).After-context_at-x-2) c.from-v-2.ensures (asked_2 (goal.at.put_code-at-requires-then-has_code-2 c).Then-has_code-2) c.coded_as-c-then-has_code-2.ensures c.record_at-old-then-has_code-2.ensures (done_ks (goal.at.put_code-at-requires-then-has_code-2 c).Joined-has_code) c.k_at-then-has_code-2.ensures)).0;
      at_bound = (site_room (site_2 (goal.at.put_code-at-requires-then-has_code-2 c).After-context_at-x-2) c.from-v-2.ensures (asked_2 (goal.at.put_code-at-requires-then-has_code-2 c).Then-has_code-2) c.coded_as-c-then-has_code-2.ensures c.record_at-old-then-has_code-2.ensures (site_k (site_2 (goal.at.put_code-at-requires-then-has_code-2 c).After-context_at-x-2) c.from-v-2.ensures (asked_2 (goal.at.put_code-at-requires-then-has_code-2 c).Then-has_code-2) c.coded_as-c-then-has_code-2.ensures c.record_at-old-then-has_code-2.ensures (done_ks (goal.at.put_code-at-requires-then-has_code-2 c).Joined-has_code) c.k_at-then-has_code-2.ensures)).1;
    }

pub update_with_k-requires-then-has_code-2 : goal.update_with_k-requires-then-has_code-2
update_with_k-requires-then-has_code-2 c =
    record {
      code_bound = (site_update (site_2 (goal.at.update_with_k-requires-then-has_code-2 c).After-context_at-x-2) c.from-v-2.ensures (asked_2 (goal.at.update_with_k-requires-then-has_code-2 c).Then-has_code-2) c.coded_as-c-then-has_code-2.ensures c.record_at-old-then-has_code-2.ensures (done_ks (goal.at.update_with_k-requires-then-has_code-2 c).Joined-has_code)).0;
      set_in_range = (site_update (site_2 (goal.at.update_with_k-requires-then-has_code-2 c).After-context_at-x-2) c.from-v-2.ensures (asked_2 (goal.at.update_with_k-requires-then-has_code-2 c).Then-has_code-2) c.coded_as-c-then-has_code-2.ensures c.record_at-old-then-has_code-2.ensures (done_ks (goal.at.update_with_k-requires-then-has_code-2 c).Joined-has_code)).1.0;
      are_ks = (site_update (site_2 (goal.at.update_with_k-requires-then-has_code-2 c).After-context_at-x-2) c.from-v-2.ensures (asked_2 (goal.at.update_with_k-requires-then-has_code-2 c).Then-has_code-2) c.coded_as-c-then-has_code-2.ensures c.record_at-old-then-has_code-2.ensures (done_ks (goal.at.update_with_k-requires-then-has_code-2 c).Joined-has_code)).1.1;
    }

pub returns-then-is_wrong-2 : goal.returns-then-is_wrong-2
returns-then-is_wrong-2 c =
    let wrong = site_wrong (site_2 (goal.at.returns-then-is_wrong-2 c).After-context_at-x-2) c.from-v-2.ensures c.is_wrong-else-has_code-2.ensures (sym c.has_code-2.ensures ∙ c.if-has_code-2.false) c.if-is_wrong-2.true in
    record {
      steps_put = same_steps (even_due_lem c.args.spot.plan c.args.spot.w c.args.spot.p c.if-p-w.false) (two_puts (two (goal.at.returns-then-is_wrong-2 c).Else-p-w) (done (goal.at.returns-then-is_wrong-2 c).Joined-has_code) wrong);
      set_in_range = (done (goal.at.returns-then-is_wrong-2 c).Joined-has_code).records;
      are_ks_2 = done_ks (goal.at.returns-then-is_wrong-2 c).Joined-has_code;
    }

pub returns-then-has_code-2 : goal.returns-then-has_code-2
returns-then-has_code-2 c =
    let e =
    site_done (site_2 (goal.at.returns-then-has_code-2 c).After-context_at-x-2) c.from-v-2.ensures (asked_2 (goal.at.returns-then-has_code-2 c).Then-has_code-2) c.coded_as-c-then-has_code-2.ensures c.record_at-old-then-has_code-2.ensures (site_k (site_2 (goal.at.returns-then-has_code-2 c).After-context_at-x-2) c.from-v-2.ensures (asked_2 (goal.at.returns-then-has_code-2 c).Then-has_code-2) c.coded_as-c-then-has_code-2.ensures c.record_at-old-then-has_code-2.ensures (done_ks (goal.at.returns-then-has_code-2 c).Joined-has_code) c.k_at-then-has_code-2.ensures)
    (c.put_code-at-then-has_code-2.ensures.result_value, c.put_code-at-then-has_code-2.ensures.out_after) c.put_code-at-then-has_code-2.auto.out (c.update_with_k-then-has_code-2.ensures.ns_after, (c.update_with_k-then-has_code-2.ensures.set_in_range_2, c.update_with_k-then-has_code-2.ensures.are_ks_2)) in
    record {
      steps_put = same_steps (even_due_lem c.args.spot.plan c.args.spot.w c.args.spot.p c.if-p-w.false) (two_puts (two (goal.at.returns-then-has_code-2 c).Else-p-w) (done (goal.at.returns-then-has_code-2 c).Joined-has_code) e.put);
      set_in_range = e.records;
      are_ks_2 = c.update_with_k-then-has_code-2.ensures.are_ks_2;
    }

pub returns-else-is_wrong-2 : goal.returns-else-is_wrong-2
returns-else-is_wrong-2 c =
    let e = site_right (site_2 (goal.at.returns-else-is_wrong-2 c).After-context_at-x-2) c.from-v-2.ensures c.is_wrong-else-has_code-2.ensures (sym c.has_code-2.ensures ∙ c.if-has_code-2.false) c.if-is_wrong-2.false in
    record {
      steps_put = same_steps (even_due_lem c.args.spot.plan c.args.spot.w c.args.spot.p c.if-p-w.false) (two_puts (two (goal.at.returns-else-is_wrong-2 c).Else-p-w) (done (goal.at.returns-else-is_wrong-2 c).Joined-has_code) e.put);
      set_in_range = e.records;
      are_ks_2 = done_ks (goal.at.returns-else-is_wrong-2 c).Joined-has_code;
    }

pub left_of-i-requires : goal.left_of-i-requires
left_of-i-requires c = (c.requires.steps_ask.width, (c.if-p-w.false, (c.requires.steps_ask.plan.first_low, c.requires.steps_ask.plan.first_high)))

pub index_in-j-requires : goal.index_in-j-requires
index_in-j-requires c = (c.requires.steps_ask.width, (c.if-p-w.false, (c.requires.steps_ask.line, (c.requires.steps_ask.plan.first_low, c.requires.steps_ask.plan.first_high))))

pub bounds-samples-j : goal.bounds-samples-j
bounds-samples-j c = within (goal.at.bounds-samples-j c).After-context_at-x

pub bounds-lines-i : goal.bounds-lines-i
bounds-lines-i c = (room (goal.at.bounds-lines-i c).After-context_at-x).0

pub k_at-requires : goal.k_at-requires
k_at-requires c = c.coded_as-c.ensures.slot_lt

pub bounds-lines-i-else-has_code : goal.bounds-lines-i-else-has_code
bounds-lines-i-else-has_code c = (room (goal.at.bounds-lines-i-else-has_code c).After-context_at-x).0

pub left_of-i-requires-2 : goal.left_of-i-requires-2
left_of-i-requires-2 c = (c.requires.steps_ask.width, (c.if-p-w.false, (c.requires.steps_ask.plan.second_low, c.requires.steps_ask.plan.second_high)))

pub bounds-samples-j-2 : goal.bounds-samples-j-2
bounds-samples-j-2 c = (inside (goal.at.bounds-samples-j-2 c).After-index_in-j-2).2

pub k_at-requires-then-has_code-2 : goal.k_at-requires-then-has_code-2
k_at-requires-then-has_code-2 c = c.coded_as-c-then-has_code-2.ensures.slot_lt

pub shape_of-out-then-is_wrong-2 : goal.shape_of-out-then-is_wrong-2
shape_of-out-then-is_wrong-2 c = (done (goal.at.shape_of-out-then-is_wrong-2 c).Joined-has_code).same

pub shape_of-lines-then-is_wrong-2 : goal.shape_of-lines-then-is_wrong-2
shape_of-lines-then-is_wrong-2 c = (done (goal.at.shape_of-lines-then-is_wrong-2 c).Joined-has_code).long

pub shape_of-out-then-has_code-2 : goal.shape_of-out-then-has_code-2
shape_of-out-then-has_code-2 c = c.put_code-at-then-has_code-2.auto.out ∙ (done (goal.at.shape_of-out-then-has_code-2 c).Joined-has_code).same

pub shape_of-lines-then-has_code-2 : goal.shape_of-lines-then-has_code-2
shape_of-lines-then-has_code-2 c =
    length-set c.if-has_code.lines (c.left_of-i-2.result + 1) c.coded_as-c-then-has_code-2.result.value ∙ (done (goal.at.shape_of-lines-then-has_code-2 c).Joined-has_code).long

pub shape_of-out-else-is_wrong-2 : goal.shape_of-out-else-is_wrong-2
shape_of-out-else-is_wrong-2 c = (done (goal.at.shape_of-out-else-is_wrong-2 c).Joined-has_code).same

pub shape_of-lines-else-is_wrong-2 : goal.shape_of-lines-else-is_wrong-2
shape_of-lines-else-is_wrong-2 c =
    length-set c.if-has_code.lines (c.left_of-i-2.result + 1) c.context_at-x-2.result.prediction ∙ (done (goal.at.shape_of-lines-else-is_wrong-2 c).Joined-has_code).long
