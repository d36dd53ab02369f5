-- `write_pass::write_odd` meets its contract: two samples, each by the answers of the leaves. Assumes nothing.
use mathlib.Core.Bool.{true}
use mathlib.Core.List.{List}
use mathlib.Core.Path.{refl, ◌∙◌}
use Prim.Native.Nat.{ℕ, ◌+◌, ◌-◌, ◌^◌, ◌≤◌, ◌<◌}
use native.Mathlib.Omega.{arith}
use lib.ListN.{length, set, length-set}
use Rattle.pass_schedule.specs.Steps.{step_at, odd_steps}
use Rattle.quantiser.specs.Quantisers.{largest}
use Rattle.write_pass.proofs.StepPuts.{sample_at_lem, same_room, same_wanted, same_steps, no_odd, odd_due_lem}
use Rattle.write_pass.proofs.SitePuts.{Ready, Done, first_ready, second_ready, two_puts, Site, site_code}
use Rattle.write_pass.proofs.SitePuts.{site_value, site_record, site_update, site_k, site_room, site_done}
use Rattle.write_pass.proofs.write_odd.Goals as goal
use Rattle.write_pass.proofs.write_odd.Goals.{After-coded_as-c, After-coded_as-c-2, After-context_at-x, After-context_at-x-2, After-index_in-j-2, After-update_with_k, Else-p-lt8}

two : (c : Else-p-lt8) →
    Ready c.args.spot.bits c.args.base c.args.totals.now c.args.raws.now c.args.limits.now c.args.spot.w c.args.strict c.args.samples.now c.args.n
    (odd_steps c.args.spot.plan (c.args.spot.p - 7)) c.args.store c.args.from c.args.lines.now c.args.sums.now c.args.ns.now c.args.out.now
two c =
    let due = odd_due_lem c.args.spot.plan c.args.spot.w c.args.spot.p c.if-p-lt8.false in
    record {
      numbers = c.requires.steps_ask.numbers;
      wanted = same_wanted (largest c.args.spot.bits) c.args.spot.w c.args.samples.now c.args.n _ _ due c.requires.steps_ask.wanted;
      held = c.requires.steps_ask.held;
      records = c.requires.steps_ask.records;
      low = omega (arith, c.requires.steps_ask.low);
      room = same_room c.args.spot.bits c.args.base c.args.spot.w c.args.strict c.args.samples.now c.args.n _ _ c.args.store c.args.from.0 c.args.lines.now c.args.sums.now c.args.ns.now c.args.out.now due c.requires.steps_ask.room;
    }

site : (c : After-context_at-x) →
    Site c.args.spot.bits c.args.base c.args.totals.now c.args.raws.now c.args.limits.now c.args.spot.w c.args.strict c.args.samples.now c.args.n
    c.args.spot.plan.first (c.args.spot.p - 7) true c.args.store c.args.from c.args.lines.now c.args.sums.now c.args.ns.now c.args.out.now
    c.left_of-i.result c.index_in-j.result c.context_at-x.result
site c =
    record {
      ready = first_ready (two (goal.at.After-context_at-x c).Else-p-lt8);
      sample = sample_at_lem c.requires.steps_ask.plan.first_low c.left_of-i.ensures.0 c.index_in-j.ensures.0 c.context_at-x.ensures.0;
      ranges = c.context_at-x.ensures.1;
    }

first_in : (c : Else-p-lt8) → (c.args.spot.w ≤ 512) × ((c.args.spot.p - 7 < c.args.spot.w) × ((2 ≤ c.args.spot.plan.first) × (c.args.spot.plan.first ≤ 17)))
first_in c =
    (c.requires.steps_ask.width, (omega (arith, c.requires.p_bound, c.if-p-lt8.false), (c.requires.steps_ask.plan.first_low, c.requires.steps_ask.plan.first_high)))

-- the sample comes from inside of the set
within : (c : After-context_at-x) → c.index_in-j.result < length c.args.samples.now
within c = omega (arith, c.index_in-j.ensures.1, c.requires.steps_ask.samples)

-- it goes inside of the lines
room : (c : After-coded_as-c) →
    (c.left_of-i.result + 1 < length c.args.lines.now) × (c.left_of-i.result + 1 < 2 ^ 14)
room c =
    (omega (arith, c.left_of-i.ensures.1.1, c.requires.steps_ask.long), omega (arith, c.left_of-i.ensures.1.1, c.requires.steps_ask.width))

small : (c : After-coded_as-c) → c.coded_as-c.result.value < 2 ^ 16
small c = site_value (site (goal.at.After-coded_as-c c).After-context_at-x) c.from-v.ensures refl c.coded_as-c.ensures

abbrev lines₁ : (c : After-update_with_k) → List ℕ
lines₁ c = set c.args.lines.now (c.left_of-i.result + 1) c.coded_as-c.result.value

done : (c : After-update_with_k) →
    Done c.args.spot.bits c.args.base c.args.spot.w c.args.strict c.args.samples.now c.args.n (step_at c.args.spot.plan.first (c.args.spot.p - 7) true) c.args.store
    c.args.from c.args.lines.now c.args.sums.now c.args.ns.now c.args.out.now
    (lines₁ c) c.update_with_k.new.sums c.update_with_k.new.ns c.put_code-at.new.out c.put_code-at.result
done c =
    site_done (site (goal.at.After-update_with_k c).After-context_at-x) c.from-v.ensures refl c.coded_as-c.ensures c.record_at-old.ensures (site_k (site (goal.at.After-update_with_k c).After-context_at-x) c.from-v.ensures refl c.coded_as-c.ensures c.record_at-old.ensures c.requires.are_ks c.k_at.ensures)
    (c.put_code-at.ensures.result_value, c.put_code-at.ensures.out_after) c.put_code-at.auto.out (c.update_with_k.ensures.ns_after, (c.update_with_k.ensures.set_in_range_2, c.update_with_k.ensures.are_ks_2))

-- ---- the second sample
line_in : (c : After-update_with_k) → (c.args.spot.w ≤ 512) × ((c.args.spot.p - 7 < c.args.spot.w) × ((2 ≤ c.args.spot.plan.second) × (c.args.spot.plan.second ≤ 17)))
line_in c =
    (c.requires.steps_ask.width, (omega (arith, c.requires.p_bound, c.if-p-lt8.false), (c.requires.steps_ask.plan.second_low, c.requires.steps_ask.plan.second_high)))

site_2 : (c : After-context_at-x-2) →
    Site c.args.spot.bits c.args.base c.args.totals.now c.args.raws.now c.args.limits.now c.args.spot.w c.args.strict c.args.samples.now c.args.n
    c.args.spot.plan.second (c.args.spot.p - 7) true c.args.store c.put_code-at.result (lines₁ (goal.at.After-context_at-x-2 c).After-update_with_k) c.update_with_k.new.sums c.update_with_k.new.ns c.put_code-at.new.out
    c.left_of-i-2.result c.index_in-j-2.result c.context_at-x-2.result
site_2 c =
    record {
      ready = second_ready (two (goal.at.After-context_at-x-2 c).Else-p-lt8) (done (goal.at.After-context_at-x-2 c).After-update_with_k);
      sample = sample_at_lem c.requires.steps_ask.plan.second_low c.left_of-i-2.ensures.0 c.index_in-j-2.ensures.0 c.context_at-x-2.ensures.0;
      ranges = c.context_at-x-2.ensures.1;
    }

-- it goes inside of the lines, and comes from inside of the set
inside : (c : After-index_in-j-2) →
    (c.left_of-i-2.result + 2 < length (lines₁ (goal.at.After-index_in-j-2 c).After-update_with_k)) × (c.left_of-i-2.result + 2 < 2 ^ 14) × (c.index_in-j-2.result < length c.args.samples.now)
inside c =
    (simp length-set (omega (arith, c.left_of-i-2.ensures.1.1, c.requires.steps_ask.long)), omega (arith, c.left_of-i-2.ensures.1.1, c.requires.steps_ask.width), omega (arith, c.index_in-j-2.ensures.1, c.requires.steps_ask.samples))

small_2 : (c : After-coded_as-c-2) → c.coded_as-c-2.result.value < 2 ^ 16
small_2 c = site_value (site_2 (goal.at.After-coded_as-c-2 c).After-context_at-x-2) c.from-v-2.ensures refl c.coded_as-c-2.ensures

pub returns-then-p-lt8 : goal.returns-then-p-lt8
returns-then-p-lt8 c =
    record {
      steps_put = no_odd c.args.spot.bits c.args.base c.args.spot.w c.args.strict c.args.samples.now c.args.n c.args.spot.plan c.args.spot.p c.args.store c.args.from c.args.lines.now c.args.sums.now c.args.ns.now c.args.out.now c.if-p-lt8.true;
      set_in_range = c.requires.steps_ask.records;
      are_ks_2 = c.requires.are_ks;
    }

pub coded_as-c-requires : goal.coded_as-c-requires
coded_as-c-requires c = site_code (site (goal.at.coded_as-c-requires c).After-context_at-x) c.from-v.ensures refl

pub record_at-old-requires : goal.record_at-old-requires
record_at-old-requires c =
    site_record (site (goal.at.record_at-old-requires c).After-context_at-x) c.from-v.ensures refl c.coded_as-c.ensures

pub put_code-at-requires : goal.put_code-at-requires
put_code-at-requires c =
    record {
      k_bound = (site_room (site (goal.at.put_code-at-requires c).After-context_at-x) c.from-v.ensures refl c.coded_as-c.ensures c.record_at-old.ensures (site_k (site (goal.at.put_code-at-requires c).After-context_at-x) c.from-v.ensures refl c.coded_as-c.ensures c.record_at-old.ensures c.requires.are_ks c.k_at.ensures)).0;
      at_bound = (site_room (site (goal.at.put_code-at-requires c).After-context_at-x) c.from-v.ensures refl c.coded_as-c.ensures c.record_at-old.ensures (site_k (site (goal.at.put_code-at-requires c).After-context_at-x) c.from-v.ensures refl c.coded_as-c.ensures c.record_at-old.ensures c.requires.are_ks c.k_at.ensures)).1;
    }

pub update_with_k-requires : goal.update_with_k-requires
update_with_k-requires c =
    record {
      code_bound = (site_update (site (goal.at.update_with_k-requires c).After-context_at-x) c.from-v.ensures refl c.coded_as-c.ensures c.record_at-old.ensures c.requires.are_ks).0;
      set_in_range = (site_update (site (goal.at.update_with_k-requires c).After-context_at-x) c.from-v.ensures refl c.coded_as-c.ensures c.record_at-old.ensures c.requires.are_ks).1.0;
      are_ks = (site_update (site (goal.at.update_with_k-requires c).After-context_at-x) c.from-v.ensures refl c.coded_as-c.ensures c.record_at-old.ensures c.requires.are_ks).1.1;
    }

pub left_of-i-requires-2 : goal.left_of-i-requires-2
left_of-i-requires-2 c = line_in c

pub index_in-j-requires-2 : goal.index_in-j-requires-2
index_in-j-requires-2 c =
    let l = line_in (goal.at.index_in-j-requires-2 c).After-update_with_k in
    (l.0, (l.1.0, (c.requires.steps_ask.line, l.1.1)))

pub context_at-x-requires-2 : goal.context_at-x-requires-2
context_at-x-requires-2 c =
    let i = inside c in
    (omega (arith, (line_in (goal.at.context_at-x-requires-2 c).After-update_with_k).0), (c.left_of-i-2.ensures.1.0, i.0))

pub coded_as-c-requires-2 : goal.coded_as-c-requires-2
coded_as-c-requires-2 c = site_code (site_2 (goal.at.coded_as-c-requires-2 c).After-context_at-x-2) c.from-v-2.ensures refl

pub record_at-old-requires-2 : goal.record_at-old-requires-2
record_at-old-requires-2 c =
    site_record (site_2 (goal.at.record_at-old-requires-2 c).After-context_at-x-2) c.from-v-2.ensures refl c.coded_as-c-2.ensures

pub put_code-after-requires : goal.put_code-after-requires
put_code-after-requires c =
    record {
      k_bound = (site_room (site_2 (goal.at.put_code-after-requires c).After-context_at-x-2) c.from-v-2.ensures refl c.coded_as-c-2.ensures c.record_at-old-2.ensures (site_k (site_2 (goal.at.put_code-after-requires c).After-context_at-x-2) c.from-v-2.ensures refl c.coded_as-c-2.ensures c.record_at-old-2.ensures c.update_with_k.ensures.are_ks_2 c.k_at-2.ensures)).0;
      at_bound = (site_room (site_2 (goal.at.put_code-after-requires c).After-context_at-x-2) c.from-v-2.ensures refl c.coded_as-c-2.ensures c.record_at-old-2.ensures (site_k (site_2 (goal.at.put_code-after-requires c).After-context_at-x-2) c.from-v-2.ensures refl c.coded_as-c-2.ensures c.record_at-old-2.ensures c.update_with_k.ensures.are_ks_2 c.k_at-2.ensures)).1;
    }

pub update_with_k-requires-2 : goal.update_with_k-requires-2
update_with_k-requires-2 c =
    record {
      code_bound = (site_update (site_2 (goal.at.update_with_k-requires-2 c).After-context_at-x-2) c.from-v-2.ensures refl c.coded_as-c-2.ensures c.record_at-old-2.ensures c.update_with_k.ensures.are_ks_2).0;
      set_in_range = (site_update (site_2 (goal.at.update_with_k-requires-2 c).After-context_at-x-2) c.from-v-2.ensures refl c.coded_as-c-2.ensures c.record_at-old-2.ensures c.update_with_k.ensures.are_ks_2).1.0;
      are_ks = (site_update (site_2 (goal.at.update_with_k-requires-2 c).After-context_at-x-2) c.from-v-2.ensures refl c.coded_as-c-2.ensures c.record_at-old-2.ensures c.update_with_k.ensures.are_ks_2).1.1;
    }

pub returns : goal.returns
returns c =
    let e =
    site_done (site_2 (goal.at.returns c).After-context_at-x-2) c.from-v-2.ensures refl c.coded_as-c-2.ensures c.record_at-old-2.ensures (site_k (site_2 (goal.at.returns c).After-context_at-x-2) c.from-v-2.ensures refl c.coded_as-c-2.ensures c.record_at-old-2.ensures c.update_with_k.ensures.are_ks_2 c.k_at-2.ensures)
    (c.put_code-after.ensures.result_value, c.put_code-after.ensures.out_after) c.put_code-after.auto.out (c.update_with_k-2.ensures.ns_after, (c.update_with_k-2.ensures.set_in_range_2, c.update_with_k-2.ensures.are_ks_2)) in
    record {
      steps_put = same_steps (odd_due_lem c.args.spot.plan c.args.spot.w c.args.spot.p c.if-p-lt8.false) (two_puts (two (goal.at.returns c).Else-p-lt8) (done (goal.at.returns c).After-update_with_k) e.put);
      set_in_range = e.records;
      are_ks_2 = c.update_with_k-2.ensures.are_ks_2;
    }

pub left_of-i-requires : goal.left_of-i-requires
left_of-i-requires c = first_in (goal.at.left_of-i-requires c).Else-p-lt8

pub index_in-j-requires : goal.index_in-j-requires
index_in-j-requires c = let l = first_in (goal.at.index_in-j-requires c).Else-p-lt8 in (l.0, (l.1.0, (c.requires.steps_ask.line, l.1.1)))

pub bounds-samples-j : goal.bounds-samples-j
bounds-samples-j c = within (goal.at.bounds-samples-j c).After-context_at-x

pub bounds-lines-i : goal.bounds-lines-i
bounds-lines-i c = (room (goal.at.bounds-lines-i c).After-coded_as-c).0

pub k_at-requires : goal.k_at-requires
k_at-requires c = c.coded_as-c.ensures.slot_lt

pub bounds-samples-j-2 : goal.bounds-samples-j-2
bounds-samples-j-2 c = (inside (goal.at.bounds-samples-j-2 c).After-index_in-j-2).2

pub k_at-requires-2 : goal.k_at-requires-2
k_at-requires-2 c = c.coded_as-c-2.ensures.slot_lt

pub shape_of-out : goal.shape_of-out
shape_of-out c = c.put_code-after.auto.out ∙ (done (goal.at.shape_of-out c).After-update_with_k).same

pub shape_of-lines : goal.shape_of-lines
shape_of-lines c =
    length-set (lines₁ (goal.at.shape_of-lines c).After-update_with_k) (c.left_of-i-2.result + 1) c.coded_as-c-2.result.value ∙ (done (goal.at.shape_of-lines c).After-update_with_k).long
