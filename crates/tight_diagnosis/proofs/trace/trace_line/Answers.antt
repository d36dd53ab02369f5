-- `tight_diagnosis::trace::trace_line` meets its contract: i passes have been walked, with tight codes alone. Assumes nothing.
use borrow.Rule.Slice.PartMut.{mid_of, put_mid, same_len_mid, mid_len}
use mathlib.Core.Path.{◌≡◌, refl, sym, ◌∙◌}
use Prim.Native.Nat.{ℕ, ◌+◌, ◌-◌, ◌*◌, ◌<◌}
use native.Mathlib.Omega.{arith}
use lib.ListN.{length}
use Rattle.colour_lines.proofs.LineLaws.{line_inside}
use Rattle.pass_steps.specs.Values.{zip_records}
use Rattle.read_block.specs.Walks.{AllInRange}
use Rattle.read_block.proofs.LineLaws.{planned, width_in_range}
use Rattle.tight_diagnosis.specs.Traces.{clean_state, Says}
use Rattle.tight_diagnosis.proofs.WayLaws.{on_then, then_stops, turn_at, turn_stops}
use Rattle.tight_diagnosis.proofs.LineLaws.{lent_in_range, back_in_range, pass_way, passes_none, passes_next, line_end, end_past, end_here, pass_says}
use Rattle.numbers.proofs.PassedLaws.{passed_on}
use Rattle.tight_diagnosis.proofs.trace.trace_line.Goals as goal
use Rattle.tight_diagnosis.proofs.trace.trace_line.Goals.{After-plan_at-p, After-trace_pass, At-loop-i}

-- the set of the pass
one_of_three : (c : After-plan_at-p) → c.plan_at-p.result.set < 3
one_of_three c =
    (planned _ c.loop-i.i _ c.loop-i-test.true c.plan_at-p.ensures).1

-- the parts keep their lengths
abbrev set_of : (c : After-trace_pass) → ℕ
set_of c = c.plan_at-p.result.set

sums_part : (c : After-trace_pass) → length (mid_of (112 * (set_of c)) (112 * (set_of c) + 112 - 112 * (set_of c)) c.loop-i.sums) ≡ 112
sums_part c = mid_len (112 * (set_of c)) (112 * (set_of c) + 112) c.loop-i.sums (omega (arith, one_of_three (goal.at.After-trace_pass c).After-plan_at-p, c.loop-i.invariant.1)) ∙ omega arith

ns_part : (c : After-trace_pass) → length (mid_of (112 * (set_of c)) (112 * (set_of c) + 112 - 112 * (set_of c)) c.loop-i.ns) ≡ 112
ns_part c = mid_len (112 * (set_of c)) (112 * (set_of c) + 112) c.loop-i.ns (omega (arith, one_of_three (goal.at.After-trace_pass c).After-plan_at-p, c.loop-i.invariant.1)) ∙ omega arith

sums_back : (c : After-trace_pass) → length c.trace_pass.new.sums ≡ 112
sums_back c = c.trace_pass.auto.sums ∙ (sums_part c)

ns_back : (c : After-trace_pass) → length c.trace_pass.new.ns ≡ 112
ns_back c = c.trace_pass.auto.ns ∙ (ns_part c)

-- what the pass says, as that of a line
said : (c : After-trace_pass) → let e = 112 * (set_of c) + 112 - 112 * (set_of c) in
    Says (clean_state c.trace_pass.new.lines (put_mid (112 * (set_of c)) e c.loop-i.sums c.trace_pass.new.sums)
    (put_mid (112 * (set_of c)) e c.loop-i.ns c.trace_pass.new.ns))
    (pass_way c.args.form c.args.block.now c.args.n c.loop-i.i (clean_state c.loop-i.lines c.loop-i.sums c.loop-i.ns c.loop-i.at)) c.trace_pass.result
said c =
    pass_says c.args.form c.args.block.now c.args.n c.loop-i.i _ c.plan_at-p.result c.args.q c.loop-i.lines _ _ c.loop-i.sums c.loop-i.ns c.loop-i.at (112 * (set_of c)) (112 * (set_of c) + 112)
    c.loop-i.invariant.0.0 c.plan_at-p.ensures c.set_guards.ensures c.set_guards-in-loop-i.ensures refl refl c.loop-i.invariant.1.1 c.loop-i.invariant.1.2 (one_of_three (goal.at.After-trace_pass c).After-plan_at-p)
    _ _ _ (sums_back c) (ns_back c) c.trace_pass.ensures.says

back : (c : After-trace_pass) → let e = 112 * (set_of c) + 112 - 112 * (set_of c) in
    AllInRange (zip_records (put_mid (112 * (set_of c)) e c.loop-i.sums c.trace_pass.new.sums)
    (put_mid (112 * (set_of c)) e c.loop-i.ns c.trace_pass.new.ns))
back c =
    back_in_range c.loop-i.sums c.loop-i.ns (set_of c) (112 * (set_of c)) (112 * (set_of c) + 112) refl refl c.loop-i.invariant.1.1 c.loop-i.invariant.1.2 (one_of_three (goal.at.After-trace_pass c).After-plan_at-p) c.loop-i.invariant.2 _ _ (sums_back c) (ns_back c) c.trace_pass.ensures.records

test : (c : After-trace_pass) → c.loop-i.i < 6
test c = c.loop-i-test.true

lines_long : (c : After-trace_pass) → length c.trace_pass.new.lines ≡ length c.loop-i.lines
lines_long c = omega (arith, c.trace_pass.auto, c.set_guards-in-loop-i.auto, c.set_guards.auto)

sums_long : (c : After-trace_pass) → length (put_mid (112 * (set_of c)) (112 * (set_of c) + 112 - 112 * (set_of c)) c.loop-i.sums c.trace_pass.new.sums)
    ≡ length c.loop-i.sums
sums_long c = same_len_mid (112 * (set_of c)) (112 * (set_of c) + 112 - 112 * (set_of c)) c.loop-i.sums c.trace_pass.new.sums c.trace_pass.auto.sums

ns_long : (c : After-trace_pass) → length (put_mid (112 * (set_of c)) (112 * (set_of c) + 112 - 112 * (set_of c)) c.loop-i.ns c.trace_pass.new.ns)
    ≡ length c.loop-i.ns
ns_long c = same_len_mid (112 * (set_of c)) (112 * (set_of c) + 112 - 112 * (set_of c)) c.loop-i.ns c.trace_pass.new.ns c.trace_pass.auto.ns

pub loop-i-init : goal.loop-i-init
loop-i-init c =
    let w = width_in_range c.args.form.xtrans _ c.width-w.ensures in (
      (c.width-w.ensures, w.0, w.1, w.2),
      (rw c.width-w.ensures c.requires.room, c.requires.for_sums, c.requires.for_ns),
      c.requires.records,
      passes_none _ _ _ _,
    )

pub set_guards-requires : goal.set_guards-requires
set_guards-requires c =
    let r = planned _ c.loop-i.i _ c.loop-i-test.true c.plan_at-p.ensures in
    let inside = line_inside c.width-w.result _ r.0.first_high in
    (c.loop-i.invariant.0.2, (omega (arith, r.0.first_low), (r.0.first_high, omega (arith, inside, c.loop-i.invariant.1))))

pub set_guards-requires-in-loop-i : goal.set_guards-requires-in-loop-i
set_guards-requires-in-loop-i c =
    let r = planned _ c.loop-i.i _ c.loop-i-test.true c.plan_at-p.ensures in
    let inside = line_inside c.width-w.result _ r.0.second_high in
    (c.loop-i.invariant.0.2, (omega (arith, r.0.second_low), (r.0.second_high, omega (arith, inside, c.set_guards.auto, c.loop-i.invariant.1))))

pub trace_pass-requires : goal.trace_pass-requires
trace_pass-requires c =
    let r = planned _ c.loop-i.i _ c.loop-i-test.true c.plan_at-p.ensures in
    record {
      stage = record {
        bytes = c.requires.bytes;
        pass = omega (arith, c.loop-i-test.true);
        width = c.loop-i.invariant.0.2;
        room = omega (arith, c.set_guards-in-loop-i.auto, c.set_guards.auto, c.loop-i.invariant.1);
        depth = c.requires.depth;
        quantiser = c.requires.quantiser;
        for_sums = mid_len (112 * c.plan_at-p.result.set) (112 * c.plan_at-p.result.set + 112) c.loop-i.sums (omega (arith, r.1, c.loop-i.invariant.1)) ∙ omega arith;
        for_ns = mid_len (112 * c.plan_at-p.result.set) (112 * c.plan_at-p.result.set + 112) c.loop-i.ns (omega (arith, r.1, c.loop-i.invariant.1)) ∙ omega arith;
        records = lent_in_range c.loop-i.sums c.loop-i.ns c.plan_at-p.result.set (112 * c.plan_at-p.result.set) (112 * c.plan_at-p.result.set + 112) refl refl c.loop-i.invariant.1.1 c.loop-i.invariant.1.2 r.1 c.loop-i.invariant.2;
      };
      even = c.loop-i.invariant.0.3;
      plan = r.0;
    }

pub returns-in_err-at : goal.returns-in_err-at
returns-in_err-at c =
    record {
      says = rw (passed_on _ _ c.from_residual.ensures)
          (then_stops _ (line_end c.args.form c.args.block.now c.args.n _ 6 refl)
          (turn_stops _ _ (passes_next c.args.form c.args.block.now c.args.n _) (test (goal.at.returns-in_err-at c).After-trace_pass) c.loop-i.invariant.3 (said (goal.at.returns-in_err-at c).After-trace_pass) c.in_err-at.was) refl);
      records = back (goal.at.returns-in_err-at c).After-trace_pass;
    }

pub loop-i-preserved : goal.loop-i-preserved
loop-i-preserved c = (
  c.loop-i.invariant.0,
  (lines_long (goal.at.loop-i-preserved c).After-trace_pass ∙ c.loop-i.invariant.1.0, sums_long (goal.at.loop-i-preserved c).After-trace_pass ∙ c.loop-i.invariant.1.1, ns_long (goal.at.loop-i-preserved c).After-trace_pass ∙ c.loop-i.invariant.1.2),
  back (goal.at.loop-i-preserved c).After-trace_pass,
  turn_at _ _ (passes_next c.args.form c.args.block.now c.args.n _) (test (goal.at.loop-i-preserved c).After-trace_pass) c.loop-i.invariant.3 (said (goal.at.loop-i-preserved c).After-trace_pass) c.in_ok-at.was,
)

pub returns-then-is_past : goal.returns-then-is_past
returns-then-is_past c =
    record {
      says = record {
        is = line_end c.args.form c.args.block.now c.args.n _ c.loop-i.i (omega (arith, c.loop-i-test.false, c.loop-i.auto.i-end))
            ∙ on_then _ _ _ c.loop-i.invariant.3 ∙ end_past c.args.block.now _ (sym c.is_past.ensures ∙ c.if-is_past.true);
      };
      records = c.loop-i.invariant.2;
    }

pub returns : goal.returns
returns c =
    record {
      says = record {
        is = line_end c.args.form c.args.block.now c.args.n _ c.loop-i.i (omega (arith, c.loop-i-test.false, c.loop-i.auto.i-end))
            ∙ on_then _ _ _ c.loop-i.invariant.3 ∙ end_here c.args.block.now _ (sym c.is_past.ensures ∙ c.if-is_past.false);
      };
      records = c.loop-i.invariant.2;
    }

pub overflow_mul-start : goal.overflow_mul-start
overflow_mul-start c = omega (arith, one_of_three (goal.at.overflow_mul-start c).After-plan_at-p)

pub overflow_add-end : goal.overflow_add-end
overflow_add-end c = omega (arith, one_of_three (goal.at.overflow_add-end c).After-plan_at-p)

pub offset_bounds-sums-start : goal.offset_bounds-sums-start
offset_bounds-sums-start c = omega (arith, one_of_three (goal.at.offset_bounds-sums-start c).After-plan_at-p)

pub slice_bounds-trace_pass-end : goal.slice_bounds-trace_pass-end
slice_bounds-trace_pass-end c = omega (arith, one_of_three (goal.at.slice_bounds-trace_pass-end c).After-plan_at-p, c.loop-i.invariant.1)
