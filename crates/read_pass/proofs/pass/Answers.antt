-- `read_pass::pass` meets its contract: before each chunk the steps of the turns so far are read. Assumes nothing.
use mathlib.Core.Path.{refl, ◌∙◌}
use Prim.Native.Nat.{◌+◌, ◌-◌, ◌*◌, ◌%◌, ◌≤◌, ◌<◌, min}
use mathlib.Core.Path.{◌≡◌}
use native.Mathlib.Omega.{arith}
use Rattle.pass_schedule.specs.Steps.{upto}
use Rattle.pass_steps.proofs.TableLaws.{are_quantisers}
use Rattle.read_pass.proofs.RangeLaws.{reads_keep}
use Rattle.read_pass.proofs.StepLaws.{no_steps, chunk_more, chunk_cut_off, all_read}
use Rattle.read_pass.proofs.SiteLaws.{limits_fit, tables_made, pair_was_cut_off, pair_was_at, passed_cut_off, passed}
use Rattle.read_pass.proofs.pass.Goals as goal
use Rattle.read_pass.proofs.pass.Goals.{After-min-n, In-loop-i}

-- there are no more long codes than bits
counted : (c : In-loop-i) → c.loop-i.place.long ≤ c.loop-i.place.at.0
counted c =
    (reads_keep _ _ _ _ c.requires.depth.1 _ _ _ c.loop-i.invariant.read.are).counted c.requires.counted

-- its turns: they are more than none, and the next ones begin behind them
record Turned (c : After-min-n) : Type 0 where
  most : c.min-n.result ≤ 48
  ends : 96 * c.loop-i.i + 2 * c.min-n.result ≤ c.args.w + 8
  here : min (96 * c.loop-i.i) (c.args.w + 8) ≡ 96 * c.loop-i.i
  next : 96 * c.loop-i.i + 2 * c.min-n.result ≡ min (96 * (c.loop-i.i + 1)) (c.args.w + 8)

turns : (c : After-min-n) → Turned c
turns c =
    let inside : 96 * c.loop-i.i < c.args.w + 8 = omega (arith, c.loop-i-test.true, c.div_ceil-i-end.ensures) in
    let even : (c.args.w + 8 - 96 * c.loop-i.i) % 2 ≡ 0 = omega (arith, c.requires.even) in
    record {
      most = omega (arith, c.min-n.ensures);
      ends = omega (arith, c.min-n.ensures);
      here = omega arith;
      next = omega (arith, c.min-n.ensures);
    }

pub limits_of-limits-requires : goal.limits_of-limits-requires
limits_of-limits-requires c = limits_fit _ _ _ (are_quantisers _ _ c.requires.quantisers).limit c.requires.depth.1

pub loop-i-init : goal.loop-i-init
unfolding upto
loop-i-init c =
    record {
      even = omega arith;
      same = refl;
      records = c.requires.records;
      ks_kept = c.ks_of-ks.ensures;
      one = refl;
      two = refl;
      read = let none : min 0 (c.args.w + 8) ≡ 0 = omega arith in rw none no_steps;
    }

pub chunk-requires : goal.chunk-requires
chunk-requires c =
    let q = are_quantisers _ _ c.requires.quantisers in
    let a = turns (goal.at.chunk-requires c).After-min-n in record {
      chunk_asks = record {
        holds = record {
          bytes = c.requires.bytes;
          width = c.requires.high;
          room = (omega (arith, c.requires.room.0, c.loop-i.invariant.same), omega (arith, c.requires.room.1, c.loop-i.invariant.same));
          plan = c.requires.plan;
          apart = c.requires.apart;
          depth = c.requires.depth;
          base = c.requires.base;
          tables = tables_made _ _ _ _ _ _ q.limit q.total c.by_slot-steps.ensures c.limits_of-limits.ensures;
          becomes = c.next_table-next.ensures;
          lengths = c.digits_table-digits.ensures;
          records = c.loop-i.invariant.records;
          ks_kept = c.loop-i.invariant.ks_kept;
          counted = counted (goal.at.chunk-requires c).In-loop-i;
        };
        flats = c.by_flatness-flatness.ensures;
        low = c.requires.low;
        begins = omega arith;
        ends = a.ends;
        most = a.most;
      };
      ahead = (c.fill.ensures.ahead, c.fill-in-loop-i.ensures.ahead);
    }

pub returns-in_err-place : goal.returns-in_err-place
returns-in_err-place c =
    let cut = pair_was_cut_off _ _ _ _ _ _ _ _ _ c.chunk.ensures.answer c.in_err-place.was in
    record {
      answer = rw c.from_residual.ensures (passed_cut_off _ (chunk_cut_off c.args.plan _ _ (rw (turns (goal.at.returns-in_err-place c).After-min-n).here at c.loop-i.invariant.read) c.requires.even (turns (goal.at.returns-in_err-place c).After-min-n).ends cut));
      records = rw c.from_residual.ensures tt;
    }

pub loop-i-preserved : goal.loop-i-preserved
loop-i-preserved c =
    let t = turns (goal.at.loop-i-preserved c).After-min-n in
    let at = pair_was_at _ _ _ _ _ _ _ _ _ c.chunk.ensures.answer c.in_ok-place.was in
    record {
      even = omega (arith, c.requires.even);
      same = c.chunk.auto.lines ∙ c.loop-i.invariant.same;
      records = c.chunk.ensures.records;
      ks_kept = c.chunk.ensures.ks_kept;
      one = c.fill.ensures.out_len_2;
      two = c.fill-in-loop-i.ensures.out_len_2;
      read = rw t.next at (chunk_more c.args.plan _ _ (rw t.here at c.loop-i.invariant.read) at);
    }

pub returns : goal.returns
returns c =
    record {
      answer = passed _ _ _ _ (all_read c.args.plan _ 0 c.loop-i.invariant.read c.requires.even (omega (arith, c.loop-i-test.false, c.div_ceil-i-end.ensures)));
      records = c.loop-i.invariant.records;
    }
