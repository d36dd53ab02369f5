-- `write_block::write_set` meets its contract: samples are looked at before the set is measured. Assumes nothing.
use Rattle.std.proofs.Common.{ap, sym, ◌∙◌, ℕ, replicate}
use Rattle.write_block.proofs.AnswerLaws.{refused_out, set_above, set_wanted, set_answer_lem}
use Rattle.write_block.proofs.write_set.Goals as goal

pub returns-in-Some-clause-fact : goal.returns-in-Some-clause-fact
returns-in-Some-clause-fact c = (
  set_above c.args.form c.args.bases.now c.args.count c.args.samples.now _ _ _ c.largest-m.ensures.0 c.is_strict.ensures _ (sym c.in-Some.ensures),
  refused_out c.args.measure _ _ _,
)

pub returns-in-Some-clause-lines_after : goal.returns-in-Some-clause-lines_after
returns-in-Some-clause-lines_after c = (c.clear.ensures ∙ ap (λ (n : ℕ). replicate n 0) c.requires.depth.1.0, c.clear_records.ensures)

pub write_measured-requires : goal.write_measured-requires
write_measured-requires c =
    record {
      count_bound = (
        c.requires.count_bound.0,
        (
          c.requires.count_bound.1,
          set_wanted c.args.form c.args.bases.now c.args.count c.args.samples.now 0 _ _ c.largest-m.ensures.0 c.is_strict.ensures (sym c.in_default.ensures),
        ),
      );
      depth = c.requires.depth;
    }

pub returns : goal.returns
returns c =
    record {
      fact = (
        set_answer_lem c.args.form c.args.bases.now c.args.count c.args.samples.now _ _ _ c.largest-m.ensures.0 c.is_strict.ensures
            (sym c.in_default.ensures) _ c.write_measured.ensures.fact.0,
        c.write_measured.ensures.fact.1,
      );
      lines_after = c.write_measured.ensures.lines_after;
    }
