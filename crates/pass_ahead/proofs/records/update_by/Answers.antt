-- `pass_ahead::records::update_by` meets its contract. Assumes nothing.
use Rattle.numbers.proofs.FlagLaws.{flag_of}
use native.Mathlib.Omega.{arith}
use mathlib.Core.Path.{◌≡◌, sym, ap, ◌∙◌}
use Prim.Native.Nat.{ℕ, ◌-◌, ◌≤◌}
use lib.Count.{count_leading_zeros}
use lib.ListN.{get_or}
use Rattle.statistics.proofs.RecordLaws.{sum_lt}
use Rattle.pass_steps.proofs.ZipLaws.{n_in_range, record_in_range}
use Rattle.pass_ahead.specs.Tables.{next_of}
use Rattle.pass_ahead.proofs.UpdateLaws.{new_ok, after_is, after_ok, after_ks}
use Rattle.pass_ahead.proofs.records.update_by.Goals as goal
use Rattle.pass_ahead.proofs.records.update_by.Goals.{After-from-more, Start}

range : (c : Start) → let n = get_or c.args.ns.now c.args.slot 0 in (1 ≤ n) × (n ≤ 64)
range c = n_in_range c.args.sums.now c.args.ns.now c.requires.set_in_range c.args.slot c.requires.code_bound.1.0

more : (c : After-from-more) → c.from-more.result ≡ next_of (get_or c.args.ns.now c.args.slot 0)
more c =
    let n = (let range : let n = get_or c.args.ns.now c.args.slot 0 in (1 ≤ n) × (n ≤ 64) = n_in_range c.args.sums.now c.args.ns.now c.requires.set_in_range c.args.slot c.requires.code_bound.1.0 in range) in
    c.from-more.ensures ∙ c.requires.code_bound.1.1.0 _ n.0 n.1

pub overflow_add-sum : goal.overflow_add-sum
overflow_add-sum c =
    omega (arith, sum_lt _ (record_in_range c.args.sums.now c.args.ns.now c.requires.set_in_range c.args.slot c.requires.code_bound.1.0), c.residual_size.ensures.1)

pub bounds-next-old : goal.bounds-next-old
bounds-next-old c = omega (arith, range (goal.at.bounds-next-old c).Start)

pub bounds-digits-old : goal.bounds-digits-old
bounds-digits-old c = omega (arith, range (goal.at.bounds-digits-old c).Start)

pub k_with-requires : goal.k_with-requires
k_with-requires c =
    let n = range (goal.at.k_with-requires c).Start in (
      new_ok c.args.sums.now c.args.ns.now c.args.ks.now c.args.slot _ _ _ _ c.requires.set_in_range c.requires.code_bound.1.0 c.residual_size.ensures.1 c.residual_size.ensures.0 (c.from.ensures ∙ flag_of _) (more (goal.at.k_with-requires c).After-from-more),
      c.from-2.ensures ∙ c.requires.code_bound.1.1.1 _ n.0 n.1 ∙ ap (λ (x : ℕ). 31 - count_leading_zeros 32 x) (sym (more (goal.at.k_with-requires c).After-from-more)),
    )

pub returns : goal.returns
returns c =
    record {
      ns_after = after_is c.args.sums.now c.args.ns.now c.args.ks.now c.args.slot _ _ _ _ c.requires.set_in_range c.requires.code_bound.1.0 c.residual_size.ensures.1 c.residual_size.ensures.0 (c.from.ensures ∙ flag_of _) (more (goal.at.returns c).After-from-more);
      set_in_range_2 = after_ok c.args.sums.now c.args.ns.now c.args.ks.now c.args.slot _ _ _ _ c.requires.set_in_range c.requires.code_bound.1.0 c.residual_size.ensures.1 c.residual_size.ensures.0 (c.from.ensures ∙ flag_of _) (more (goal.at.returns c).After-from-more);
      are_ks_2 = after_ks c.args.sums.now c.args.ns.now c.args.ks.now c.args.slot _ _ _ _ c.requires.set_in_range c.requires.code_bound.1.0 c.residual_size.ensures.1 c.residual_size.ensures.0 (c.from.ensures ∙ flag_of _) (more (goal.at.returns c).After-from-more) _ c.k_with.ensures c.requires.are_ks;
    }
