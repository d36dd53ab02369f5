-- `read_pass::one_sample::odd_coding` meets its contract, by the answers of the leaves. Assumes nothing.
use Rattle.read_pass.proofs.SiteLaws.{aim_small}
use Rattle.read_pass.proofs.one_sample.odd_coding.Goals as goal

pub coding_by-requires : goal.coding_by-requires
coding_by-requires c =
    (c.requires.bits_bound.0, aim_small _ _ _ c.odd_aim_at-aim.ensures)
