-- `tight_findings::text::put_field` meets its contract. Assumes nothing.
use native.Mathlib.Omega.{arith}
use Rattle.tight_findings.proofs.TextLaws.{put_both}
use Rattle.tight_findings.proofs.text.put_field.Goals as goal

pub returns : goal.returns
returns c =
    (put_both c.put_number-end.ensures.0 c.put.ensures (omega (arith, c.put_number-end.ensures.1, c.put.ensures.ends, c.requires)), omega (arith, c.put_number-end.ensures.1, c.put.ensures.ends))
