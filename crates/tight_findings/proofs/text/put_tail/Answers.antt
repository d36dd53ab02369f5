-- `tight_findings::text::put_tail` meets its contract: one field after the other. Assumes nothing.
use native.Mathlib.Omega.{arith}
use Rattle.tight_findings.proofs.TextLaws.{put_both}
use Rattle.tight_findings.proofs.text.put_tail.Goals as goal

pub returns : goal.returns
returns c =
    let p2 = put_both c.put_field-at1.ensures.0 c.put_field-at2.ensures.0 (omega (arith, c.put_field-at1.ensures.1, c.put_field-at2.ensures.1, c.requires)) in
    let p3 = put_both p2 c.put-at3.ensures (omega (arith, c.put_field-at1.ensures.1, c.put_field-at2.ensures.1, c.put-at3.ensures.ends, c.requires)) in
    let p4 = put_both p3 c.put_field-at4.ensures.0 (omega (arith, c.put_field-at1.ensures.1, c.put_field-at2.ensures.1, c.put-at3.ensures.ends, c.put_field-at4.ensures.1, c.requires)) in
    (put_both p4 c.put.ensures (omega (arith, c.put_field-at1.ensures.1, c.put_field-at2.ensures.1, c.put-at3.ensures.ends, c.put_field-at4.ensures.1, c.put.ensures.ends, c.requires)), omega (arith, c.put_field-at1.ensures.1, c.put_field-at2.ensures.1, c.put-at3.ensures.ends, c.put_field-at4.ensures.1, c.put.ensures.ends))
