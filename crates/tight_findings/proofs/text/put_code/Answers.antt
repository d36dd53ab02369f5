-- `tight_findings::text::put_code` meets its contract: one field after the other. Assumes nothing.
use native.Mathlib.Omega.{arith}
use Rattle.tight_findings.proofs.TextLaws.{put_both}
use Rattle.tight_findings.proofs.text.put_code.Goals as goal

pub returns : goal.returns
returns c =
    let p2 = put_both c.put_field-at1.ensures.0 c.put_field-at2.ensures.0 (omega (arith, c.put_field-at1.ensures.1, c.put_field-at2.ensures.1, c.requires)) in
    let p3 = put_both p2 c.put_field-at3.ensures.0 (omega (arith, c.put_field-at1.ensures.1, c.put_field-at2.ensures.1, c.put_field-at3.ensures.1, c.requires)) in
    let p4 = put_both p3 c.put_field-at4.ensures.0 (omega (arith, c.put_field-at1.ensures.1, c.put_field-at2.ensures.1, c.put_field-at3.ensures.1, c.put_field-at4.ensures.1, c.requires)) in
    let p5 = put_both p4 c.put_field-at5.ensures.0 (omega (arith, c.put_field-at1.ensures.1, c.put_field-at2.ensures.1, c.put_field-at3.ensures.1, c.put_field-at4.ensures.1, c.put_field-at5.ensures.1, c.requires)) in
    let p6 = put_both p5 c.put_field-at6.ensures.0 (omega (arith, c.put_field-at1.ensures.1, c.put_field-at2.ensures.1, c.put_field-at3.ensures.1, c.put_field-at4.ensures.1, c.put_field-at5.ensures.1, c.put_field-at6.ensures.1, c.requires)) in
    (put_both p6 c.put_reason.ensures.0 (omega (arith, c.put_field-at1.ensures.1, c.put_field-at2.ensures.1, c.put_field-at3.ensures.1, c.put_field-at4.ensures.1, c.put_field-at5.ensures.1, c.put_field-at6.ensures.1, c.put_reason.ensures.1, c.requires)), omega (arith, c.put_field-at1.ensures.1, c.put_field-at2.ensures.1, c.put_field-at3.ensures.1, c.put_field-at4.ensures.1, c.put_field-at5.ensures.1, c.put_field-at6.ensures.1, c.put_reason.ensures.1))
