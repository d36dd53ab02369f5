-- `tight_findings::text::put_reason` meets its contract. Assumes nothing.
use lib.Dec.{lit≤}
use Rattle.code.specs.declared.reasons.Reason.TheVariants.{Large, Escape, Zeros}
use Rattle.tight_findings.proofs.TextLaws.{put_word}
use Rattle.tight_findings.proofs.text.put_reason.Goals as goal

pub returns-in-Large : goal.returns-in-Large
returns-in-Large c = put_word _ Large c.in-Large.is (lit≤ tt) c.put.ensures

pub returns-in-Escape : goal.returns-in-Escape
returns-in-Escape c = put_word _ Escape c.in-Escape.is (lit≤ tt) c.put-in-Escape.ensures

pub returns-in-Zeros : goal.returns-in-Zeros
returns-in-Zeros c = put_word _ Zeros c.in-Zeros.is (lit≤ tt) c.put-in-Zeros.ensures
