-- `tight_findings::report` meets its contract: the text stands at the start of the buffer. Assumes nothing.
use mathlib.Core.Path.{ap}
use native.Mathlib.Omega.{arith}
use Rattle.tight_findings.specs.Texts.{text_of}
use Rattle.tight_findings.proofs.TextLaws.{counts, put_same, put_start}
use Rattle.tight_findings.proofs.report.Goals as goal

pub returns : goal.returns
returns c =
    record {
      fact = put_start (put_same (ap text_of c.find-f.ensures) c.put_finding.ensures.0);
      prefix_len = counts _ _ (omega (arith, c.put_finding.ensures.1, c.put_finding.auto));
    }
