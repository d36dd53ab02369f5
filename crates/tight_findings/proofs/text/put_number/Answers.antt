-- `tight_findings::text::put_number` meets its contract. Assumes nothing.
use Prim.Native.Nat.{◌≤◌}
use native.Mathlib.Omega.{arith}
use Rattle.tight_findings.proofs.TextLaws.{put_same, few_digits, number_is}
use Rattle.tight_findings.proofs.text.put_number.Goals as goal
use Rattle.tight_findings.proofs.text.put_number.Goals.{After-decimal-k}

-- twenty digits hold the number
few : (c : After-decimal-k) → c.decimal-k.result ≤ 20
few c = few_digits 20 c.args.n c.decimal-k.result (omega arith) c.decimal-k.ensures.len (omega arith)

pub returns : goal.returns
returns c =
    (put_same (number_is _ c.decimal-k.result _ (few (goal.at.returns c).After-decimal-k) c.decimal-k.ensures.len c.decimal-k.ensures.digits) c.put.ensures, omega (arith, few (goal.at.returns c).After-decimal-k, c.decimal-k.ensures.in_bounds, c.put.ensures.ends))
