-- `stream_copies::tighten` meets its contract: it is the call without rows. Assumes nothing.
use mathlib.Core.Bool.{true, false}
use mathlib.Core.List.{[]}
use mathlib.Core.Path.{◌≡◌}
use Prim.Native.Nat.{ℕ}
use native.Mathlib.Omega.{arith}
use Rattle.stream_copies.specs.MadeStreams.{Lent}
use Rattle.stream_copies.proofs.MadeLaws.{open_refused, is_open, tight_made}
use Rattle.numbers.proofs.PassedLaws.{passed_on}
use Rattle.stream_copies.proofs.tighten.Goals as goal

clash : {X : Type 0} → true ≡ false → X
clash e = let no : ◌≡◌ {A = ℕ} 0 1 = cc in absurd (omega arith)

pub make-requires : goal.make-requires
make-requires c =
    let before : Lent = record { out = c.args.out.now; set = c.args.set.now; lines = c.args.lines.now; records = c.args.rs.now } in
    (is_open c.args.d.now [] before _ _ c.open.ensures c.in_ok-h.was, λ e. clash e)

pub returns-in_err-h : goal.returns-in_err-h
returns-in_err-h c = rw (passed_on _ _ c.from_residual.ensures) (open_refused c.args.d.now [] (record {
  out = c.args.out.now;
  set = c.args.set.now;
  lines = c.args.lines.now;
  records = c.args.rs.now;
}) false _ _
    c.open.ensures c.in_err-h.was)

pub returns : goal.returns
returns c =
    tight_made c.args.d.now [] (record { out = c.args.out.now; set = c.args.set.now; lines = c.args.lines.now; records = c.args.rs.now }) _ _
    c.open.ensures c.in_ok-h.was _ _ c.make.ensures
