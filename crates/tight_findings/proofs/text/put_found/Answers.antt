-- `tight_findings::text::put_found` meets its contract, by the kind of the fault. Assumes nothing.
use mathlib.Core.List.{◌++◌}
use mathlib.Core.Path.{◌≡◌}
use Prim.Native.Nat.{ℕ}
use native.Mathlib.Omega.{arith}
use Rattle.bits.specs.declared.BitPosition.{BitPosition}
use Rattle.code.specs.declared.reasons.BadSpot.{BadSpot}
use Rattle.tight_findings.specs.Texts.{heading, code_text, tail_record, text_of}
use Rattle.tight_findings.proofs.TextLaws.{put_both, put_same}
use Rattle.tight_findings.proofs.text.put_found.Goals as goal
use Rattle.std.specs.Prelude.{None, Ok, Option, Some}
use Rattle.tight_diagnosis.specs.declared.Fault.{Fault}

of_nothing : (f : Option (ℕ × Fault)) → f ≡ None → heading ≡ text_of (Ok f)
unfolding text_of
of_nothing f e = rw e

of_code : (f : Option (ℕ × Fault)) (b : ℕ) (y : Fault) (x : BadSpot) → f ≡ Some (b, y) → y ≡ Fault.Code x → heading ++ code_text b x ≡ text_of (Ok f)
unfolding text_of
of_code f b y x e k = rw (e, k)

of_tail : (f : Option (ℕ × Fault)) (b : ℕ) (y : Fault) (n : ℕ) (at : BitPosition) → f ≡ Some (b, y) → y ≡ Fault.Tail n at → heading ++ tail_record b n at ≡ text_of (Ok f)
unfolding text_of
of_tail f b y n at e k = rw (e, k)

pub returns-in_default : goal.returns-in_default
returns-in_default c =
    (put_same (of_nothing _ c.in_default.is) c.put_heading-end.ensures.0, omega (arith, c.put_heading-end.ensures.1))

pub returns-in-Code : goal.returns-in-Code
returns-in-Code c =
    (put_same (of_code _ _ _ _ c.in-Some.is c.in-Code.is) (put_both c.put_heading-end.ensures.0 c.put_code.ensures.0 (omega (arith, c.put_heading-end.ensures.1, c.put_code.ensures.1, c.requires))), omega (arith, c.put_heading-end.ensures.1, c.put_code.ensures.1))

pub returns-in-Tail : goal.returns-in-Tail
returns-in-Tail c =
    (put_same (of_tail _ _ _ _ _ c.in-Some.is c.in-Tail.is) (put_both c.put_heading-end.ensures.0 c.put_tail.ensures.0 (omega (arith, c.put_heading-end.ensures.1, c.put_tail.ensures.1, c.requires))), omega (arith, c.put_heading-end.ensures.1, c.put_tail.ensures.1))
