-- `code_reader::next_code` meets its contract, by the run of zeros. Its one bit stands inside the block, so that no position is near the last one.
-- Assumes nothing.
use borrow.Author.Tests.{leb-true, leb-false}
use mathlib.Core.Bool.{Bool, true, false, ◌&&◌}
use mathlib.Core.Path.{◌≡◌, sym, ap, ◌∙◌}
use mathlib.Core.List.{List}
use Prim.Native.Nat.{ℕ, ◌+◌, ◌*◌, ◌/◌, ◌%◌, ◌^◌, ◌≤◌, ◌<◌, min}
use native.Mathlib.Omega.{arith}
use lib.Dec.{leb, eqb}
use lib.ListN.{length}
use Rattle.bits.specs.Bits.{bits_at, zero_run}
use Rattle.bits.specs.Inside.{after_run}
use Rattle.bits.specs.Positions.{ahead}
use Rattle.bit_pump.specs.Pump.{next_bits, moved_to}
use Rattle.bits.specs.declared.BitPosition.{BitPosition}
use Rattle.bit_pump.specs.declared.BitPumpMsb.{BitPumpMsb}
use Rattle.bits.proofs.RunLaws.{run_inside}
use Rattle.code.specs.Codes.{code_at}
use Rattle.code.proofs.CodeLaws.{code_none, code_short, code_long, short_lt, long_le, shifted}
use Rattle.code_reader.proofs.next_code.Goals as goal
use Rattle.code_reader.proofs.next_code.Goals.{After-is_long, Else-is_long, Then-is_long}
use Rattle.std.specs.Prelude.{Option, Some}

-- the pump is h at first, and g after a run of z
module _ (h g : BitPumpMsb) (run : Option ℕ) (z : ℕ) (is : run ≡ Some z) (er : run ≡ zero_run h.«data».now h.at.0)
    (eg : g ≡ moved_to h (after_run h.at.0 run)) where
  abbrev s : List ℕ
  s = h.«data».now

  abbrev p : ℕ
  p = h.at.0

  run_of : zero_run s p ≡ Some z
  run_of = sym er ∙ is

  -- the n bits after the one bit, and where they end
  bits_of : (n low : ℕ) → n ≤ 16 → low ≡ next_bits g n → low ≡ bits_at s (p + z + 1) n
  bits_of n low hn e =
      let m : min n 32 ≡ n = omega arith in
      e ∙ rw (eg, is, m)

  end_of : (n : ℕ) (f : BitPumpMsb) (q : BitPosition) → n ≤ 16 → length s < 2 ^ 32 → f ≡ moved_to g (ahead g.at.0 (min n 32)) → q ≡ f.at
      → q ≡ record { 0 = p + z + 1 + n }
  end_of n f q hn hs ef eq =
      let m : ahead (p + z + 1) (min n 32) ≡ p + z + 1 + n = omega (arith, run_inside s p z run_of) in
      eq ∙ rw (ef, eg, is) (ap (λ (x : ℕ). record { 0 = x }) m)

  module _ (low k limit raw : ℕ) (hk : k ≤ 15) (hl : limit < 64) (hr : raw ≤ 16) where
    short : (f : BitPumpMsb) (q : BitPosition) → z < limit → low ≡ next_bits g k → length s < 2 ^ 32 → f ≡ moved_to g (ahead g.at.0 (min k 32)) → q ≡ f.at
        → Some (record { zeros = z; value = (z * 2 ^ k) % 2 ^ 32 + low; minimal = true; long = false; used = z + 1 + k; after = q }) ≡ code_at s p k limit raw
    short f q lt e hs ef eq =
        rw (shifted z k (omega arith) hk, bits_of k low (omega arith) e, end_of k f q (omega arith) hs ef eq) (sym (code_short s p k limit raw z run_of lt))

    short-fits : z < limit → low ≡ next_bits g k → (z * 2 ^ k) % 2 ^ 32 + low < 2 ^ 32
    short-fits lt e =
        omega (arith, bits_of k low (omega arith) e, shifted z k (omega arith) hk, short_lt s p k limit raw z hk hl lt)

    long : (n : Bool) (f : BitPumpMsb) (q : BitPosition) → limit ≤ z → low ≡ next_bits g raw → n ≡ (eqb z limit && leb limit ((low + 1) / 2 ^ k))
        → length s < 2 ^ 32 → f ≡ moved_to g (ahead g.at.0 (min raw 32)) → q ≡ f.at
        → Some (record { zeros = z; value = low + 1; minimal = n; long = true; used = z + 1 + raw; after = q }) ≡ code_at s p k limit raw
    long n f q le e en hs ef eq =
        rw (en, bits_of raw low hr e, end_of raw f q hr hs ef eq) (sym (code_long s p k limit raw z run_of le))

    long-fits : low ≡ next_bits g raw → low + 1 < 2 ^ 32
    long-fits e = omega (arith, bits_of raw low hr e, long_le s p k limit raw z hr)

-- a run is short enough for a sum
run_small : (c : After-is_long) → c.in_ok-zeros.zeros < 2 ^ 36
run_small c =
    omega (arith, run_inside _ _ _ (sym c.zero_run.ensures.0 ∙ c.in_ok-zeros.was), c.requires.0)

-- ---- long
is_long : (c : Then-is_long) → c.args.limit ≤ c.in_ok-zeros.zeros
is_long c = leb-true _ _ (sym c.is_long.ensures ∙ c.if-is_long.true)

-- ---- short
is_short : (c : Else-is_long) → c.in_ok-zeros.zeros < c.args.limit
is_short c = leb-false _ _ (sym c.is_long.ensures ∙ c.if-is_long.false)

pub returns-in_err-zeros : goal.returns-in_err-zeros
returns-in_err-zeros c = let e = code_none _ _ c.args.k c.args.limit c.args.raw (sym c.zero_run.ensures.0 ∙ c.in_err-zeros.was) in cc

pub overflow_add-value : goal.overflow_add-value
overflow_add-value c =
    record { fits = long-fits _ _ _ _ c.in_ok-zeros.was c.zero_run.ensures.0 c.zero_run.ensures.1 _ c.args.k c.args.limit _ c.requires.1.0 c.requires.1.1.0 c.requires.1.1.1 c.get-value.ensures.0 }

pub returns-then-is_long : goal.returns-then-is_long
returns-then-is_long c =
    long _ _ _ _ c.in_ok-zeros.was c.zero_run.ensures.0 c.zero_run.ensures.1 _ _ _ _ c.requires.1.0 c.requires.1.1.0 c.requires.1.1.1 c.is_needed.result _ _ (is_long (goal.at.returns-then-is_long c).Then-is_long) c.get-value.ensures.0 c.is_needed.ensures c.requires.0 c.get-value.ensures.1 c.bit_position-after.ensures

pub overflow_cast-result-2 : goal.overflow_cast-result-2
overflow_cast-result-2 c =
    omega (arith, is_short (goal.at.overflow_cast-result-2 c).Else-is_long, c.requires.1.1.0)

pub overflow_add-result-2 : goal.overflow_add-result-2
overflow_add-result-2 c =
    record { fits = short-fits _ _ _ _ c.in_ok-zeros.was c.zero_run.ensures.0 c.zero_run.ensures.1 _ _ c.args.limit c.args.raw c.requires.1.0 c.requires.1.1.0 c.requires.1.1.1 (is_short (goal.at.overflow_add-result-2 c).Else-is_long) c.get-low.ensures.0 }

pub returns : goal.returns
returns c =
    short _ _ _ _ c.in_ok-zeros.was c.zero_run.ensures.0 c.zero_run.ensures.1 _ _ c.args.limit c.args.raw c.requires.1.0 c.requires.1.1.0 c.requires.1.1.1 _ _ (is_short (goal.at.returns c).Else-is_long) c.get-low.ensures.0 c.requires.0 c.get-low.ensures.1 c.bit_position-after-2.ensures

pub overflow_add-result : goal.overflow_add-result
overflow_add-result c = record { fits = omega (arith, run_small (goal.at.overflow_add-result c).After-is_long) }

pub overflow_add-result-then-is_long : goal.overflow_add-result-then-is_long
overflow_add-result-then-is_long c =
    record { fits = omega (arith, run_small (goal.at.overflow_add-result-then-is_long c).After-is_long, c.requires.1.1.1) }
