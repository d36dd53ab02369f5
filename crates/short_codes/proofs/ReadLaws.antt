-- The strings of a sheet are what the reader takes for one tight code. Assumes nothing.
use mathlib.Core.Bool.{Bool, true}
use mathlib.Core.List.{List, ◌++◌}
use mathlib.Core.Path.{◌≡◌, refl, ◌∙◌}
use Prim.Native.Nat.{ℕ, ◌-◌, ◌*◌, ◌^◌, ◌≤◌}
use native.Mathlib.Omega.{arith}
use lib.Dec.{leb}
use lib.ListN.{length, take, drop}
use lib.Pow.{pow_pos, pow_mono}
use lib.Seq.{take_at}
use borrow.Author.Tests.{leb-true}
use Rattle.numbers.proofs.LeastLaws.{least}
use Rattle.numbers.proofs.OrderLaws.{split}
use Rattle.bits.specs.BitLists.{bits_of}
use Rattle.quantiser.specs.Quantisers.{largest, total_of, raw_of, quantiser_of, main_of}
use Rattle.quantiser.specs.declared.Quantiser.{Quantiser}
use Rattle.code.specs.Tight.{is_tight, code_bits}
use Rattle.code.specs.declared.Code.{Code}
use Rattle.code.proofs.TightLaws.{length_code_bits, read_back, stands_there}
use Rattle.short_codes.specs.Inside.{Bounded}
use Rattle.short_codes.specs.Sheets.{string_of}
use Rattle.short_codes.specs.Whole.{TightString, code_there, IsRead, AllAsRead}
use Rattle.short_codes.proofs.SheetLaws.{bounded, limit_large}
use Rattle.std.specs.Prelude.{Some}

-- every code below 2^depth fits the long form
raw_enough : (d : ℕ) → d ≤ 16 → largest d ≤ 2 ^ (main_of d 0).raw
unfolding quantiser_of raw_of total_of
raw_enough d h =
    let L = least 16 (λ r. leb (total_of d 0) (2 ^ r)) 0 in
    split 16 (raw_of d 0)
    (λ u. let a : 2 ^ 16 ≤ 2 ^ raw_of d 0 = pow_mono u in let b : 2 ^ d ≤ 2 ^ 16 = pow_mono h in omega arith)
    (λ u. omega (arith, leb-true (total_of d 0) (2 ^ raw_of d 0) (L.holds u)))

module _ (d k n : ℕ) (b : Bounded d k n) where
  abbrev Q : Quantiser
  Q = main_of d 0

  taken : (s : List ℕ) (p : ℕ) (l rest : List Bool) → TightString d k l → drop p (bits_of s) ≡ l ++ rest → IsRead d k s p l
  unfolding string_of
  taken s p l rest t e =
      let c : ℕ = t.code in
      let r = read_back (largest d) s p k Q.limit Q.raw (omega (arith, limit_large d b.depth_low)) (raw_enough d b.depth_high) c rest (omega (arith, t.small)) (rw t.bits at e) in
      record {
        code = r.code;
        read = r.read;
        tight = r.tight;
        ends = r.after ∙ rw (t.bits, length_code_bits k Q.limit Q.raw c) refl;
      }

  only : (s : List ℕ) (p : ℕ) (x : Code) → code_there d k s p ≡ Some x → is_tight (largest d) x ≡ true → x.after.0 ≤ 8 * length s
      → TightString d k (take (x.after.0 - p) (drop p (bits_of s)))
  unfolding string_of
  only s p x e t h =
      let r = stands_there (largest d) s p k Q.limit Q.raw x e t h in
      let v : ℕ = x.value in
      let long : length (code_bits k Q.limit Q.raw v) ≡ x.after.0 - p = omega (arith, length_code_bits k Q.limit Q.raw v, r.after) in
      record {
        code = v;
        small = omega (arith, r.small, pow_pos d);
        bits = rw r.there (take_at (code_bits k Q.limit Q.raw v) (drop x.after.0 (bits_of s)) (x.after.0 - p) long);
      }

pub as_read : AllAsRead
as_read d k n e = let b = bounded d k n e in record { taken = taken d k n b; only = only d k n b }
