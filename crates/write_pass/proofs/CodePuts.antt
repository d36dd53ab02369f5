-- A tight code is the digits of one number, and these are what is put into the output. Assumes nothing.
use mathlib.Core.Bool.{Bool, true, false}
use mathlib.Core.List.{List, ◌∷◌}
use mathlib.Core.Path.{◌≡◌, refl}
use Prim.Native.Nat.{ℕ, ◌+◌, ◌-◌, ◌*◌, ◌/◌, ◌%◌, ◌^◌, ◌≤◌, ◌<◌}
use native.Mathlib.Nat.{zero-add, zero-mul, one-mul, add_assoc, mod-lt, div-lt_iff_lt-mul}
use native.Mathlib.Numerals.{one-add}
use native.Mathlib.Omega.{arith}
use lib.ListN.{length}
use lib.Pow.{pow_pos, pow-add, pow_mono, high, low}
use borrow.Author.Tests.{lt-ltb, le-ltb}
use Rattle.numbers.proofs.OrderLaws.{split}
use Rattle.bits.specs.BitLists.{binary}
use Rattle.bits.specs.Inside.{bytes_for}
use Rattle.bits.proofs.ListLaws.{binary_zero}
use Rattle.code.specs.Tight.{run_then, code_bits}
use Rattle.code.specs.Inside.{code_length}
use Rattle.code.proofs.TightLaws.{length_code_bits}
use Rattle.bit_output.specs.Output.{put_bits}
use Rattle.bit_output.proofs.PutLaws.{binary_split}
use Rattle.write_pass.specs.Puts.{code_number, put_if, Room}

-- ---- its number

-- a one and k digits
binary_one : (k n : ℕ) → n < 2 ^ k → binary (1 + k) (2 ^ k + n) ≡ true ∷ binary k n
unfolding binary
binary_one k n h =
    let e : 2 ^ k + n ≡ 1 * 2 ^ k + n = rw one-mul in
    rw (e, one-add k, high 1 k h, low 1 k h) refl

-- so a run and k digits are digits of one number
run_number : (z k n : ℕ) → n < 2 ^ k → run_then z k n ≡ binary (z + 1 + k) (2 ^ k + n)
run_number z k n h =
    let lt : 2 ^ k + n < 2 ^ (1 + k) = rw pow-add (omega arith) in
    let q : (2 ^ k + n) / 2 ^ (1 + k) ≡ 0 = rw (zero-mul, zero-add) at (high 0 (1 + k) lt) in
    let m : (2 ^ k + n) % 2 ^ (1 + k) ≡ 2 ^ k + n = rw (zero-mul, zero-add) at (low 0 (1 + k) lt) in
    rw (add_assoc z 1 k, binary_split z (1 + k) (2 ^ k + n), q, m, binary_zero z, binary_one k n h) refl

-- the digits of a tight code
pub code_digits : (k limit raw c : ℕ) → 1 ≤ limit → c ≤ 2 ^ raw → code_bits k limit raw c ≡ binary (code_length k limit raw c) (code_number k limit raw c)
unfolding code_bits code_length code_number
code_digits k limit raw c hl hc =
    split limit (c / 2 ^ k)
    (λ h. rw (le-ltb (c / 2 ^ k) limit h) (run_number limit raw (c - 1) (omega (arith, pow_pos raw))))
    (λ h. rw (lt-ltb (c / 2 ^ k) limit h) (run_number (c / 2 ^ k) k (c % 2 ^ k) (mod-lt c (pow_pos k))))

-- a short code has at most 64 bits too: its zeros stay below limit, and where k is raw or more there is at most one
pub short_le : (k limit raw c : ℕ) → k ≤ 15 → limit + raw < 64 → c ≤ 2 ^ raw → c / 2 ^ k < limit → c / 2 ^ k + 1 + k ≤ 64
short_le k limit raw c hk hl hc h =
    split raw k
    (λ g. let p : 2 ^ raw ≤ 2 ^ k = pow_mono g in
    let z : c / 2 ^ k < 2 = (div-lt_iff_lt-mul {k = 2 ^ k} (pow_pos k)).1 (omega (arith, pow_pos k)) in
    omega arith)
    (λ g. omega arith)

-- ---- in the output

module _ (store : Bool) (s : List ℕ) (at k limit raw c n : ℕ) (hn : n ≡ code_length k limit raw c) where
  -- there is room for its digits
  pub digits_room : store ≡ true → Room store s at (code_bits k limit raw c) → bytes_for (at + n) ≤ length s
  digits_room t h = rw (hn, ← length_code_bits k limit raw c) (h t)

  pub code_after_lem : at + n ≡ at + length (code_bits k limit raw c)
  code_after_lem = rw (hn, length_code_bits k limit raw c)

  pub code_stored : (out : List ℕ) (v : ℕ) → store ≡ true → v ≡ code_number k limit raw c → 1 ≤ limit → c ≤ 2 ^ raw → out ≡ put_bits s at (binary n v)
      → out ≡ put_if store s at (code_bits k limit raw c)
  code_stored out v t hv hl hc e = rw (t, code_digits k limit raw c hl hc, ← hn, ← hv) e

  pub code_counted : store ≡ false → s ≡ put_if store s at (code_bits k limit raw c)
  code_counted t = rw t
