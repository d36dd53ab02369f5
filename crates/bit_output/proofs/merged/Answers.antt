-- `bit_output::merged` meets its contract: the shifts lose nothing but what stands before the n bits, and the sum has 32 bits. Assumes nothing.
use mathlib.Core.Path.{◌≡◌, ◌∙◌}
use Prim.Native.Nat.{ℕ, ◌+◌, ◌-◌, ◌*◌, ◌/◌, ◌%◌, ◌^◌, ◌≤◌, ◌<◌}
use native.Mathlib.Nat.{add-zero, add_assoc, one-mul, mul_assoc, mul-mod_left, mod-lt, mod-le, lt_of_lt_of_le}
use native.Mathlib.Omega.{arith}
use lib.Arith.{digits_lt}
use lib.Dec.{lit<}
use lib.Pow.{pow_pos, pow-add, pow_mono, shr_lt, shl_exact, shl-shr, mod-pow-add}
use Rattle.bit_output.proofs.WordLaws.{merged_word, new_lt}
use Rattle.bit_output.proofs.merged.Goals as goal
use Rattle.bit_output.proofs.merged.Goals.{Start}

power_is : (r : ℕ) → r < 64 → (1 * 2 ^ r) % 2 ^ 64 ≡ 2 ^ r
power_is r h = shl_exact {a = 1} 1 r 64 (lit< tt) (omega arith) ∙ one-mul (2 ^ r)

rest_fits : (k x m : ℕ) → k < 2 ^ 32 → x < 2 ^ 32 → k + x % m < 2 ^ 64
rest_fits k x m hk hx = omega (arith, mod-le x m)

-- the last n bits of v, shifted to the top of a word and back down
new_is : (v n c q f : ℕ) → n + c ≡ 64 → q + f ≡ c → (v * 2 ^ c) % 2 ^ 64 / 2 ^ f ≡ v % 2 ^ n * 2 ^ q
new_is v n c q f hc hf =
    let top : (v * 2 ^ c) % 2 ^ (n + c) ≡ v % 2 ^ n * 2 ^ c =
    mod-pow-add (v * 2 ^ c) n c ∙ rw (shl-shr v c, mul-mod_left v (2 ^ c)) (add-zero (v % 2 ^ n * 2 ^ c)) in
    rw (rw hc at top, ← hf, pow-add 2 q f, ← mul_assoc (v % 2 ^ n) (2 ^ q) (2 ^ f)) (shl-shr (v % 2 ^ n * 2 ^ q) f)

module _ (x u n v p q r : ℕ) (hx : x < 2 ^ 32) (hp : u + p ≡ 32) (hq : n + q ≡ p) (hr : r ≤ q) where
  kept-lt : x / 2 ^ p < 2 ^ u
  kept-lt = shr_lt u p (rw hp hx)

  kept-is : (x / 2 ^ p * 2 ^ p) % 2 ^ 64 ≡ x / 2 ^ p * 2 ^ p
  kept-is = shl_exact u p 64 kept-lt (omega arith)

  low-lt : x % 2 ^ r < 2 ^ q
  low-lt = lt_of_lt_of_le (mod-lt x (pow_pos r)) (pow_mono hr)

  sum_lt : x / 2 ^ p * 2 ^ p + v % 2 ^ n * 2 ^ q + x % 2 ^ r < 2 ^ 32
  sum_lt =
      rw (add_assoc (x / 2 ^ p * 2 ^ p) (v % 2 ^ n * 2 ^ q) (x % 2 ^ r))
      (rw (← pow-add 2 u p, hp) at (digits_lt kept-lt (rw hq at (new_lt n q v (x % 2 ^ r) low-lt))))

here : (c : Start) → let r = 32 - 8 * ((c.args.used + c.args.n + 7) / 8) in
    ((c.args.old / 2 ^ (32 - c.args.used) * 2 ^ (32 - c.args.used)) % 2 ^ 64 ≡ c.args.old / 2 ^ (32 - c.args.used) * 2 ^ (32 - c.args.used))
    × ((c.args.value * 2 ^ (64 - c.args.n)) % 2 ^ 64 / 2 ^ (32 + c.args.used) ≡ c.args.value % 2 ^ c.args.n * 2 ^ (32 - c.args.used - c.args.n))
    × ((1 * 2 ^ r) % 2 ^ 64 ≡ 2 ^ r)
    × (merged_word c.args.old c.args.used c.args.n c.args.value < 2 ^ 32)
here c =
    let hp : c.args.used + (32 - c.args.used) ≡ 32 = omega arith in
    let hq : c.args.n + (32 - c.args.used - c.args.n) ≡ 32 - c.args.used = omega arith in
    let hr : 32 - 8 * ((c.args.used + c.args.n + 7) / 8) ≤ 32 - c.args.used - c.args.n = omega arith in (
      kept-is c.args.old c.args.used c.args.n c.args.value _ _ _ c.requires.0 hp hq hr,
      new_is c.args.value c.args.n (64 - c.args.n) (32 - c.args.used - c.args.n) (32 + c.args.used) (omega arith) (omega arith),
      power_is (32 - 8 * ((c.args.used + c.args.n + 7) / 8)) (omega arith),
      sum_lt c.args.old c.args.used c.args.n c.args.value _ _ _ c.requires.0 hp hq hr,
    )

pub overflow_add-result : goal.overflow_add-result
overflow_add-result c = record { fits = omega (arith, (here c).0, (here c).1, (here c).3) }

pub overflow_add-result-2 : goal.overflow_add-result-2
overflow_add-result-2 c = record { fits = rest_fits _ _ _ (omega (arith, (here c).0, (here c).1, (here c).3)) c.requires.0 }

pub returns-clause-value : goal.returns-clause-value
returns-clause-value c = rw ((here c).0, (here c).1, (here c).2)

pub returns-clause-upper_bound : goal.returns-clause-upper_bound
returns-clause-upper_bound c = rw ((here c).0, (here c).1, (here c).2) (here c).3
