-- A record that is updated by lists for n, and its k. Assumes nothing.
use mathlib.Core.List.{List, [], ◌∷◌}
use mathlib.Core.Path.{◌≡◌, refl, sym, ap, ◌∙◌}
use Prim.Native.Nat.{ℕ, zero, suc, ◌+◌, ◌-◌, ◌*◌, ◌/◌, ◌%◌, ◌^◌, ◌≤◌, ◌<◌, min}
use native.Mathlib.Nat.{mod-eq_of_lt}
use native.Mathlib.Omega.{arith}
use lib.Bits.{bit_or, or_lt}
use lib.Count.{count_leading_zeros, leading_top}
use lib.Dec.{ltb, eqb, lit<}
use lib.ListN.{length, get_or, set}
use lib.Seq.{get_or-set_same}
use Rattle.numbers.specs.Numbers.{flag}
use Rattle.statistics.specs.Statistics.{k_of, updated, largest_residual}
use Rattle.statistics.specs.Inside.{InRange}
use Rattle.statistics.specs.declared.Record.{Record}
use Rattle.statistics.proofs.RecordLaws.{shifted_update, updated_in_range}
use Rattle.statistics.proofs.LengthLaws.{leading_or, lengths_near, near_k}
use Rattle.pass_steps.specs.Contexts.{no_record}
use Rattle.pass_steps.specs.Values.{zip_records, SetInRange, AreKs}
use Rattle.pass_steps.proofs.ZipLaws.{record_at, zip_set, record_is, record_in_range, stored_in_range}
use Rattle.pass_steps.proofs.KLaws.{stored_k}
use Rattle.pass_ahead.specs.Tables.{next_of}

one_leads : count_leading_zeros 32 1 ≡ 31
unfolding count_leading_zeros
one_leads = refl

-- 1 beside n changes no leading zero, so the digits tell by how much the sum is longer
abbrev pub Longer : ℕ → ℕ → Type 0
Longer sum n =
    (count_leading_zeros 32 (bit_or (bit_or sum n) 1) ≤ 31) × (31 - count_leading_zeros 32 n ≤ 31 - count_leading_zeros 32 (bit_or (bit_or sum n) 1))
    × (31 - count_leading_zeros 32 (bit_or (bit_or sum n) 1) - (31 - count_leading_zeros 32 n) ≡ count_leading_zeros 32 n - count_leading_zeros 32 sum)

pub digits_longer : (sum n : ℕ) → sum < 2 ^ 32 → 1 ≤ n → n < 2 ^ 32 → Longer sum n
digits_longer sum n hs one hn =
    let a = leading_top 32 n one hn in
    let x = leading_or 32 sum n hs hn in
    let y = leading_or 32 (bit_or sum n) 1 (or_lt 32 sum n hs hn) (lit< tt) in
    (omega (arith, one_leads), omega (arith, one_leads, a.1), omega (arith, one_leads, a.1))

pub k_found : (t : Record) (e d r : ℕ) → InRange t → e ≡ count_leading_zeros 32 t.n - count_leading_zeros 32 t.sum → d ≡ flag (ltb ((t.n * 2 ^ e) % 2 ^ 32) t.sum)
    → r ≡ min 15 (e + d) → r ≡ k_of t
k_found t e d r o ee ed er =
    let h = lengths_near t o ee in
    let x : (t.n * 2 ^ e) % 2 ^ 32 ≡ t.n * 2 ^ e = mod-eq_of_lt h.exact in
    rw (er, ed, x) (near_k t e _ o.some h refl)

-- a record whose n is not 0 is inside of both lists
zip_inside : (sums ns : List ℕ) (j : ℕ) → 1 ≤ (get_or (zip_records sums ns) j no_record).n → (j < length sums) × (j < length ns)
unfolding zip_records
zip_inside [] ns j h = absurd (omega arith)
zip_inside (a ∷ sums) [] j h = absurd (omega arith)
zip_inside (a ∷ sums) (b ∷ ns) zero h = (omega arith, omega arith)
zip_inside (a ∷ sums) (b ∷ ns) (suc j) h = let t = zip_inside sums ns j h in (omega (arith, t.0), omega (arith, t.1))

-- the record at a place of a set, its update, and what is kept
module _ (sums ns ks : List ℕ) (slot f r z more : ℕ) (ok : SetInRange (zip_records sums ns)) (lt : slot < 112) (small : r ≤ largest_residual) (er : r ≡ z)
    (ef : f ≡ flag (eqb (get_or ns slot 0) 64)) (em : more ≡ next_of (get_or ns slot 0)) where
  abbrev old : Record
  old = record_at sums ns slot

  abbrev new : Record
  new = record { sum = (get_or sums slot 0 + r) / 2 ^ f; n = more }

  new_is : new ≡ updated old r
  new_is = let e : more ≡ get_or ns slot 0 / 2 ^ f + 1 = em ∙ rw ef in rw e (shifted_update old r f ef)

  pub new_ok : InRange new
  new_ok = rw new_is (updated_in_range old r (record_in_range sums ns ok slot lt) small)

  abbrev after : List Record
  after = zip_records (set sums slot new.sum) (set ns slot new.n)

  pub after_is : after ≡ set (zip_records sums ns) slot (updated (get_or (zip_records sums ns) slot no_record) z)
  after_is = zip_set sums ns slot new ∙ rw (new_is, er, record_is sums ns ok slot lt)

  pub after_ok : SetInRange after
  after_ok = stored_in_range sums ns ok slot new new_ok

  pub after_ks : (k : ℕ) → k ≡ k_of new → AreKs (zip_records sums ns) ks → AreKs after (set ks slot k)
  after_ks k ek h =
      let l = zip_inside sums ns slot (ok slot lt).some in
      let e : get_or after slot no_record ≡ new =
      record_is (set sums slot new.sum) (set ns slot new.n) after_ok slot lt
      ∙ rw (get_or-set_same sums slot new.sum 0 l.0, get_or-set_same ns slot new.n 0 l.1) in
      stored_k new h lt (zip_set sums ns slot new) (ek ∙ ap k_of (sym e))
