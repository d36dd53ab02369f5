-- The code that is chosen for a wanted sample, and the sample that it gives: with base 0 by the lossless code, else by the nearest one. Assumes nothing.
use mathlib.Core.Bool.{Bool}
use mathlib.Core.List.{List}
use mathlib.Core.Path.{◌≡◌, sym, ap, ◌∙◌}
use Prim.Native.Nat.{ℕ, suc, ◌^◌, ◌≤◌, ◌<◌}
use native.Mathlib.Omega.{arith}
use lib.ListN.{get_or}
use lib.Pow.{pow_pos, pow_mono}
use Rattle.quantiser.specs.Quantisers.{largest, total_of, quantiser_of}
use Rattle.quantiser.proofs.QuantiserLaws.{total_le, total_wide}
use Rattle.prediction.specs.declared.Context.{Context}
use Rattle.code.specs.Samples.{sample_of}
use Rattle.code.specs.Inside.{code_for}
use Rattle.code.specs.Nearest.{code_near}
use Rattle.code.proofs.SampleLaws.{OneToOne, one_to_one}
use Rattle.code.proofs.NearLaws.{near_back, near_exact}
use Rattle.pass_steps.specs.Contexts.{used_base, used_quantiser, look_of, slot_of}
use Rattle.pass_steps.specs.Values.{quantisers_of}
use Rattle.pass_steps.specs.declared.Look.{Look}
use Rattle.pass_steps.proofs.LookLaws.{look_lossless}
use Rattle.pass_steps.proofs.TableLaws.{total_at}
use Rattle.write_pass.specs.Puts.{value_of_sample, CodingAsks, CodedAs}
use Rattle.write_pass.specs.declared.Coding.{Coding}
use Rattle.write_pass.proofs.LosslessLaws.{total_is}

-- what is promised of a code and its sample
abbrev pub Chosen : (bits base total : ℕ) → Bool → (g v code value : ℕ) → Type 0
Chosen bits base total negative g v code value =
    ((code ≡ code_near base total negative g v) × (code < total)) × ((value ≡ sample_of (largest bits) base total negative g code) × (value ≤ largest bits))

module _ (bits base total : ℕ) (negative : Bool) (g v : ℕ) (low : 12 ≤ bits) (et : total ≡ total_of bits base) (hg : g ≤ largest bits)
    (hv : v ≤ largest bits) where
  -- what the leaves ask
  pub chosen_small : bits ≤ 16 → (total ≤ 2 ^ 16) × ((g < 2 ^ 16) × (v < 2 ^ 16))
  chosen_small high =
      let p : 2 ^ bits ≤ 2 ^ 16 = pow_mono high in
      let q = pow_pos bits in
      (omega (arith, total_le bits base, et), (omega arith, omega arith))

  pub near_lt : code_near base total negative g v < total
  near_lt = (near_back (largest bits) base total (rw et (total_wide bits base)) negative g v hg hv).0

module _ (bits base total : ℕ) (negative : Bool) (g v : ℕ) (low : 12 ≤ bits) (et : total ≡ total_of bits base) (hg : g ≤ largest bits)
    (hv : v ≤ largest bits) {m code : ℕ} (em : m ≡ largest bits) where
  pub chosen_exact : base ≡ 0 → code ≡ code_for m negative g v → Chosen bits base total negative g v code v
  chosen_exact eb ec =
      let M : ℕ = largest bits in
      let o : OneToOne M negative g = one_to_one bits (omega arith) negative g hg in
      let e : total ≡ suc M = et ∙ rw (eb, total_is bits) (omega (arith, pow_pos bits)) in
      let c : code ≡ code_for M negative g v = rw em at ec in
      rw (eb, e, c) ((sym (near_exact bits (omega arith) negative g v hg hv), omega (arith, o.codes v hv)), (sym (o.back v hv), hv))

  pub chosen_near : {value : ℕ} → code ≡ code_near base total negative g v → (value ≡ sample_of m base total negative g code) × (value ≤ m)
      → Chosen bits base total negative g v code value
  chosen_near ec ev = ((ec, rw ec (near_lt bits base total negative g v low et hg hv)), rw em at ev)

-- ---- by the quantiser that is used

module _ (bits q : ℕ) (x : Context) (h : Look) (eh : h ≡ look_of q x) (four : h.choice ≤ 3) (totals : List ℕ)
    (et : totals ≡ (quantisers_of bits q).totals) where
  used_total : get_or totals h.choice 0 ≡ (used_quantiser bits q h.choice).total
  used_total = rw et (total_at bits q h.choice four)

  base_is : h.base ≡ used_base q h.choice
  unfolding look_of
  base_is = rw eh

  pub look_total : get_or totals h.choice 0 ≡ total_of bits h.base
  unfolding quantiser_of
  look_total = rw base_is used_total

  pub coded_is : (p v slot code value : ℕ) → (slot ≡ slot_of p h.place) × (slot < 112)
      → Chosen bits h.base (get_or totals h.choice 0) h.negative x.prediction v code value
      → CodedAs bits q p x v (record { slot = slot; choice = h.choice; code = code; value = value })
  unfolding value_of_sample
  coded_is p v slot code value es c =
      let d = rw used_total at c in
      record {
        slot = rw (← eh) es.0;
        slot_lt = es.1;
        choice = rw (← eh);
        choice_le = four;
        code = rw (← eh) d.0.0;
        code_lt = d.0.1;
        value = rw (← eh, ← d.0.0) d.1.0;
        value_le = d.1.1;
      }

-- a lossless line, with base 0
pub coded_exact : (bits q : ℕ) (x : Context) (h : Look) (totals : List ℕ) (p v m slot code : ℕ) → q ≡ 0 → CodingAsks bits q totals x v → h ≡ look_of 0 x
    → h.choice ≤ 3
    → (slot ≡ slot_of p h.place) × (slot < 112) → m ≡ largest bits → code ≡ code_for m h.negative x.prediction v
    → CodedAs bits q p x v (record { slot = slot; choice = h.choice; code = code; value = v })
coded_exact bits q x h totals p v m slot code e a eh four es em ec =
    let is : h ≡ look_of q x = rw e eh in
    let none : h.base ≡ 0 = ap (λ (y : Look). y.base) (eh ∙ look_lossless x) in
    coded_is bits q x h is four totals a.quantisers p v slot code v es
    (chosen_exact bits h.base (get_or totals h.choice 0) h.negative x.prediction v a.depth.0 (look_total bits q x h is four totals a.quantisers) a.prediction a.wanted em none ec)

-- a line with a known base
pub asks_known : {bits q k : ℕ} {totals : List ℕ} {x : Context} {v : ℕ} → q ≡ k → CodingAsks bits q totals x v → CodingAsks bits k totals x v
asks_known e a = rw e at a

pub coded_known : {bits q k p : ℕ} {x : Context} {v : ℕ} {r : Coding} → q ≡ k → CodedAs bits k p x v r → CodedAs bits q p x v r
coded_known e c = rw e c
