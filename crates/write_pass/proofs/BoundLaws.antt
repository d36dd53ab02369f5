-- What a pass adds at most, and where it cannot go wrong: a tight code has at most 4·bits bits, whatever its base is, and only an interpolated sample that is
-- held to its prediction can be wrong. Assumes nothing.
use mathlib.Core.Bool.{Bool, true, false, cond, not, ◌&&◌}
use mathlib.Core.List.{List, [], ◌∷◌}
use mathlib.Core.Path.{◌≡◌, refl}
use Prim.Native.Nat.{ℕ, suc, ◌+◌, ◌*◌, ◌/◌, ◌^◌, ◌≤◌, ◌<◌}
use native.Mathlib.Nat.{mul-le-mul_right, pow-suc, div-mul-le_self}
use native.Mathlib.Omega.{arith}
use lib.ListN.{length, get_or, length-append}
use lib.Pow.{pow_pos, pow_mono}
use Rattle.numbers.proofs.OrderLaws.{split}
use Rattle.statistics.specs.Statistics.{k_of}
use Rattle.statistics.specs.declared.Record.{Record}
use Rattle.statistics.proofs.RecordLaws.{k_least}
use Rattle.quantiser.specs.Quantisers.{largest, quantiser_of}
use Rattle.quantiser.specs.declared.Quantiser.{Quantiser}
use Rattle.prediction.specs.declared.Context.{Context}
use Rattle.code.specs.Tight.{code_bits}
use Rattle.code.proofs.TightLaws.{length_code_bits, short_length, long_length}
use Rattle.pass_steps.specs.Contexts.{used_base, used_weight, used_quantiser, look_of, no_record, step_context, step_slot}
use Rattle.pass_schedule.specs.Steps.{Step, plan_of, pass_steps, is_interpolated}
use Rattle.pass_steps.specs.Contexts.{Depth}
use Rattle.pass_steps.specs.declared.Look.{Look}
use Rattle.pass_schedule.specs.declared.Plan.{Plan}
use Rattle.pass_steps.proofs.ContextLaws.{context_le}
use Rattle.pass_schedule.proofs.OrderLaws.{All}
use Rattle.pass_schedule.proofs.PlanLaws.{CodedIn, steps_coded}
use Rattle.pass_schedule.proofs.ScheduleLaws.{codes}
use Rattle.write_pass.specs.Puts.{Within, Wanted}
use Rattle.write_pass.specs.Writings.{Writing, wanted_code, write_step, writes, write_pass}
use Rattle.write_pass.proofs.ChosenLaws.{near_lt}
use Rattle.write_pass.proofs.LosslessLaws.{code_numbers}
use Rattle.write_pass.proofs.StepPuts.{step_within}
use Rattle.write_pass.proofs.WriteLaws.{wanted, write_coded, write_interpolated}
use Rattle.std.specs.Prelude.{None}

-- ---- one code

module _ (k limit raw : ℕ) (low : k ≤ 15) (wide : 15 ≤ limit + raw) where
  -- a short code has fewer than limit zeros, and none where k is above raw
  pub short_most : (z : ℕ) → z < limit → z * 2 ^ k ≤ 2 ^ raw → z + 1 + k ≤ limit + 1 + raw
  short_most z h v =
      split k raw (λ l. omega arith)
      (λ l. split 1 z
      (λ g. let m : 1 * 2 ^ k ≤ z * 2 ^ k = mul-le-mul_right (2 ^ k) g in
      let d : 2 ^ suc raw ≤ 2 ^ k = pow_mono l in
      let e : 2 ^ suc raw ≡ 2 ^ raw * 2 = pow-suc 2 raw in
      absurd (omega (arith, pow_pos raw)))
      (λ g. omega arith))

  bits_most : (c : ℕ) → c ≤ 2 ^ raw → length (code_bits k limit raw c) ≤ limit + 1 + raw
  bits_most c h =
      rw length_code_bits (split limit (c / 2 ^ k)
      (λ g. omega (arith, long_length k limit raw c g))
      (λ g. omega (arith, short_length k limit raw c g, short_most (c / 2 ^ k) g (omega (arith, div-mul-le_self c (2 ^ k), h)))))

-- limit + 1 + raw of any quantiser
pub four : (bits q weight : ℕ) → Depth bits → let Q = quantiser_of bits q weight in Q.limit + 1 + Q.raw ≡ 4 * bits
unfolding quantiser_of
four bits q weight depth = omega (arith, (code_numbers bits q weight depth.0 depth.1).2, depth.0)

-- ---- steps

module _ (bits q W : ℕ) (strict : Bool) (t : List ℕ) (n : ℕ) where
  module _ (depth : Depth bits) where
    -- the bits of a wanted sample in any context
    sample_most : (old : Record) (v : ℕ) (x : Context) → x.prediction ≤ largest bits → v ≤ largest bits → let h = look_of q x in
        let Q = used_quantiser bits q h.choice in
        length (code_bits (k_of old) Q.limit Q.raw (wanted_code bits q v x h)) ≤ 4 * bits
    unfolding look_of quantiser_of
    sample_most old v x hx hv =
        let h : Look = look_of q x in
        let Q : Quantiser = used_quantiser bits q h.choice in
        let b : ℕ = used_base q h.choice in
        let w : ℕ = used_weight h.choice in
        let c = near_lt bits b Q.total h.negative x.prediction v depth.0 refl hx hv in
        let f = four bits b w depth in
        let u = (code_numbers bits b w depth.0 depth.1).3 in
        let m = bits_most (k_of old) Q.limit Q.raw (k_least old).capped (omega (arith, f, depth.0)) (wanted_code bits q v x h) (omega (arith, c, u)) in
        omega (arith, m, f)

    step_most : (x : Step) (r : Writing) → Within (largest bits) r.lines → (x.coded ≡ true → wanted W t n x ≤ largest bits)
        → length (write_step bits q W strict t n x r).bits ≤ length r.bits + cond x.coded 1 0 * (4 * bits)
    step_most x r hl hv = go x.coded refl
      where
        go : (b : Bool) → x.coded ≡ b → length (write_step bits q W strict t n x r).bits ≤ length r.bits + cond b 1 0 * (4 * bits)
        go true e =
            let m = sample_most (get_or r.set (step_slot q W x r.lines) no_record) (wanted W t n x) (step_context W x r.lines)
            (context_le (largest bits) W r.lines x.line x.position hl) (hv e) in
            rw (write_coded bits q W strict t n x r e, length-append) (omega (arith, m))
        go false e = rw (write_interpolated bits q W strict t n x r e) (omega arith)

    pub writes_most : (l : List Step) (r : Writing) → Within (largest bits) r.lines → Wanted (largest bits) W t n l
        → length (writes bits q W strict t n l r).bits ≤ length r.bits + codes l * (4 * bits)
    unfolding writes codes
    writes_most [] r hl hv = omega arith
    writes_most (x ∷ l) r hl hv =
        omega (
          arith,
          step_most x r hl hv.0,
          writes_most l (write_step bits q W strict t n x r) (step_within bits q W strict t n x r hl) hv.1,
        )

    pub pass_most : (P : Plan) (r : Writing) → Within (largest bits) r.lines → Wanted (largest bits) W t n (pass_steps W P)
        → length (write_pass bits q W strict t n P r).bits ≤ length r.bits + codes (pass_steps W P) * (4 * bits)
    unfolding write_pass
    pass_most P r = writes_most (pass_steps W P) r

  -- ---- steps that cannot go wrong

  -- it has a code, or is not held to its prediction
  abbrev Sure : Step → Type 0
  Sure x = (strict && not x.coded) ≡ false

  step_sure : (x : Step) (r : Writing) → Sure x → r.wrong ≡ None → (write_step bits q W strict t n x r).wrong ≡ None
  step_sure x r s e = go strict x.coded refl refl
    where
      go : (b c : Bool) → strict ≡ b → x.coded ≡ c → (write_step bits q W strict t n x r).wrong ≡ None
      go b true eb ec = rw (write_coded bits q W strict t n x r ec) e
      go false false eb ec = rw (write_interpolated bits q W strict t n x r ec, e, eb)
      go true false eb ec = let f : true ≡ false = rw (eb, ec) at s in let no : ◌≡◌ {A = ℕ} 0 1 = cc in absurd (omega arith)

  writes_sure : (l : List Step) (r : Writing) → All Sure l → r.wrong ≡ None → (writes bits q W strict t n l r).wrong ≡ None
  unfolding writes
  writes_sure [] r s e = e
  writes_sure (x ∷ l) r s e = writes_sure l (write_step bits q W strict t n x r) s.1 (step_sure x r s.0 e)

  -- Bayer has codes alone, and only a strict set is held to predictions
  pub pass_sure : (xtrans : Bool) (i : ℕ) → i < 6 → (xtrans && strict) ≡ false → (r : Writing) → r.wrong ≡ None
      → (write_pass bits q W strict t n (plan_of xtrans i) r).wrong ≡ None
  unfolding write_pass is_interpolated
  pass_sure xtrans i below s r = writes_sure (pass_steps W (plan_of xtrans i)) r (all (pass_steps W (plan_of xtrans i)) (steps_coded xtrans W i below))
    where
      one : (x y : Bool) (z : Step) → xtrans ≡ x → strict ≡ y → CodedIn xtrans z → Sure z
      one x false z ex ey c = rw ey
      one false true z ex ey c = let e : z.coded ≡ true = rw ex at c in rw (ey, e)
      one true true z ex ey c = let f : true ≡ false = rw (ex, ey) at s in let no : ◌≡◌ {A = ℕ} 0 1 = cc in absurd (omega arith)

      all : (l : List Step) → All (CodedIn xtrans) l → All Sure l
      all [] a = tt
      all (z ∷ l) a = (one xtrans strict z refl refl a.0, all l a.1)
