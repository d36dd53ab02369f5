-- Steps that put their bits: one sample, steps one after the other, and what they keep. Assumes nothing.
use mathlib.Core.Bool.{Bool, true, false, cond, not, ◌&&◌, false≢true}
use mathlib.Core.List.{List, [], ◌∷◌, ◌++◌, append-nil}
use mathlib.Core.Path.{◌≡◌, refl, sym, ap, ◌∙◌}
use Prim.Native.Nat.{ℕ, ◌+◌, ◌-◌, ◌*◌, ◌/◌, ◌^◌, ◌≤◌, ◌<◌}
use native.Mathlib.Omega.{arith}
use lib.Dec.{eqb}
use lib.ListN.{length, get_or, set, length-append}
use borrow.Author.Tests.{lt-ltb, le-ltb, lt-leb, le-leb}
use Rattle.bits.specs.declared.BitPosition.{BitPosition}
use Rattle.bits.specs.Inside.{bytes_for}
use Rattle.statistics.specs.Statistics.{k_of}
use Rattle.statistics.specs.declared.Record.{Record}
use Rattle.statistics.proofs.RecordLaws.{k_least}
use Rattle.quantiser.specs.Quantisers.{largest}
use Rattle.code.specs.Inside.{code_length}
use Rattle.code.proofs.SampleLaws.{sample_le}
use Rattle.code.proofs.TightLaws.{length_code_bits, short_length, long_length}
use Rattle.numbers.proofs.OrderLaws.{split}
use Rattle.prediction.specs.declared.Context.{Context}
use Rattle.pass_schedule.specs.Steps.{Step, step_at, even_steps, odd_steps, even_part, odd_part}
use Rattle.pass_schedule.specs.Steps.{step_place}
use Rattle.pass_steps.specs.Contexts.{context_in, look_of, slot_of, no_record, used_base, used_weight, step_context}
use Rattle.pass_steps.specs.Values.{context_at, zip_records}
use Rattle.pass_steps.specs.declared.Look.{Look}
use Rattle.pass_schedule.specs.declared.Plan.{Plan}
use Rattle.pass_steps.proofs.ContextLaws.{context_le, context_is, stored_le}
use Rattle.pass_steps.proofs.TableLaws.{numbers_le}
use Rattle.colour_lines.specs.Sets.{index_in}
use Rattle.write_pass.specs.Writings.{Writing, or_second, write_step, writes}
use Rattle.write_pass.specs.Puts.{put_if, Room, Within, Wanted, bits_of_sample, value_of_sample, set_of_sample, start_of, StepsRoom, IsPut, StepsPut}
use Rattle.write_pass.proofs.WriteLaws.{wanted, write_coded, write_interpolated, after, writes_append, writes_after, writes_add}
use Rattle.bit_output.proofs.PutLaws.{put_none, put_more}
use Rattle.std.specs.Prelude.{Err, Ok, Result, None, Option, Some}

-- ---- one step

module _ (bits q W : ℕ) (strict : Bool) (t : List ℕ) (n : ℕ) (x : Step) (r : Writing) where
  step_coded : x.coded ≡ true
      → writes bits q W strict t n (x ∷ []) r
      ≡ record {
        lines = set r.lines (step_place W x + 1) (value_of_sample bits q (wanted W t n x) (step_context W x r.lines));
        set = set_of_sample bits q x.position (wanted W t n x) (step_context W x r.lines) r.set;
        bits = r.bits ++ bits_of_sample bits q x.position (wanted W t n x) (step_context W x r.lines) r.set;
        wrong = r.wrong;
      }
  unfolding writes write_step bits_of_sample value_of_sample set_of_sample
  step_coded e = rw e

  step_interpolated : x.coded ≡ false
      → writes bits q W strict t n (x ∷ []) r
      ≡ record {
        lines = set r.lines (step_place W x + 1) (step_context W x r.lines).prediction;
        set = r.set;
        bits = r.bits;
        wrong = or_second r.wrong
            (cond (strict && not (eqb (wanted W t n x) (step_context W x r.lines).prediction)) (Some (index_in W n x.line x.position)) None);
      }
  unfolding writes write_step
  step_interpolated e = rw e

none_put : (store : Bool) (out : List ℕ) (at : ℕ) → out ≡ put_if store out at []
none_put true out at = sym (put_none out at)
none_put false out at = refl

at_is : (at : BitPosition) (n : ℕ) → at.0 ≡ n → ◌≡◌ {A = Result BitPosition ℕ} (Ok at) (Ok (record { 0 = n }))
at_is at n e = ap (λ (m : ℕ). Ok (record { 0 = m })) e

-- one sample, from the answers of the leaves
pub record Sample (W : ℕ) (t : List ℕ) (n line p : ℕ) (lines : List ℕ) (i j : ℕ) (x : Context) : Type 0 where
  pub place : i ≡ line * (W + 2) + p
  pub index : j ≡ index_in W n line p
  pub context : x ≡ context_in W lines line p

-- as the program finds it
pub sample_at_lem : {W n line p i j : ℕ} {t lines : List ℕ} {x : Context} → 2 ≤ line → i ≡ line * (W + 2) + p → j ≡ index_in W n line p
    → x ≡ context_at lines (W + 2) i p → Sample W t n line p lines i j x
sample_at_lem {W} {n} {line} {p} {i} {j} {t} {lines} low place index context =
    record { place = place; index = index; context = context_is W line p lines low place context }

module _ {W : ℕ} {t : List ℕ} {n line p : ℕ} {lines : List ℕ} {i j : ℕ} {x : Context} (s : Sample W t n line p lines i j x)
  where
    pub prediction_le : (m : ℕ) → Within m lines → x.prediction ≤ m
    prediction_le m h = rw s.context (context_le m W lines line p h)

module _ {W : ℕ} {t : List ℕ} {n line p : ℕ} {lines : List ℕ} {i j : ℕ} {x : Context} (s : Sample W t n line p lines i j x)
    (bits q : ℕ) (strict store coded : Bool) (from : ℕ) (sums ns out : List ℕ) where
  coded_is : coded ≡ true
      → writes bits q W strict t n (step_at line p coded ∷ []) (start_of lines sums ns)
      ≡ record {
        lines = set lines (i + 1) (value_of_sample bits q (get_or t j 0) x);
        set = set_of_sample bits q p (get_or t j 0) x (zip_records sums ns);
        bits = bits_of_sample bits q p (get_or t j 0) x (zip_records sums ns);
        wrong = None;
      }
  coded_is e = rw (s.context, s.place, s.index) (step_coded bits q W strict t n (step_at line p coded) (start_of lines sums ns) e)

  pub sample_room : coded ≡ true → StepsRoom bits q W strict t n (step_at line p coded ∷ []) store from lines sums ns out
      → Room store out from (bits_of_sample bits q p (get_or t j 0) x (zip_records sums ns))
  sample_room e h = rw (coded_is e) at h

  pub sample_coded : (sums' ns' out' : List ℕ) (at : BitPosition) (value : ℕ) → coded ≡ true
      → at.0 ≡ from + length (bits_of_sample bits q p (get_or t j 0) x (zip_records sums ns))
      → out' ≡ put_if store out from (bits_of_sample bits q p (get_or t j 0) x (zip_records sums ns))
      → zip_records sums' ns' ≡ set_of_sample bits q p (get_or t j 0) x (zip_records sums ns)
      → value ≡ value_of_sample bits q (get_or t j 0) x
      → StepsPut bits q W strict t n (step_at line p coded ∷ []) store from lines sums ns out (set lines (i + 1) value) sums' ns' out' (Ok at)
  sample_coded sums' ns' out' at value e ea eo es ev = record { are = rw (coded_is e) (at_is at _ ea, rw ev, es, eo) }

  interpolated_is : coded ≡ false
      → writes bits q W strict t n (step_at line p coded ∷ []) (start_of lines sums ns)
      ≡ record {
        lines = set lines (i + 1) x.prediction;
        set = zip_records sums ns;
        bits = [];
        wrong = cond (strict && not (eqb (get_or t j 0) x.prediction)) (Some j) None;
      }
  interpolated_is e = rw (s.context, s.place, s.index) (step_interpolated bits q W strict t n (step_at line p coded) (start_of lines sums ns) e)

  pub sample_right : (at : BitPosition) → coded ≡ false → at.0 ≡ from → (strict && not (eqb (get_or t j 0) x.prediction)) ≡ false
      → StepsPut bits q W strict t n (step_at line p coded ∷ []) store from lines sums ns out (set lines (i + 1) x.prediction) sums ns out (Ok at)
  sample_right at e ea f =
      record { are = rw (interpolated_is e, f) (at_is at _ (omega arith), refl, refl, none_put store out from) }

  pub sample_wrong : (lines' : List ℕ) → coded ≡ false → (strict && not (eqb (get_or t j 0) x.prediction)) ≡ true
      → StepsPut bits q W strict t n (step_at line p coded ∷ []) store from lines sums ns out lines' sums ns out (Err j)
  sample_wrong lines' e f = record { are = rw (interpolated_is e, f) (refl, λ h. refl) }

-- ---- what steps keep

module _ (bits q W : ℕ) (strict : Bool) (t : List ℕ) (n : ℕ) where
  -- samples up to M
  pub step_within : (x : Step) (r : Writing) → Within (largest bits) r.lines → Within (largest bits) (write_step bits q W strict t n x r).lines
  step_within x r h = go x.coded refl
    where
      go : (b : Bool) → x.coded ≡ b → Within (largest bits) (write_step bits q W strict t n x r).lines
      go true e = rw (write_coded bits q W strict t n x r e) (stored_le (largest bits) r.lines (step_place W x + 1) _ (sample_le (largest bits) _ _ _ _ _) h)
      go false e =
          rw (write_interpolated bits q W strict t n x r e)
          (stored_le (largest bits) r.lines (step_place W x + 1) _ (context_le (largest bits) W r.lines x.line x.position h) h)

  pub writes_within : (l : List Step) (r : Writing) → Within (largest bits) r.lines → Within (largest bits) (writes bits q W strict t n l r).lines
  unfolding writes
  writes_within [] r h = h
  writes_within (x ∷ l) r h = writes_within l (write_step bits q W strict t n x r) (step_within x r h)

  -- the first wrong sample stays the first
  step_wrong : (x : Step) (r : Writing) (j : ℕ) → r.wrong ≡ Some j → (write_step bits q W strict t n x r).wrong ≡ Some j
  step_wrong x r j e = go x.coded refl
    where
      go : (b : Bool) → x.coded ≡ b → (write_step bits q W strict t n x r).wrong ≡ Some j
      go true c = rw (write_coded bits q W strict t n x r c) e
      go false c = rw (write_interpolated bits q W strict t n x r c, e)

  pub writes_wrong : (l : List Step) (r : Writing) (j : ℕ) → r.wrong ≡ Some j → (writes bits q W strict t n l r).wrong ≡ Some j
  unfolding writes
  writes_wrong [] r j e = e
  writes_wrong (x ∷ l) r j e = writes_wrong l (write_step bits q W strict t n x r) j (step_wrong x r j e)

-- ---- steps that went well

-- what the program holds then
record Went (z : Writing) (store : Bool) (from : ℕ) (out lines' sums' ns' out' : List ℕ) (at : BitPosition) : Type 0 where
  held : z ≡ after z.bits (start_of lines' sums' ns')
  position : at.0 ≡ from + length z.bits
  output : out' ≡ put_if store out from z.bits

went : (o : Option ℕ) (z : Writing) (store : Bool) (from : ℕ) (out lines' sums' ns' out' : List ℕ) (at : BitPosition)
    → z.wrong ≡ o → IsPut o z from store out lines' sums' ns' out' (Ok at) → Went z store from out lines' sums' ns' out' at
went None z store from out lines' sums' ns' out' at e h =
    record { held = rw (append-nil z.bits, h.1, h.2, ← e); position = cc; output = h.3 }
went (Some j) z store from out lines' sums' ns' out' at e h = let no : ◌≡◌ {A = ℕ} 0 1 = cc in absurd (omega arith)

was_wrong : (o : Option ℕ) (z : Writing) (store : Bool) (from : ℕ) (out lines' sums' ns' out' : List ℕ) (j : ℕ)
    → IsPut o z from store out lines' sums' ns' out' (Err j) → (o ≡ Some j) × (store ≡ false → out' ≡ out)
was_wrong None z store from out lines' sums' ns' out' j h = let no : ◌≡◌ {A = ℕ} 0 1 = cc in absurd (omega arith)
was_wrong (Some i) z store from out lines' sums' ns' out' j h = let e : i ≡ j = cc in (rw e, h.1)

-- ---- steps one after the other

-- the second part starts where the first has ended: with the bits b before it
join : (o : Option ℕ) (z : Writing) (b : List Bool) (store : Bool) (from at : ℕ) (out out₁ lines' sums' ns' out' : List ℕ) (r : Result BitPosition ℕ) → at ≡ from + length b
    → out₁ ≡ put_if store out from b
    → (store ≡ true → bytes_for (from + length (b ++ z.bits)) ≤ length out) → IsPut o z at store out₁ lines' sums' ns' out' r
    → IsPut o (after b z) from store out lines' sums' ns' out' r
join None z b true from at out out₁ lines' sums' ns' out' r ea eo h g =
    let e : at + length z.bits ≡ from + length (b ++ z.bits) = rw length-append (omega arith) in
    let room = rw length-append at (h refl) in
    (rw e at g.0, g.1, g.2, rw (eo, ea, put_more out from b z.bits room) at g.3)
join None z b false from at out out₁ lines' sums' ns' out' r ea eo h g =
    let e : at + length z.bits ≡ from + length (b ++ z.bits) = rw length-append (omega arith) in
    (rw e at g.0, g.1, g.2, g.3 ∙ eo)
join (Some j) z b true from at out out₁ lines' sums' ns' out' r ea eo h g = (g.0, λ f. absurd (false≢true (sym f)))
join (Some j) z b false from at out out₁ lines' sums' ns' out' r ea eo h g = (g.0, λ f. g.1 f ∙ eo)

module _ (bits q W : ℕ) (strict : Bool) (t : List ℕ) (n : ℕ) (k l : List Step) (store : Bool) (from : ℕ) (lines sums ns out : List ℕ) where
  -- where there is room for both there is room for the first part
  pub first_room : StepsRoom bits q W strict t n (k ++ l) store from lines sums ns out → StepsRoom bits q W strict t n k store from lines sums ns out
  first_room h e =
      let z : Writing = writes bits q W strict t n k (start_of lines sums ns) in
      let f = rw (writes_append bits q W strict t n k l (start_of lines sums ns), writes_add bits q W strict t n l z, length-append) at (h e) in
      omega (arith, f)

  module _ (lines₁ sums₁ ns₁ out₁ : List ℕ) where
    first_wrong : (r : Result BitPosition ℕ) (j : ℕ) → r ≡ Err j → StepsPut bits q W strict t n k store from lines sums ns out lines₁ sums₁ ns₁ out₁ r
        → StepsPut bits q W strict t n (k ++ l) store from lines sums ns out lines₁ sums₁ ns₁ out₁ r
    first_wrong r j er h =
        let z : Writing = writes bits q W strict t n k (start_of lines sums ns) in
        let g : StepsPut bits q W strict t n k store from lines sums ns out lines₁ sums₁ ns₁ out₁ (Err j) = rw er at h in
        let w = was_wrong z.wrong z store from out lines₁ sums₁ ns₁ out₁ j g.are in
        let e : (writes bits q W strict t n (k ++ l) (start_of lines sums ns)).wrong ≡ Some j = rw (writes_append bits q W strict t n k l (start_of lines sums ns)) (writes_wrong bits q W strict t n l z j w.0) in
        record { are = rw (e, er) (refl, w.1) }

    module _ (at : BitPosition) (g : StepsPut bits q W strict t n k store from lines sums ns out lines₁ sums₁ ns₁ out₁ (Ok at)) where
      done : Went (writes bits q W strict t n k (start_of lines sums ns)) store from out lines₁ sums₁ ns₁ out₁ at
      done = went (writes bits q W strict t n k (start_of lines sums ns)).wrong (writes bits q W strict t n k (start_of lines sums ns)) store from out lines₁ sums₁ ns₁ out₁ at refl g.are

      both : writes bits q W strict t n (k ++ l) (start_of lines sums ns) ≡ after (writes bits q W strict t n k (start_of lines sums ns)).bits
          (writes bits q W strict t n l (start_of lines₁ sums₁ ns₁))
      both =
          writes_append bits q W strict t n k l (start_of lines sums ns)
          ∙ (ap (λ (z : Writing). writes bits q W strict t n l z) done.held ∙ writes_after bits q W strict t n (writes bits q W strict t n k (start_of lines sums ns)).bits l (start_of lines₁ sums₁ ns₁))

      second_room : length out₁ ≡ length out → StepsRoom bits q W strict t n (k ++ l) store from lines sums ns out
          → StepsRoom bits q W strict t n l store at.0 lines₁ sums₁ ns₁ out₁
      second_room same h e =
          let f = rw (both, length-append) at (h e) in
          omega (arith, f, same, done.position)

      together : (lines₂ sums₂ ns₂ out₂ : List ℕ) (r : Result BitPosition ℕ) → StepsRoom bits q W strict t n (k ++ l) store from lines sums ns out
          → StepsPut bits q W strict t n l store at.0 lines₁ sums₁ ns₁ out₁ lines₂ sums₂ ns₂ out₂ r
          → StepsPut bits q W strict t n (k ++ l) store from lines sums ns out lines₂ sums₂ ns₂ out₂ r
      together lines₂ sums₂ ns₂ out₂ r h g₂ =
          record {
            are = rw both (join (writes bits q W strict t n l (start_of lines₁ sums₁ ns₁)).wrong (writes bits q W strict t n l (start_of lines₁ sums₁ ns₁)) _ store from at.0 out out₁ lines₂ sums₂ ns₂ out₂ r done.position done.output (rw both at h) g₂.are);
          }

      -- the samples stay up to M
      puts_within : Within (largest bits) lines → Within (largest bits) lines₁
      puts_within hl j =
          let e : (writes bits q W strict t n k (start_of lines sums ns)).lines ≡ lines₁ = ap (λ (z : Writing). z.lines) done.held in
          rw e at (writes_within bits q W strict t n k (start_of lines sums ns) hl j)

-- no step
pub no_puts : (bits q W : ℕ) (strict : Bool) (t : List ℕ) (n : ℕ) (store : Bool) (from : BitPosition) (lines sums ns out : List ℕ)
    → StepsPut bits q W strict t n [] store from.0 lines sums ns out lines sums ns out (Ok from)
unfolding writes
no_puts bits q W strict t n store from lines sums ns out = record { are = (at_is from _ (omega arith), refl, refl, none_put store out from.0) }

-- ---- how many bits there are

length_le : (k limit raw c : ℕ) → k ≤ 15 → limit < 64 → raw ≤ 16 → code_length k limit raw c ≤ 80
length_le k limit raw c hk hl hr =
    split limit (c / 2 ^ k) (λ h. omega (arith, long_length k limit raw c h)) (λ h. omega (arith, short_length k limit raw c h))

module _ (bits q W : ℕ) (strict : Bool) (t : List ℕ) (n : ℕ) (depth : bits ≤ 16) where
  sample_short : (p v : ℕ) (x : Context) (s : List Record) → length (bits_of_sample bits q p v x s) ≤ 80
  unfolding bits_of_sample
  sample_short p v x s =
      let h : Look = look_of q x in
      let u = numbers_le bits (used_base q h.choice) (used_weight h.choice) depth in
      let old : Record = get_or s (slot_of p h.place) no_record in
      rw length_code_bits (length_le (k_of old) _ _ _ (k_least old).capped u.2 u.1)

  step_short : (x : Step) (r : Writing) → length (writes bits q W strict t n (x ∷ []) r).bits ≤ length r.bits + 80
  step_short x r = go x.coded refl
    where
      go : (b : Bool) → x.coded ≡ b → length (writes bits q W strict t n (x ∷ []) r).bits ≤ length r.bits + 80
      go true e = rw (step_coded bits q W strict t n x r e, length-append) (omega (arith, sample_short x.position (wanted W t n x) (step_context W x r.lines) r.set))
      go false e = rw (step_interpolated bits q W strict t n x r e) (omega arith)

  pub writes_short : (l : List Step) (r : Writing) → length (writes bits q W strict t n l r).bits ≤ length r.bits + 80 * length l
  unfolding writes
  writes_short [] r = omega arith
  writes_short (x ∷ l) r = omega (arith, step_short x r, writes_short l (write_step bits q W strict t n x r))

  puts_short : (l : List Step) (store : Bool) (from : ℕ) (lines sums ns out lines' sums' ns' out' : List ℕ) (at : BitPosition)
      → StepsPut bits q W strict t n l store from lines sums ns out lines' sums' ns' out' (Ok at) → at.0 ≤ from + 80 * length l
  puts_short l store from lines sums ns out lines' sums' ns' out' at g =
      omega (arith, (done bits q W strict t n l [] store from lines sums ns out lines' sums' ns' out' at g).position, writes_short l (start_of lines sums ns))

-- ---- the same, by what the first part has answered

module _ {bits q W : ℕ} {strict : Bool} {t : List ℕ} {n : ℕ} {k : List Step} {store : Bool} {from : ℕ} {lines sums ns out lines₁ sums₁ ns₁ out₁ : List ℕ}
    {r : Result BitPosition ℕ}
    (g : StepsPut bits q W strict t n k store from lines sums ns out lines₁ sums₁ ns₁ out₁ r) where
  -- a wrong sample ends both
  pub ends : (l : List Step) {j : ℕ} → r ≡ Err j → StepsPut bits q W strict t n (k ++ l) store from lines sums ns out lines₁ sums₁ ns₁ out₁ r
  ends l {j} e = first_wrong bits q W strict t n k l store from lines sums ns out lines₁ sums₁ ns₁ out₁ r j e g

  module _ {at : BitPosition} (e : r ≡ Ok at) where
    well : StepsPut bits q W strict t n k store from lines sums ns out lines₁ sums₁ ns₁ out₁ (Ok at)
    well = rw e at g

    -- else the second part goes on
    pub room_after : (l : List Step) → length out₁ ≡ length out → StepsRoom bits q W strict t n (k ++ l) store from lines sums ns out
        → StepsRoom bits q W strict t n l store at.0 lines₁ sums₁ ns₁ out₁
    room_after l same h = second_room bits q W strict t n k l store from lines sums ns out lines₁ sums₁ ns₁ out₁ at well same h

    pub goes_on : (l : List Step) {lines₂ sums₂ ns₂ out₂ : List ℕ} {r₂ : Result BitPosition ℕ} → StepsRoom bits q W strict t n (k ++ l) store from lines sums ns out
        → StepsPut bits q W strict t n l store at.0 lines₁ sums₁ ns₁ out₁ lines₂ sums₂ ns₂ out₂ r₂
        → StepsPut bits q W strict t n (k ++ l) store from lines sums ns out lines₂ sums₂ ns₂ out₂ r₂
    goes_on l {lines₂} {sums₂} {ns₂} {out₂} {r₂} h g₂ = together bits q W strict t n k l store from lines sums ns out lines₁ sums₁ ns₁ out₁ at well lines₂ sums₂ ns₂ out₂ r₂ h g₂

    pub within_after : Within (largest bits) lines → Within (largest bits) lines₁
    within_after hl = puts_within bits q W strict t n k [] store from lines sums ns out lines₁ sums₁ ns₁ out₁ at well hl

    pub position_after : bits ≤ 16 → at.0 ≤ from + 80 * length k
    position_after depth = puts_short bits q W strict t n depth k store from lines sums ns out lines₁ sums₁ ns₁ out₁ at well

-- ---- the same steps by another name

pub same_room : (bits q W : ℕ) (strict : Bool) (t : List ℕ) (n : ℕ) (k l : List Step) (store : Bool) (from : ℕ) (lines sums ns out : List ℕ) → k ≡ l
    → StepsRoom bits q W strict t n l store from lines sums ns out → StepsRoom bits q W strict t n k store from lines sums ns out
same_room bits q W strict t n k l store from lines sums ns out e h = rw e h

pub same_wanted : (M W : ℕ) (t : List ℕ) (n : ℕ) (k l : List Step) → k ≡ l → Wanted M W t n l → Wanted M W t n k
same_wanted M W t n k l e h = rw e h

pub same_steps : {bits q W : ℕ} {strict : Bool} {t : List ℕ} {n : ℕ} {k l : List Step} {store : Bool} {from : ℕ}
    {lines sums ns out lines' sums' ns' out' : List ℕ} {r : Result BitPosition ℕ} → k ≡ l
    → StepsPut bits q W strict t n k store from lines sums ns out lines' sums' ns' out' r
    → StepsPut bits q W strict t n l store from lines sums ns out lines' sums' ns' out' r
same_steps e g = rw e at g

-- no step is due
pub no_even : (bits q W : ℕ) (strict : Bool) (t : List ℕ) (n : ℕ) (P : Plan) (p : ℕ) (store : Bool) (from : BitPosition) (lines sums ns out : List ℕ) → W ≤ p
    → StepsPut bits q W strict t n (even_part W P p) store from.0 lines sums ns out lines sums ns out (Ok from)
no_even bits q W strict t n P p store from lines sums ns out h = rw (le-ltb p W h) (no_puts bits q W strict t n store from lines sums ns out)

pub no_odd : (bits q W : ℕ) (strict : Bool) (t : List ℕ) (n : ℕ) (P : Plan) (p : ℕ) (store : Bool) (from : BitPosition) (lines sums ns out : List ℕ) → p < 8
    → StepsPut bits q W strict t n (odd_part P p) store from.0 lines sums ns out lines sums ns out (Ok from)
no_odd bits q W strict t n P p store from lines sums ns out h = rw (lt-leb 8 p h) (no_puts bits q W strict t n store from lines sums ns out)

module _ (P : Plan) (W p : ℕ) where
  pub even_due_lem : p < W → even_steps P p ≡ even_part W P p
  even_due_lem h = rw (lt-ltb p W h)

  pub odd_due_lem : 8 ≤ p → odd_steps P (p - 7) ≡ odd_part P p
  odd_due_lem h = rw (le-leb 8 p h)

-- and the same answer
pub answered : {bits q W : ℕ} {strict : Bool} {t : List ℕ} {n : ℕ} {l : List Step} {store : Bool} {from : ℕ}
    {lines sums ns out lines' sums' ns' out' : List ℕ} {r r' : Result BitPosition ℕ} → r ≡ r'
    → StepsPut bits q W strict t n l store from lines sums ns out lines' sums' ns' out' r
    → StepsPut bits q W strict t n l store from lines sums ns out lines' sums' ns' out' r'
answered e g = rw e at g
