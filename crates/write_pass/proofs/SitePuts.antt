-- One sample at its place, by the answers of the leaves, and two samples one after the other. Assumes nothing.
use mathlib.Core.Bool.{Bool, true, false, not, ◌&&◌}
use mathlib.Core.List.{List, [], ◌∷◌}
use mathlib.Core.Path.{◌≡◌, refl, sym, ◌∙◌}
use Prim.Native.Nat.{ℕ, ◌+◌, ◌*◌, ◌^◌, ◌≤◌, ◌<◌}
use native.Mathlib.Omega.{arith}
use lib.Dec.{eqb}
use lib.ListN.{length, get_or, set, length-set}
use lib.Pow.{pow_mono}
use Rattle.bits.specs.declared.BitPosition.{BitPosition}
use Rattle.statistics.specs.Statistics.{k_of, updated}
use Rattle.statistics.specs.Inside.{InRange}
use Rattle.statistics.specs.declared.Record.{Record}
use Rattle.quantiser.specs.Quantisers.{largest}
use Rattle.prediction.specs.Inside.{ContextRanges}
use Rattle.prediction.specs.declared.Context.{Context}
use Rattle.code.specs.Samples.{residual_of}
use Rattle.code.specs.Tight.{code_bits}
use Rattle.pass_schedule.specs.Steps.{Step, step_at}
use Rattle.pass_steps.specs.Contexts.{used_base, used_weight, used_quantiser, no_record}
use Rattle.pass_steps.specs.Values.{zip_records, SetInRange, AreKs}
use Rattle.pass_steps.proofs.KLaws.{kept_k}
use Rattle.pass_steps.proofs.TableLaws.{limit_is, raw_is}
use Rattle.write_pass.specs.Puts.{LineNumbers, put_if, Room, Within, Wanted, CodingAsks, CodedAs, bits_of_sample, set_of_sample, StepsRoom, StepsPut}
use Rattle.write_pass.specs.declared.Coding.{Coding}
use Rattle.write_pass.proofs.LosslessLaws.{code_numbers}
use Rattle.write_pass.proofs.StepPuts.{Sample, prediction_le, sample_room, sample_coded, sample_right, sample_wrong}
use Rattle.write_pass.proofs.StepPuts.{first_room, room_after, goes_on, within_after, position_after}
use Rattle.std.specs.Prelude.{Err, Ok, Result}

-- ---- what steps find, and what is known after one of them

pub record Ready (bits q : ℕ) (totals raws limits : List ℕ) (W : ℕ) (strict : Bool) (t : List ℕ) (n : ℕ) (l : List Step) (store : Bool)
    (from : BitPosition) (lines sums ns out : List ℕ) : Type 0 where
  pub numbers : LineNumbers bits q totals raws limits
  pub wanted : Wanted (largest bits) W t n l
  pub held : Within (largest bits) lines
  pub records : SetInRange (zip_records sums ns)
  pub low : from.0 + 80 * length l < 2 ^ 60 + 80
  pub room : StepsRoom bits q W strict t n l store from.0 lines sums ns out

pub record Done (bits q W : ℕ) (strict : Bool) (t : List ℕ) (n : ℕ) (y : Step) (store : Bool) (from : BitPosition)
    (lines sums ns out lines' sums' ns' out' : List ℕ) (at : BitPosition) : Type 0 where
  pub put : StepsPut bits q W strict t n (y ∷ []) store from.0 lines sums ns out lines' sums' ns' out' (Ok at)
  pub records : SetInRange (zip_records sums' ns')
  pub same : length out' ≡ length out
  pub long : length lines' ≡ length lines

-- where two ways meet, the same lists have other names
pub met : {bits q W : ℕ} {strict : Bool} {t : List ℕ} {n : ℕ} {y : Step} {store : Bool} {from : BitPosition}
    {lines sums ns out lines' lines'' sums' sums'' ns' ns'' out' out'' : List ℕ} {at at'' : BitPosition}
    → out'' ≡ out' → lines'' ≡ lines' → sums'' ≡ sums' → ns'' ≡ ns' → at'' ≡ at
    → Done bits q W strict t n y store from lines sums ns out lines' sums' ns' out' at
    → Done bits q W strict t n y store from lines sums ns out lines'' sums'' ns'' out'' at''
met eo el es en ea d = rw (eo, el, es, en, ea) d

pub ks_met : {sums sums'' ns ns'' ks ks'' : List ℕ} → sums'' ≡ sums → ns'' ≡ ns → ks'' ≡ ks → AreKs (zip_records sums ns) ks → AreKs (zip_records sums'' ns'') ks''
ks_met es en ek h = rw (es, en, ek) h

-- ---- two steps

module _ {bits q : ℕ} {totals raws limits : List ℕ} {W : ℕ} {strict : Bool} {t : List ℕ} {n : ℕ} {y z : Step} {store : Bool} {from : BitPosition}
    {lines sums ns out : List ℕ}
    (r : Ready bits q totals raws limits W strict t n (y ∷ z ∷ []) store from lines sums ns out) where
  pub first_ready : Ready bits q totals raws limits W strict t n (y ∷ []) store from lines sums ns out
  first_ready =
      record {
        numbers = r.numbers;
        wanted = (r.wanted.0, tt);
        held = r.held;
        records = r.records;
        low = omega (arith, r.low);
        room = first_room bits q W strict t n (y ∷ []) (z ∷ []) store from.0 lines sums ns out r.room;
      }

  module _ {lines' sums' ns' out' : List ℕ} {at : BitPosition} (d : Done bits q W strict t n y store from lines sums ns out lines' sums' ns' out' at) where
    pub second_ready : Ready bits q totals raws limits W strict t n (z ∷ []) store at lines' sums' ns' out'
    second_ready =
        record {
          numbers = r.numbers;
          wanted = r.wanted.1;
          held = within_after d.put refl r.held;
          records = d.records;
          low = omega (arith, r.low, position_after d.put refl r.numbers.depth.1);
          room = room_after d.put refl (z ∷ []) d.same r.room;
        }

    pub two_puts : {lines₂ sums₂ ns₂ out₂ : List ℕ} {u : Result BitPosition ℕ}
        → StepsPut bits q W strict t n (z ∷ []) store at.0 lines' sums' ns' out' lines₂ sums₂ ns₂ out₂ u
        → StepsPut bits q W strict t n (y ∷ z ∷ []) store from.0 lines sums ns out lines₂ sums₂ ns₂ out₂ u
    two_puts g = goes_on d.put refl (z ∷ []) r.room g

-- ---- one step, of which the leaves have told the place, the index in the set and the context

pub record Site (bits q : ℕ) (totals raws limits : List ℕ) (W : ℕ) (strict : Bool) (t : List ℕ) (n line p : ℕ) (coded store : Bool) (from : BitPosition)
    (lines sums ns out : List ℕ) (i j : ℕ) (x : Context) : Type 0 where
  pub ready : Ready bits q totals raws limits W strict t n (step_at line p coded ∷ []) store from lines sums ns out
  pub sample : Sample W t n line p lines i j x
  pub ranges : ContextRanges x

module _ {bits q : ℕ} {totals raws limits : List ℕ} {W : ℕ} {strict : Bool} {t : List ℕ} {n line p : ℕ} {coded store : Bool} {from : BitPosition}
    {lines sums ns out : List ℕ} {i j : ℕ} {x : Context}
    (s : Site bits q totals raws limits W strict t n line p coded store from lines sums ns out i j x) {v : ℕ} (ev : v ≡ get_or t j 0) where
  -- ---- interpolated

  module _ {b : Bool} (eb : b ≡ (strict && not (eqb v x.prediction))) where
    judged : b ≡ (strict && not (eqb (get_or t j 0) x.prediction))
    judged = rw ev at eb

    pub site_right : coded ≡ false → b ≡ false
        → Done bits q W strict t n (step_at line p coded) store from lines sums ns out (set lines (i + 1) x.prediction) sums ns out from
    site_right e f =
        record {
          put = sample_right s.sample bits q strict store coded from.0 sums ns out from e refl (sym judged ∙ f);
          records = s.ready.records;
          same = refl;
          long = length-set lines (i + 1) x.prediction;
        }

    pub site_wrong : coded ≡ false → b ≡ true
        → StepsPut bits q W strict t n (step_at line p coded ∷ []) store from.0 lines sums ns out lines sums ns out (Err j)
    site_wrong e f = sample_wrong s.sample bits q strict store coded from.0 sums ns out lines e (sym judged ∙ f)

  -- ---- with a code

  module _ (ct : coded ≡ true) where
    -- what `coded_as` asks
    pub site_code : CodingAsks bits q totals x v
    site_code =
        let r = s.ready in
        record {
          depth = r.numbers.depth;
          base = r.numbers.base;
          quantisers = r.numbers.quantisers.total;
          prediction = prediction_le s.sample (largest bits) r.held;
          wanted = rw (ev, s.sample.index) (r.wanted.0 ct);
          ranges = s.ranges;
        }

    -- by the record at this place of the set
    module _ {c : Coding} (ec : CodedAs bits q p x v c) where
      -- what `record_at` asks
      pub site_record : (c.slot < 112) × SetInRange (zip_records sums ns)
      site_record = (ec.slot_lt, s.ready.records)

      numbers : let Q = used_quantiser bits q c.choice in
          (1 ≤ Q.limit) × (Q.limit + Q.raw < 64) × (Q.raw ≤ 16) × (Q.total ≤ 2 ^ Q.raw) × (Q.total ≤ 2 ^ 16)
      numbers = let d = s.ready.numbers.depth in code_numbers bits (used_base q c.choice) (used_weight c.choice) d.0 d.1

      pub site_value : c.value < 2 ^ 16
      site_value = let p : 2 ^ bits ≤ 2 ^ 16 = pow_mono s.ready.numbers.depth.1 in omega (arith, ec.value_le)

      module _ {old : Record} (eo : (old ≡ get_or (zip_records sums ns) c.slot no_record) × InRange old) where
        module _ {ks : List ℕ} (hk : AreKs (zip_records sums ns) ks) where
          -- what `update_with_k` asks
          pub site_update : ((c.code < 63 * 2 ^ 15) × ((c.slot < 112) × InRange old)) × (SetInRange (zip_records sums ns) × AreKs (zip_records sums ns) ks)
          site_update = ((omega (arith, ec.code_lt, numbers.4), (ec.slot_lt, eo.1)), (s.ready.records, hk))

          -- the k that is kept for it
          pub site_k : {k : ℕ} → k ≡ get_or ks c.slot 0 → (k ≡ k_of old) × (k ≤ 15)
          site_k ek = kept_k hk ec.slot_lt eo.0 ek

        module _ {k : ℕ} (ek : (k ≡ k_of old) × (k ≤ 15)) where
          abbrev limit : ℕ
          limit = get_or limits c.choice 0

          abbrev raw : ℕ
          raw = get_or raws c.choice 0

          limit_of : limit ≡ (used_quantiser bits q c.choice).limit
          limit_of = limit_is bits q totals raws limits s.ready.numbers.quantisers c.choice ec.choice_le

          raw_of_lem : raw ≡ (used_quantiser bits q c.choice).raw
          raw_of_lem = raw_is bits q totals raws limits s.ready.numbers.quantisers c.choice ec.choice_le

          bits_are : code_bits k limit raw c.code ≡ bits_of_sample bits q p (get_or t j 0) x (zip_records sums ns)
          unfolding bits_of_sample
          bits_are = rw (limit_of, raw_of_lem, ek.0, eo.0, ec.slot, ec.choice, ec.code, ev)

          -- what `put_code` asks
          pub site_room : ((k ≤ 15) × ((1 ≤ limit) × ((limit + raw < 64) × ((raw ≤ 16) × ((c.code < 2 ^ 16) × (c.code ≤ 2 ^ raw))))))
              × ((from.0 < 2 ^ 60) × Room store out from.0 (code_bits k limit raw c.code))
          site_room =
              let r = s.ready in
              let u = numbers in (
                (ek.1, rw (limit_of, raw_of_lem) (u.0, (u.1, (u.2, (omega (arith, ec.code_lt, u.4), omega (arith, ec.code_lt, u.3)))))),
                (omega (arith, r.low), rw bits_are (sample_room s.sample bits q strict store coded from.0 sums ns out ct r.room)),
              )

          set_is : set (zip_records sums ns) c.slot (updated old (residual_of c.code).size) ≡ set_of_sample bits q p (get_or t j 0) x (zip_records sums ns)
          unfolding set_of_sample
          set_is = rw (eo.0, ec.slot, ec.code, ev)

          pub site_done : {after : BitPosition} {out' sums' ns' ks' : List ℕ}
              → (after.0 ≡ from.0 + length (code_bits k limit raw c.code)) × (out' ≡ put_if store out from.0 (code_bits k limit raw c.code))
              → length out' ≡ length out
              → (zip_records sums' ns' ≡ set (zip_records sums ns) c.slot (updated old (residual_of c.code).size))
              × (SetInRange (zip_records sums' ns') × AreKs (zip_records sums' ns') ks')
              → Done bits q W strict t n (step_at line p coded) store from lines sums ns out (set lines (i + 1) c.value) sums' ns' out' after
          site_done {after} {out'} {sums'} {ns'} {ks'} put same new =
              let g = rw bits_are at put in
              record {
                put = sample_coded s.sample bits q strict store coded from.0 sums ns out sums' ns' out' after c.value ct g.0 g.1 (new.0 ∙ set_is) (rw ev at ec.value);
                records = new.1.0;
                same = same;
                long = length-set lines (i + 1) c.value;
              }
