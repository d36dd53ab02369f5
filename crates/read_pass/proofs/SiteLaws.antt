-- One sample of a pair, from the answers of the leaves, and what pairs and passes hand back. Assumes nothing.
use borrow.Author.Tests.{eq-eqb, ne_eqb}
use mathlib.Core.Bool.{Bool, true, false, cond, ◌&&◌}
use mathlib.Core.List.{List, [], ◌∷◌}
use mathlib.Core.Path.{◌≡◌, refl, sym, ap, ◌∙◌}
use Prim.Native.Nat.{ℕ, zero, suc, ◌+◌, ◌-◌, ◌*◌, ◌/◌, ◌%◌, ◌^◌, ◌≤◌, ◌<◌}
use native.Mathlib.Nat.{mul-le-mul_right}
use native.Mathlib.Omega.{arith}
use lib.Dec.{ltb, eqb}
use lib.ListN.{length, get_or, set}
use lib.Pow.{pow_mono}
use Rattle.numbers.specs.Numbers.{flag}
use Rattle.numbers.proofs.OrderLaws.{cond_le}
use Rattle.statistics.specs.Statistics.{updated}
use Rattle.statistics.specs.declared.Record.{Record}
use Rattle.statistics.proofs.RecordLaws.{k_least}
use Rattle.quantiser.specs.Quantisers.{largest, quantiser_of}
use Rattle.quantiser.specs.declared.Quantiser.{Quantiser}
use Rattle.prediction.specs.Predictions.{flatness_of}
use Rattle.prediction.specs.declared.Context.{Context}
use Rattle.code.specs.Codes.{code_at}
use Rattle.code.specs.Inside.{Small}
use Rattle.code.specs.Samples.{residual_of, sample_of}
use Rattle.code.specs.Tight.{is_tight}
use Rattle.code.specs.Inside.{taken_of}
use Rattle.code.specs.declared.Place.{Place}
use Rattle.pass_schedule.specs.Steps.{Step, step_at}
use Rattle.pass_schedule.specs.declared.Plan.{Plan}
use Rattle.pass_steps.specs.Contexts.{context_in, used_base, used_weight, used_quantiser, look_of, slot_of, no_record}
use Rattle.pass_steps.specs.Values.{even_at, odd_at, context_at, zip_records, SetInRange, AreKs, quantisers_of}
use Rattle.pass_steps.specs.Contexts.{Depth}
use Rattle.pass_steps.specs.declared.Look.{Look}
use Rattle.pass_steps.specs.declared.Set.{Set}
use Rattle.pass_steps.proofs.ContextLaws.{context_is, slot_lt}
use Rattle.pass_steps.proofs.LookLaws.{choice_le, place_lt}
use Rattle.pass_steps.proofs.TableLaws.{total_at, limit_at, numbers_le}
use Rattle.pass_ahead.specs.Looks.{packed_look}
use Rattle.pass_ahead.specs.Odds.{AimsAt}
use Rattle.pass_ahead.specs.declared.Aim.{Aim}
use Rattle.pass_ahead.specs.Arrays.{Filled, left_at, EvenHere, Ahead}
use Rattle.pass_ahead.specs.Tables.{choice_at, BySlot}
use Rattle.pass_ahead.proofs.SignLaws.{choice_of_look}
use Rattle.read_pass.specs.Readings.{Reading, taken, read_step, reads}
use Rattle.read_pass.specs.Sites.{coding_by, OddCoding, IsCoding, CodingFits, LineTables, LimitsFit, RawFits}
use Rattle.read_pass.specs.Pairs.{place_of, IsRead, reading_at, held, begun, Holds, IsPair, IsPassed}
use Rattle.read_pass.specs.declared.one_sample.Coding.{Coding}
use Rattle.read_pass.specs.declared.Passed.{Passed}
use Rattle.read_pass.proofs.StepLaws.{StepGives, StepsGive}
use Rattle.std.specs.Prelude.{None, Some, Option}
use Rattle.code.specs.declared.Code.{Code}
use Rattle.code_reader.proofs.ShortLaws.{first_in, second_in}

-- its right neighbour stands before the line's end
pub line_end : (W line p : ℕ) {i : ℕ} → p < W → i ≡ line * (W + 2) + p → i + 2 < (line + 1) * (W + 2)
line_end W line p h e = omega arith

-- ---- contexts by places

even_context_lem : (W line p : ℕ) (lines : List ℕ) → 2 ≤ line → p % 2 ≡ 0 → even_at lines (W + 2) (left_at W line p) ≡ context_in W lines line p
unfolding context_at
even_context_lem W line p lines low even = context_is W line p lines low refl (rw (eq-eqb (p % 2) 0 even))

odd_context_lem : (W line p : ℕ) (lines : List ℕ) → 2 ≤ line → p % 2 ≡ 1 → odd_at lines (W + 2) (left_at W line p) ≡ context_in W lines line p
unfolding context_at
odd_context_lem W line p lines low odd = context_is W line p lines low refl (rw (ne_eqb (p % 2) 0 (omega arith)))

-- an interpolated sample is its prediction
pub site_interpolated : {bits q W line p h i : ℕ} {s lines new ahead : List ℕ} {coded : Bool} {records : List Record} {from : Place}
    → 2 ≤ line → p % 2 ≡ 0 → EvenHere q W lines line p h ahead → i ≡ line * (W + 2) + p → coded ≡ false → new ≡ set lines (i + 1) (get_or ahead h 0)
    → StepGives bits q W s (step_at line p coded) (reading_at lines records from) (Some (reading_at new records from))
unfolding read_step
site_interpolated {W = W} {line} {p} {lines = lines} low even e ei ec en = record { is = rw (en, ec, ei, e.prediction, even_context_lem W line p lines low even) }

-- ---- how a sample is coded

-- the raw bits of a quantiser, by its limit
raw_by_limit : (bits q weight : ℕ) → Depth bits
    → RawFits bits (quantiser_of bits q weight).limit × (4 * bits - 1 - (quantiser_of bits q weight).limit ≡ (quantiser_of bits q weight).raw)
unfolding quantiser_of
raw_by_limit bits q weight d =
    let n = numbers_le bits q weight d.1 in
    (record { depth = d.1; low = omega (arith, n.1, d.0); high = omega (arith, n.1, d.0) }, omega (arith, n.1, d.0))

-- a flag is odd where it is 1, whatever even number is added
odd_flag : (b : Bool) (n x : ℕ) → x ≡ 2 * n + flag b → eqb (x % 2) 1 ≡ b
odd_flag true n x e = eq-eqb (x % 2) 1 (omega arith)
odd_flag false n x e = ne_eqb (x % 2) 1 (omega arith)

half_flag : (b : Bool) (n x : ℕ) → x ≡ 2 * n + flag b → x / 2 ≡ n
half_flag true n x e = omega arith
half_flag false n x e = omega arith

flag_le : (b : Bool) → flag b ≤ 1
flag_le true = omega arith
flag_le false = omega arith

-- a look that was packed
pub packed_small : (q x : ℕ) (t : Context) → x ≡ packed_look (look_of q t) → x < 224
packed_small q x t e = omega (arith, place_lt q t, flag_le (look_of q t).negative)

-- what the leaves say of an odd position
pub aim_small : (q : ℕ) (x : Context) (a : Aim) → AimsAt (look_of q x) a → a.slot < 112
aim_small q x a e = omega (arith, e.0, place_lt q x)

pub odd_made : (bits q S : ℕ) {i j g : ℕ} (lines limits ks : List ℕ) (a : Aim) (c : Coding) → c ≡ coding_by bits i g a.slot a.flip limits ks → i ≡ j
    → g ≡ (odd_at lines S i).prediction → AimsAt (look_of q (odd_at lines S i)) a → g < 2 ^ 16 → OddCoding bits q (odd_at lines S j) j limits ks c
odd_made bits q S lines limits ks a c e ei eg ea small = rw (← ei) (record { is = e ∙ rw (eg, ea.0, ea.1); small = rw e small })

largest_lt : (bits : ℕ) → bits ≤ 16 → largest bits < 2 ^ 16
largest_lt bits h = let p : 2 ^ bits ≤ 2 ^ 16 = pow_mono h in omega arith

-- ---- a sample that is coded as c says

pub record CodedAt (bits q W line p : ℕ) (s lines sums ns steps limits totals : List ℕ) (c : Coding) : Type 0 where
  pub is : IsCoding bits q W lines line p (zip_records sums ns) c
  pub fits : CodingFits lines c
  pub tables : LineTables bits q steps limits totals
  pub depth : Depth bits
  pub base : q < 256

module _ {bits q W line p : ℕ} {s lines sums ns ks steps limits totals : List ℕ} (low : 2 ≤ line) (high : line ≤ 17) (width : W ≤ 512) (inside : p < W)
    (room : (line + 1) * (W + 2) ≤ length lines) (t : LineTables bits q steps limits totals) (depth : Depth bits) (base : q < 256)
    (kept : AreKs (zip_records sums ns) ks) where
  -- by its context, and by the place of its record
  coded_by : (x : Context) (c : Coding) (i slot flip : ℕ) → x ≡ context_in W lines line p → c ≡ coding_by bits i x.prediction slot flip limits ks
      → i ≡ line * (W + 2) + p → slot ≡ slot_of p (look_of q x).place → eqb (flip % 2) 1 ≡ (look_of q x).negative → flip < 2 ^ 16 → c.prediction < 2 ^ 16
      → CodedAt bits q W line p s lines sums ns steps limits totals c
  coded_by x c i slot flip ex ec ei es ef small g =
      let lt : slot < 112 = rw es (slot_lt p q x) in
      let choice : choice_at slot ≡ (look_of q x).choice = rw es (choice_of_look p q x) in
      let end : 18 * (W + 2) ≤ 18 * 514 = omega arith in
      let high_end = mul-le-mul_right (W + 2) high in
      record {
        is = record {
          place = rw ec ei;
          prediction = rw (ec, ex);
          slot = rw ec (rw ex at es);
          sign = rw ec (rw ex at ef);
          k = rw ec (kept.each slot lt);
          m = rw ec refl;
          limit = rw ec (t.limit slot lt ∙ rw (choice, ex));
        };
        fits = record {
          inside = rw ec (omega (arith, line_end W line p inside ei, room));
          small = rw ec (omega (arith, high_end, ei, inside, width));
          prediction = g;
          slot = rw ec lt;
          flip = rw ec small;
          m = rw ec (largest_lt bits depth.1);
        };
        tables = t;
        depth = depth;
        base = base;
      }

  -- as the program finds it
  pub even_coded : {ahead : List ℕ} {h i : ℕ} (c : Coding) → p % 2 ≡ 0 → EvenHere q W lines line p h ahead → i ≡ line * (W + 2) + p
      → c ≡ coding_by bits i (get_or ahead h 0) (get_or ahead (48 + h) 0 / 2) (get_or ahead (48 + h) 0) limits ks → (c.prediction < 2 ^ 16) × (c.flip < 2 ^ 16)
      → CodedAt bits q W line p s lines sums ns steps limits totals c
  even_coded {ahead} {h} {i} c even e ei ec g =
      let x : Context = even_at lines (W + 2) (left_at W line p) in
      let l : Look = look_of q x in
      let half : get_or ahead (48 + h) 0 / 2 ≡ l.place = half_flag l.negative l.place (get_or ahead (48 + h) 0) e.look in
      coded_by x c i (get_or ahead (48 + h) 0 / 2) (get_or ahead (48 + h) 0) (even_context_lem W line p lines low even) (ec ∙ rw e.prediction) ei (omega (arith, half, even))
      (odd_flag l.negative l.place (get_or ahead (48 + h) 0) e.look)
      (rw ec at g.1) g.0

  pub odd_coded : (c : Coding) → p % 2 ≡ 1 → OddCoding bits q (odd_at lines (W + 2) (left_at W line p)) (left_at W line p) limits ks c
      → CodedAt bits q W line p s lines sums ns steps limits totals c
  odd_coded c odd e =
      let x : Context = odd_at lines (W + 2) (left_at W line p) in
      let l : Look = look_of q x in
      coded_by x c (left_at W line p) (l.place + 56) (flag l.negative) (odd_context_lem W line p lines low odd) e.is refl (omega (arith, odd))
      (odd_flag l.negative 0 (flag l.negative) (omega arith))
      (omega (arith, flag_le l.negative)) e.small

module _ {bits q W line p : ℕ} {s lines sums ns steps limits totals : List ℕ} {c : Coding} (y : CodedAt bits q W line p s lines sums ns steps limits totals c) where
  abbrev context : Context
  context = context_in W lines line p

  abbrev look : Look
  look = look_of q context

  abbrev used : Quantiser
  used = used_quantiser bits q look.choice

  choice_is : choice_at c.slot ≡ look.choice
  choice_is = rw y.is.slot (choice_of_look p q context)

  four : look.choice ≤ 3
  unfolding look_of
  four = choice_le q (flatness_of context)

  -- the numbers of the quantiser
  used_total : get_or totals (choice_at c.slot) 0 ≡ used.total
  used_total = rw (choice_is, y.tables.summed) (total_at bits q look.choice four)

  pub total_known : get_or totals (choice_at c.slot) 0 ≤ 2 ^ 16
  total_known = rw used_total (numbers_le bits (used_base q look.choice) (used_weight look.choice) y.depth.1).0

  used_base_lem : used_base q look.choice ≡ look.base
  unfolding look_of
  used_base_lem = refl

  step_is : get_or steps c.slot 0 ≡ 2 * look.base + 1
  step_is = y.tables.step c.slot y.fits.slot ∙ rw (choice_is, used_base_lem)

  base_small : look.base < 256
  unfolding look_of
  base_small = go (eqb look.choice 0)
    where
      go : (b : Bool) → cond b q (look.choice - 1) < 256
      go true = y.base
      go false = omega (arith, four)

  pub step_known : (get_or steps c.slot 0 < 512) × (get_or steps c.slot 0 % 2 ≡ 1)
  step_known = let b = base_small in (omega (arith, step_is, b), omega (arith, step_is))

  half_step : get_or steps c.slot 0 / 2 ≡ look.base
  half_step = omega (arith, step_is)

  pub raw_fits : RawFits bits c.limit
  raw_fits = rw y.is.limit (raw_by_limit bits (used_base q look.choice) (used_weight look.choice) y.depth).0

  used_raw : 4 * bits - 1 - c.limit ≡ used.raw
  used_raw = rw y.is.limit (raw_by_limit bits (used_base q look.choice) (used_weight look.choice) y.depth).1

  -- what the code is read by is small
  pub k_known : c.k ≤ 15
  k_known = rw y.is.k (k_least (get_or (zip_records sums ns) c.slot no_record)).capped

  pub limit_known : c.limit < 64
  limit_known = rw y.is.limit (numbers_le bits (used_base q look.choice) (used_weight look.choice) y.depth.1).2

  -- the code that is there
  abbrev code : Place → Option Code
  code from = code_at s from.at.0 c.k c.limit (4 * bits - 1 - c.limit)

  -- the step, by it
  site_got : (coded : Bool) (from : Place) → coded ≡ true
      → read_step bits q W s (step_at line p coded) (held lines sums ns from)
      ≡ taken bits q (line * (W + 2) + p) (slot_of p look.place) context look (held lines sums ns from) (code from)
  unfolding read_step
  site_got coded from e = rw (used_raw, y.is.k, y.is.limit, y.is.slot, e)

  -- the lines and the records after it
  abbrev sampled : ℕ → List ℕ
  sampled value =
      set lines (c.place + 1)
      (sample_of c.m (get_or steps c.slot 0 / 2) (get_or totals (choice_at c.slot) 0) (eqb (c.flip % 2) 1) c.prediction value)

  abbrev updated_by : ℕ → List Record
  updated_by value = set (zip_records sums ns) c.slot (updated (get_or (zip_records sums ns) c.slot no_record) (residual_of value).size)

  -- and by what was taken of it
  got_none : (from : Place) (o : Option Code) → taken_of c.m from.tight from.long o ≡ None
      → taken bits q (line * (W + 2) + p) (slot_of p look.place) context look (held lines sums ns from) o ≡ None
  got_none from None e = refl
  got_none from (Some o) e = let no : ◌≡◌ {A = ℕ} 0 1 = cc in absurd (omega arith)

  got_some : (from after : Place) (value : ℕ) (new : List ℕ) (records : List Record) (o : Option Code)
      → taken_of c.m from.tight from.long o ≡ Some (value, after)
      → new ≡ sampled value → records ≡ updated_by value
      → taken bits q (line * (W + 2) + p) (slot_of p look.place) context look (held lines sums ns from) o ≡ Some (reading_at new records after)
  got_some from after value new records None e el es = let no : ◌≡◌ {A = ℕ} 0 1 = cc in absurd (omega arith)
  got_some from after value new records (Some o) e el es =
      let b : o.value ≡ value = ap (λ (x : Option (ℕ × Place)). first_in x value) e in
      let g : record { at = o.after; tight = from.tight && is_tight c.m o; long = from.long + flag o.long } ≡ after =
      ap (λ (x : Option (ℕ × Place)). second_in x after) e in
      let a : o.after ≡ after.at = ap (λ (x : Place). x.at) g in
      let d : from.tight && is_tight c.m o ≡ after.tight = ap (λ (x : Place). x.tight) g in
      let f : from.long + flag o.long ≡ after.long = ap (λ (x : Place). x.long) g in
      rw (es, el, ← a, ← b, ← d, ← f, y.is.m, half_step, used_total, y.is.sign, y.is.prediction, y.is.place, y.is.slot)

  module _ {coded : Bool} {from : Place} {got : Option (ℕ × Place)} (ed : coded ≡ true)
      (eg : got ≡ taken_of c.m from.tight from.long (code from)) where
    pub site_cut_off : got ≡ None → StepGives bits q W s (step_at line p coded) (held lines sums ns from) None
    site_cut_off e = record { is = site_got coded from ed ∙ got_none from (code from) (sym eg ∙ e) }

    pub site_read : {value : ℕ} {after : Place} {new : List ℕ} {records : List Record} → got ≡ Some (value, after)
        → new ≡ sampled value → records ≡ updated_by value
        → StepGives bits q W s (step_at line p coded) (held lines sums ns from) (Some (reading_at new records after))
    site_read {value} {after} {new} {records} e el es =
        record { is = site_got coded from ed ∙ got_some from after value new records (code from) (sym eg ∙ e) el es }

-- a code that was taken is small
pub taken_small : {got : Option (ℕ × Place)} {value : ℕ} {after : Place} → Small got → got ≡ Some (value, after)
    → value < 63 * 2 ^ 15
taken_small h e = rw e at h

-- ---- where two ways meet, the same lists have other names

pub met : {lines lines' sums sums' ns ns' : List ℕ} {place place' : Place} → lines ≡ lines' → sums ≡ sums' → ns ≡ ns' → place ≡ place'
    → held lines sums ns place ≡ held lines' sums' ns' place'
met el es en ep = rw (el, es, en, ep)

module _ {y z : Reading} (e : y ≡ z) where
  pub step_met : {bits q W : ℕ} {s : List ℕ} {x : Step} {r : Reading} → StepGives bits q W s x r (Some z) → StepGives bits q W s x r (Some y)
  step_met g = rw e g

  pub steps_met : {bits q W : ℕ} {s : List ℕ} {l : List Step} {r : Reading} → StepsGive bits q W s l r (Some z) → StepsGive bits q W s l r (Some y)
  steps_met g = rw e g

  pub ranges_met : SetInRange z.set → SetInRange y.set
  ranges_met g = rw e g

  pub ks_met : {ks ks' : List ℕ} → ks ≡ ks' → AreKs z.set ks' → AreKs y.set ks
  ks_met f g = rw (e, f) g

  pub ahead_met : {q W line c n : ℕ} {l : List ℕ} → Ahead q W z.lines line c n l → Ahead q W y.lines line c n l
  ahead_met g = rw e g

  pub length_met : length y.lines ≡ length z.lines
  length_met = ap (λ (r : Reading). length r.lines) e

-- ---- what a pass holds while it goes on

pub holds_on : {bits W q : ℕ} {P : Plan} {from after : Place} {s lines new sums sums' ns ns' ks ks' steps limits totals next digits : List ℕ}
    → Holds bits W P q from s lines sums ns ks steps limits totals next digits → length new ≡ length lines → SetInRange (zip_records sums' ns')
    → AreKs (zip_records sums' ns') ks' → after.long ≤ after.at.0
    → Holds bits W P q after s new sums' ns' ks' steps limits totals next digits
holds_on o same records kept counted =
    record {
      bytes = o.bytes;
      width = o.width;
      room = (omega (arith, o.room.0, same), omega (arith, o.room.1, same));
      plan = o.plan;
      apart = o.apart;
      depth = o.depth;
      base = o.base;
      tables = o.tables;
      becomes = o.becomes;
      lengths = o.lengths;
      records = records;
      ks_kept = kept;
      counted = counted;
    }

-- ---- what a line keeps by the places of records

limit_small : (bits q i : ℕ) (limits : List ℕ) → limits ≡ (quantisers_of bits q).limits → i ≤ 3 → bits ≤ 16 → get_or limits i 0 < 64
limit_small bits q i limits e h b =
    let is : get_or limits i 0 ≡ (used_quantiser bits q i).limit = rw e (limit_at bits q i h) in
    rw is (numbers_le bits (used_base q i) (used_weight i) b).2

pub limits_fit : (bits q : ℕ) (limits : List ℕ) → limits ≡ (quantisers_of bits q).limits → bits ≤ 16 → LimitsFit limits
limits_fit bits q limits e b =
    (limit_small bits q 0 limits e (omega arith) b, limit_small bits q 1 limits e (omega arith) b, limit_small bits q 2 limits e (omega arith) b, limit_small bits q 3 limits e (omega arith) b)

choice_at_le : (j : ℕ) → choice_at j ≤ 3
unfolding choice_at
choice_at_le j = cond_le 3 (ltb (j % 56) 41) 0 ((j % 56 - 36) / 5) (omega arith) (omega arith)

step_at_lem : (q i : ℕ) → i ≤ 3 → get_or ((2 * q + 1) ∷ 1 ∷ 3 ∷ 5 ∷ []) i 0 ≡ 2 * used_base q i + 1
step_at_lem q zero h = refl
step_at_lem q (suc zero) h = refl
step_at_lem q (suc (suc zero)) h = refl
step_at_lem q (suc (suc (suc zero))) h = refl
step_at_lem q (suc (suc (suc (suc i)))) h = absurd (omega arith)

four_at : (l : List ℕ) (i : ℕ) → i ≤ 3 → get_or (get_or l 0 0 ∷ get_or l 1 0 ∷ get_or l 2 0 ∷ get_or l 3 0 ∷ []) i 0 ≡ get_or l i 0
four_at l zero h = refl
four_at l (suc zero) h = refl
four_at l (suc (suc zero)) h = refl
four_at l (suc (suc (suc zero))) h = refl
four_at l (suc (suc (suc (suc i)))) h = absurd (omega arith)

pub tables_made : (bits q : ℕ) (four steps limits totals : List ℕ) → four ≡ (quantisers_of bits q).limits → totals ≡ (quantisers_of bits q).totals
    → Filled 112 (BySlot (2 * q + 1) 1 3 5) 112 steps
    → Filled 112 (BySlot (get_or four 0 0) (get_or four 1 0) (get_or four 2 0) (get_or four 3 0)) 112 limits → LineTables bits q steps limits totals
tables_made bits q four steps limits totals ef et s l =
    record {
      step = λ j h. s.each j h ∙ step_at_lem q (choice_at j) (choice_at_le j);
      limit = λ j h. l.each j h ∙ four_at four (choice_at j) (choice_at_le j) ∙ rw ef (limit_at bits q (choice_at j) (choice_at_le j));
      summed = et;
    }

-- ---- what a pair hands back, and what is known of it by a caller

module _ {bits q W : ℕ} {s : List ℕ} {l : List Step} {r : Reading} (lines sums ns : List ℕ) where
  pub pair_cut_off : StepsGive bits q W s l r None → IsPair (reads bits q W s l r) lines sums ns None
  pair_cut_off e = rw e.are refl

  pub pair_at : {after : Place} → StepsGive bits q W s l r (Some (held lines sums ns after))
      → IsPair (reads bits q W s l r) lines sums ns (Some (after))
  pair_at e = rw e.are (refl, refl, refl)

was_none : (o : Option Reading) (lines sums ns : List ℕ) (r : Option Place) → IsPair o lines sums ns r → r ≡ None → o ≡ None
was_none None lines sums ns r h e = refl
was_none (Some z) lines sums ns r h e = let no : ◌≡◌ {A = ℕ} 0 1 = cc in absurd (omega arith)

was_some : (o : Option Reading) (lines sums ns : List ℕ) (r : Option Place) (after : Place) → IsPair o lines sums ns r
    → r ≡ Some (after)
    → o ≡ Some (held lines sums ns after)
was_some None lines sums ns r after h e = let no : ◌≡◌ {A = ℕ} 0 1 = cc in absurd (omega arith)
was_some (Some z) lines sums ns r after h e =
    let a : place_of z ≡ after = cc in
    rw (h.1, h.2, ← a)

module _ (bits q W : ℕ) (s : List ℕ) (l : List Step) (r : Reading) (lines sums ns : List ℕ) {k : Option Place} (h : IsPair (reads bits q W s l r) lines sums ns k) where
  pub pair_was_cut_off : k ≡ None → StepsGive bits q W s l r None
  pair_was_cut_off e = record { are = was_none (reads bits q W s l r) lines sums ns k h e }

  pub pair_was_at : {after : Place} → k ≡ Some (after) → StepsGive bits q W s l r (Some (held lines sums ns after))
  pair_was_at {after} e = record { are = was_some (reads bits q W s l r) lines sums ns k after h e }

-- ---- what a pass hands back, and what is known of it by a caller

pub passed_cut_off : {o : Option Reading} (lines : List ℕ) → o ≡ None → IsPassed o lines None
passed_cut_off lines e = rw e refl

pub passed : (o : Option Reading) (lines : List ℕ) (after : Place) (t : Set) → o ≡ Some (begun lines t after)
    → IsPassed o lines (Some (record { place = after; set = t }))
passed o lines after t e = rw e (record { lines = refl; records = refl; place = refl })

pub pass_was_cut_off : (o : Option Reading) (lines : List ℕ) (r : Option Passed) → IsPassed o lines r → r ≡ None → o ≡ None
pass_was_cut_off None lines r h e = refl
pass_was_cut_off (Some z) lines r h e = absurd (rw e at h)

pub pass_was_read : (o : Option Reading) (lines : List ℕ) (r : Option Passed) (p : Passed) → IsPassed o lines r → r ≡ Some p
    → o ≡ Some (begun lines p.set p.place)
pass_was_read None lines r p h e = let no : ◌≡◌ {A = ℕ} 0 1 = cc in absurd (omega arith)
pass_was_read (Some z) lines r p h e =
    let k : IsRead z lines p = rw e at h in
    rw (k.lines, k.records, k.place)
