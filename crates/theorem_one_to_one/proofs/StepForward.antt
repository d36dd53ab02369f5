-- One step of a line with any base, written and read: its code is read where its bits were written, and its sample reads back within the base of the
-- quantiser that coded it. Assumes nothing.
use mathlib.Core.Bool.{Bool, true, false, cond, not, ◌&&◌}
use mathlib.Core.List.{List, ◌++◌}
use mathlib.Core.Path.{◌≡◌, refl, sym, ◌∙◌}
use Prim.Native.Nat.{ℕ, suc, ◌+◌, ◌*◌, ◌^◌, ◌≤◌, ◌<◌}
use native.Mathlib.Nat.{mul-le-mul_right, le_refl}
use native.Mathlib.Omega.{arith}
use lib.Dec.{eqb, leb}
use lib.ListN.{length, get_or, set, take, drop}
use lib.Pow.{pow_pos}
use lib.Seq.{get_or-set_same}
use borrow.Author.Tests.{eqb-true, le-leb}
use Rattle.numbers.proofs.BoolLaws.{both}
use Rattle.bits.specs.BitLists.{bits_of}
use Rattle.statistics.specs.Statistics.{k_of}
use Rattle.quantiser.specs.Quantisers.{largest, quantiser_of}
use Rattle.quantiser.specs.declared.Quantiser.{Quantiser}
use Rattle.quantiser.proofs.QuantiserLaws.{total_le, total_wide}
use Rattle.prediction.specs.declared.Context.{Context}
use Rattle.code.specs.Samples.{sample_of}
use Rattle.code.specs.Tight.{code_bits, is_tight}
use Rattle.code.specs.Inside.{code_length}
use Rattle.code.specs.Nearest.{code_near}
use Rattle.code.specs.declared.Code.{Code}
use Rattle.code.proofs.NearLaws.{near_back}
use Rattle.code.proofs.TightLaws.{length_code_bits, ReadBack, read_back}
use Rattle.pass_schedule.specs.Steps.{Step}
use Rattle.pass_schedule.specs.Steps.{step_place}
use Rattle.pass_steps.specs.Contexts.{used_base, used_weight, used_quantiser, look_of, no_record, step_context, step_look, step_slot}
use Rattle.pass_steps.specs.Contexts.{Depth}
use Rattle.pass_steps.specs.declared.Look.{Look}
use Rattle.pass_steps.proofs.ContextLaws.{context_le}
use Rattle.read_pass.specs.Readings.{Reading, interpolate, take_code, read_step}
use Rattle.read_pass.proofs.StepLaws.{step_interpolated, step_read}
use Rattle.colour_lines.specs.Sets.{index_in}
use Rattle.write_pass.specs.Writings.{write_step}
use Rattle.write_pass.proofs.LosslessLaws.{code_numbers}
use Rattle.write_pass.proofs.WriteLaws.{wanted, write_coded, write_interpolated}
use Rattle.theorem_one_to_one.specs.UsedBases.{IsNear}
use Rattle.theorem_one_to_one.proofs.Together.{Starts, starts_at, within, taken_more, Sound, writing_of, CleanReading, StoredWriting, Together}
use Rattle.std.specs.Prelude.{None, Some}

-- a step whose sample has a place in the lines
abbrev pub InLines : ℕ → Step → Type 0
InLines W x = (x.line ≤ 17) × (x.position < W)

pub cell_lt : (W : ℕ) (x : Step) → InLines W x → step_place W x + 1 < 18 * (W + 2)
cell_lt W x h = let m : suc x.line * (W + 2) ≤ 18 * (W + 2) = mul-le-mul_right (W + 2) (omega (arith, h.0)) in omega (arith, h.1)

pub and : (a b : Bool) → a ≡ true → b ≡ true → (a && b) ≡ true
and a b e f = rw (e, f)

told : (b : Bool) (j : ℕ) → cond (not b) (Some j) None ≡ None → b ≡ true
told true j e = refl
told false j e = let no : ◌≡◌ {A = ℕ} 0 1 = cc in absurd (omega arith)

-- a code that is tight below one number is tight below another that it is not above
tight_below : (A B : ℕ) (c : Code) → is_tight A c ≡ true → c.value ≤ B → is_tight B c ≡ true
unfolding is_tight
tight_below A B c e h = and (leb c.value B) c.minimal (le-leb c.value B h) (both (leb c.value A) c.minimal e).1

-- a step of line n, whose base is q, at a reading r, and the quantiser, context, record and sample that it goes by
module _ (bits q W : ℕ) (strict : Bool) (s t : List ℕ) (n : ℕ) (x : Step) (r : Reading) where
  abbrev M : ℕ
  M = largest bits

  abbrev p : ℕ
  p = r.at.0

  abbrev i : ℕ
  i = step_place W x

  abbrev c : Context
  c = step_context W x r.lines

  abbrev h : Look
  h = step_look q W x r.lines

  abbrev slot : ℕ
  slot = step_slot q W x r.lines

  abbrev k : ℕ
  k = k_of (get_or r.set slot no_record)

  abbrev used : Quantiser
  used = used_quantiser bits q h.choice

  abbrev v : ℕ
  v = wanted W t n x

  abbrev code : ℕ
  code = code_near h.base used.total h.negative c.prediction v

  abbrev sample : ℕ → ℕ
  sample value = sample_of M h.base used.total h.negative c.prediction value

  -- ---- with a code

  abbrev pub after : Code → Reading
  after d = take_code bits q i slot c h d r

  -- the code that was read is the one that is written, with its bits
  pub same_code : (d : Code) → x.coded ≡ true → d.value ≡ code
      → take d.after.0 (bits_of s) ≡ take p (bits_of s) ++ code_bits k used.limit used.raw code
      → write_step bits q W strict t n x (writing_of s r) ≡ writing_of s (after d)
  same_code d e value bits_are = write_coded bits q W strict t n x (writing_of s r) e ∙ rw (value, bits_are)

  -- ---- without a code

  abbrev pub between : Reading
  between = interpolate i c r

  -- where the set is held to its predictions, this one must be right
  abbrev pub Held : Type 0
  Held = cond (strict && not (eqb v c.prediction)) (Some (index_in W n x.line x.position)) None ≡ None

  pub same_interpolated : x.coded ≡ false → Held → write_step bits q W strict t n x (writing_of s r) ≡ writing_of s between
  same_interpolated e right = write_interpolated bits q W strict t n x (writing_of s r) e ∙ rw right

  -- ---- the step is read, it is written, and its sample is near; an interpolated one is the set's where the set is held to it

  pub record Leaves (z : Reading) : Type 0 where
    pub near : x.coded ≡ true → IsNear h.base v (get_or z.lines (i + 1) 0)
    pub held : x.coded ≡ false → strict ≡ true → get_or z.lines (i + 1) 0 ≡ v

  abbrev pub StepForward : Reading → Type 0
  StepForward z = Together (CleanReading s) (writing_of s) (read_step bits q W s x) (write_step bits q W strict t n x) r z × Leaves z

  module _ (depth : Depth bits) (ok : Sound bits W r.lines) (inside : InLines W x) where
    -- a sample that is put into its place is there
    put_there : (a : ℕ) → get_or (set r.lines (i + 1) a) (i + 1) 0 ≡ a
    put_there a = get_or-set_same r.lines (i + 1) a 0 (rw ok.long (cell_lt W x inside))

    small_prediction : c.prediction ≤ M
    small_prediction = context_le M W r.lines x.line x.position ok.small

    -- the sample of the code is near, and the code is below total
    nearby : v ≤ M → (code < used.total) × IsNear h.base v (sample code)
    unfolding look_of quantiser_of
    nearby small = near_back M h.base used.total (total_wide bits h.base) h.negative c.prediction v small_prediction small

    total_small : used.total ≤ 2 ^ bits
    unfolding quantiser_of
    total_small = total_le bits (used_base q h.choice)

    -- its bits are read where they stand
    coded_forward : x.coded ≡ true → CleanReading s r → v ≤ M → Starts s (take p (bits_of s) ++ code_bits k used.limit used.raw code)
        → (z : Reading) × StepForward z
    coded_forward e clean small starts =
        let m : List Bool = code_bits k used.limit used.raw code in
        let close = nearby small in
        let numbers = code_numbers bits (used_base q h.choice) (used_weight h.choice) depth.0 depth.1 in
        let top : ℕ = 2 ^ used.raw in
        let d : drop p (bits_of s) ≡ m ++ drop (p + length m) (bits_of s) = starts_at s p m clean.inside starts in
        let b : ReadBack top s p k used.limit used.raw code (drop (p + length m) (bits_of s)) =
        read_back top s p k used.limit used.raw numbers.0 (le_refl top) code (drop (p + length m) (bits_of s))
        (omega (arith, close.0, numbers.3)) d in
        let len : length m ≡ code_length k used.limit used.raw code = length_code_bits k used.limit used.raw code in
        let end : p + length m ≤ 8 * length s = within s p m clean.inside d in
        let low : b.code.value ≤ M = omega (arith, b.value, close.0, total_small, pow_pos bits) in (
          after b.code,
          (
            record {
              read = step_read bits q W s x r b.code e b.read;
              clean = record {
                tight = and r.tight (is_tight M b.code) clean.tight (tight_below top M b.code b.tight low);
                inside = omega (arith, b.after);
              };
              same = same_code b.code e b.value (taken_more s p b.code.after.0 m clean.inside (omega (arith, b.after)) (rw b.rest_after d));
            },
            record {
              near = λ f. rw (put_there (sample b.code.value), b.value) close.1;
              held = λ f. let no : true ≡ false = sym e ∙ f in let z : ◌≡◌ {A = ℕ} 0 1 = cc in absurd (omega arith);
            },
          ),
        )

    interpolated_forward : x.coded ≡ false → CleanReading s r → Held → (z : Reading) × StepForward z
    interpolated_forward e clean right = (
      between,
      (
        record { read = step_interpolated bits q W s x r e; clean = clean; same = same_interpolated e right },
        record {
          near = λ f. let no : true ≡ false = sym f ∙ e in let z : ◌≡◌ {A = ℕ} 0 1 = cc in absurd (omega arith);
          held = λ f g.
              let is = told (eqb v c.prediction) (index_in W n x.line x.position) (rw g at right) in
              put_there c.prediction ∙ sym (eqb-true v c.prediction is);
        },
      ),
    )

    -- where the bits of a step stand, the step is read
    pub step_forward : CleanReading s r → (x.coded ≡ true → wanted W t n x ≤ largest bits) → StoredWriting s (write_step bits q W strict t n x (writing_of s r))
        → (z : Reading) × StepForward z
    step_forward clean small stored = go x.coded refl
      where
        go : (b : Bool) → x.coded ≡ b → (z : Reading) × StepForward z
        go true e = coded_forward e clean (small e) (rw (write_coded bits q W strict t n x (writing_of s r) e) at stored.starts)
        go false e = interpolated_forward e clean (rw (write_interpolated bits q W strict t n x (writing_of s r) e) at stored.right)
