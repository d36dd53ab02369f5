-- Inside. What the functions of writing do to the output, and what they hand back.
use Rattle.std.specs.Prelude.{Bool, true, false, cond, List, [], ◌∷◌, ◌≡◌, ℕ, ◌+◌, ◌-◌, ◌*◌, ◌/◌, ◌%◌, ◌^◌, ◌≤◌, ◌<◌, ltb, length, get_or, set, Err, Ok, Result, None, Option, Some, IsOkAnd, IfOk}
use Rattle.bits.specs.Inside.{bytes_for}
use Rattle.bits.specs.declared.BitPosition.{BitPosition}
use Rattle.statistics.specs.Statistics.{k_of, updated}
use Rattle.statistics.specs.declared.Record.{Record}
use Rattle.quantiser.specs.Quantisers.{largest}
use Rattle.prediction.specs.Inside.{ContextRanges}
use Rattle.prediction.specs.declared.Context.{Context}
use Rattle.code.specs.Samples.{residual_of}
use Rattle.code.specs.Tight.{code_bits}
use Rattle.bit_output.specs.Output.{put_bits}
use Rattle.pass_schedule.specs.Steps.{Step, pass_steps}
use Rattle.pass_steps.specs.Contexts.{used_quantiser, look_of, slot_of, no_record, Depth}
use Rattle.pass_schedule.specs.Inside.{PlanInRange}
use Rattle.pass_steps.specs.Values.{zip_records, records_of, SetInRange, quantisers_of, AreQuantisers}
use Rattle.pass_schedule.specs.declared.Plan.{Plan}
use Rattle.pass_steps.specs.declared.Quantisers.{Quantisers}
use Rattle.pass_steps.specs.declared.Set.{Set}
use Rattle.pass_steps.specs.declared.Spot.{Spot}
use Rattle.colour_lines.specs.Sets.{line_size, index_in}
use Rattle.write_pass.specs.Writings.{Writing, wanted_code, given_sample, writes, write_pass}
use Rattle.write_pass.specs.declared.Coding.{Coding}
use Rattle.write_pass.specs.declared.Written.{Written}

-- the bits of a tight code as one number, zeros before it
unfoldable pub code_number : ℕ → ℕ → ℕ → ℕ → ℕ
code_number k limit raw code = cond (ltb (code / 2 ^ k) limit) (2 ^ k + code % 2 ^ k) (2 ^ raw + (code - 1))

-- bits are put into the output only where they are to be stored; else they are counted alone
abbrev pub put_if : Bool → List ℕ → ℕ → List Bool → List ℕ
put_if store out at l = cond store (put_bits out at l) out

-- there is room for them
abbrev pub Room : Bool → List ℕ → ℕ → List Bool → Type 0
Room store out at l = store ≡ true → bytes_for (at + length l) ≤ length out

-- every sample of some colour lines is up to M
abbrev pub Within : ℕ → List ℕ → Type 0
Within M l = (j : ℕ) → get_or l j 0 ≤ M

-- ---- one sample

-- the bits of a wanted sample v with a code, at position p in the context x of a line with base q; the sample as it reads back; and the records of
-- its set after it
unfoldable pub bits_of_sample : ℕ → ℕ → ℕ → ℕ → Context → List Record → List Bool
bits_of_sample bits q p v x t =
    let h = look_of q x in
    let Q = used_quantiser bits q h.choice in
    code_bits (k_of (get_or t (slot_of p h.place) no_record)) Q.limit Q.raw (wanted_code bits q v x h)

unfoldable pub value_of_sample : ℕ → ℕ → ℕ → Context → ℕ
value_of_sample bits q v x = let h = look_of q x in given_sample bits q (wanted_code bits q v x h) x h

unfoldable pub set_of_sample : ℕ → ℕ → ℕ → ℕ → Context → List Record → List Record
set_of_sample bits q p v x t =
    let h = look_of q x in
    let slot = slot_of p h.place in
    set t slot (updated (get_or t slot no_record) (residual_of (wanted_code bits q v x h)).size)

-- what finding this asks for, with the totals of a line's quantisers
pub record CodingAsks (bits q : ℕ) (totals : List ℕ) (x : Context) (v : ℕ) : Type 0 where
  pub depth : Depth bits
  pub base : q < 256
  pub quantisers : totals ≡ (quantisers_of bits q).totals
  pub prediction : x.prediction ≤ largest bits
  pub wanted : v ≤ largest bits
  pub ranges : ContextRanges x

pub record CodedAs (bits q p : ℕ) (x : Context) (v : ℕ) (r : Coding) : Type 0 where
  pub slot : r.slot ≡ slot_of p (look_of q x).place
  pub slot_lt : r.slot < 112
  pub choice : r.choice ≡ (look_of q x).choice
  pub choice_le : r.choice ≤ 3
  pub code : r.code ≡ wanted_code bits q v x (look_of q x)
  pub code_lt : r.code < (used_quantiser bits q r.choice).total
  pub value : r.value ≡ value_of_sample bits q v x
  pub value_le : r.value ≤ largest bits

-- ---- steps

-- what a program holds, where no bit is written yet
abbrev pub start_of : List ℕ → List ℕ → List ℕ → Writing
start_of lines sums ns = record { lines = lines; set = zip_records sums ns; bits = []; wrong = None }

-- the samples of these steps that have a code are up to M
abbrev pub Wanted : ℕ → ℕ → List ℕ → ℕ → List Step → Type 0
Wanted M W t n [] = Unit {0}
Wanted M W t n (x ∷ l) = (x.coded ≡ true → get_or t (index_in W n x.line x.position) 0 ≤ M) × Wanted M W t n l

-- there is room for the bits of some steps
abbrev pub StepsRoom : ℕ → ℕ → ℕ → Bool → List ℕ → ℕ → List Step → Bool → ℕ → (lines sums ns out : List ℕ) → Type 0
StepsRoom bits q W strict t n l store from lines sums ns out = Room store out from (writes bits q W strict t n l (start_of lines sums ns)).bits

-- the numbers of a line's quantisers
pub record LineNumbers (bits q : ℕ) (totals raws limits : List ℕ) : Type 0 where
  pub depth : Depth bits
  pub base : q < 256
  pub quantisers : AreQuantisers bits q totals raws limits

-- what some steps at a position ask for
pub record StepsAsk (spot : Spot) (q : ℕ) (strict : Bool) (totals raws limits t : List ℕ) (n : ℕ) (l : List Step) (store : Bool) (from : BitPosition)
    (lines sums ns out : List ℕ) : Type 0 where
  pub width : spot.w ≤ 512
  pub plan : PlanInRange spot.plan
  pub numbers : LineNumbers spot.bits q totals raws limits
  pub line : n < 2 ^ 16
  pub samples : (n + 1) * line_size spot.w ≤ length t
  pub wanted : Wanted (largest spot.bits) spot.w t n l
  pub long : 18 * (spot.w + 2) ≤ length lines
  pub held : Within (largest spot.bits) lines
  pub records : SetInRange (zip_records sums ns)
  pub low : from.0 + 80 < 2 ^ 60
  pub room : StepsRoom spot.bits q spot.w strict t n l store from.0 lines sums ns out

-- what some steps hand back, whose writing from no bits on is z: the position after their bits, or the first interpolated sample that is not its
-- prediction; then the lines and the set are left free, and so is the output where it is stored
abbrev pub IsPut : Option ℕ → Writing → ℕ → Bool → (out lines' sums' ns' out' : List ℕ) → Result BitPosition ℕ → Type 0
IsPut None z from store out lines' sums' ns' out' r =
    (r ≡ Ok (record { 0 = from + length z.bits })) × (lines' ≡ z.lines) × (zip_records sums' ns' ≡ z.set) × (out' ≡ put_if store out from z.bits)
IsPut (Some j) z from store out lines' sums' ns' out' r = (r ≡ Err j) × (store ≡ false → out' ≡ out)

pub record StepsPut (bits q W : ℕ) (strict : Bool) (t : List ℕ) (n : ℕ) (l : List Step) (store : Bool) (from : ℕ)
    (lines sums ns out lines' sums' ns' out' : List ℕ) (r : Result BitPosition ℕ) : Type 0 where
  pub are : let z = writes bits q W strict t n l (start_of lines sums ns) in IsPut z.wrong z from store out lines' sums' ns' out' r

-- ---- a pass

-- what it starts with
abbrev pub begun_writing : List ℕ → Set → Writing
begun_writing lines s = record { lines = lines; set = records_of s; bits = []; wrong = None }

pub record WriteAsks (bits W : ℕ) (P : Plan) (qs : Quantisers) (strict : Bool) (t : List ℕ) (n : ℕ) (store : Bool) (from : BitPosition) (lines : List ℕ)
    (s : Set) (out : List ℕ) : Type 0 where
  pub low : 8 ≤ W
  pub high : W ≤ 512
  pub even : W % 2 ≡ 0
  pub plan : PlanInRange P
  pub depth : Depth bits
  pub base : qs.base < 256
  pub quantisers : qs ≡ quantisers_of bits qs.base
  pub line : n < 2 ^ 16
  pub samples : (n + 1) * line_size W ≤ length t
  pub wanted : Wanted (largest bits) W t n (pass_steps W P)
  pub long : 18 * (W + 2) ≤ length lines
  pub held : Within (largest bits) lines
  pub records : SetInRange (records_of s)
  pub position : from.0 < 2 ^ 59
  pub room : Room store out from.0 (write_pass bits qs.base W strict t n P (begun_writing lines s)).bits

-- where every interpolated sample is its prediction, by the writing z
pub record IsWritten (z : Writing) (from : ℕ) (store : Bool) (out lines' out' : List ℕ) (p : Written) : Type 0 where
  pub lines : lines' ≡ z.lines
  pub records : records_of p.set ≡ z.set
  pub at : p.at ≡ record { 0 = from + length z.bits }
  pub output : out' ≡ put_if store out from z.bits

-- where the sample at index j is the first that is not. Then the lines are left free, and so is the output where it is stored
pub record IsWrong (j : ℕ) (store : Bool) (out out' : List ℕ) (r : Result Written ℕ) : Type 0 where
  pub index : r ≡ Err j
  pub output : store ≡ false → out' ≡ out

abbrev pub IsPassPut : Option ℕ → Writing → ℕ → Bool → (out lines' out' : List ℕ) → Result Written ℕ → Type 0
IsPassPut None z from store out lines' out' r = IsOkAnd r (λ p. IsWritten z from store out lines' out' p)
IsPassPut (Some j) z from store out lines' out' r = IsWrong j store out out' r

pub record WriteGives (z : Writing) (store : Bool) (from : BitPosition) (out lines' out' : List ℕ) (r : Result Written ℕ) : Type 0 where
  pub answer : IsPassPut z.wrong z from.0 store out lines' out' r
  pub records : IfOk r (λ p. SetInRange (records_of p.set))
