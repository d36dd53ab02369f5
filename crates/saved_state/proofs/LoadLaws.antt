-- A state that was read and stored loads again, and what any bytes load is in range. Assumes nothing.
use borrow.Author.Tests.{ltb-false, eqb-true}
use mathlib.Core.Bool.{Bool, true, false, cond, not, ◌||◌}
use mathlib.Core.List.{List}
use mathlib.Core.Path.{◌≡◌, refl, sym, ap}
use Prim.Native.Nat.{ℕ, suc, ◌+◌, ◌*◌, ◌^◌, ◌≤◌, ◌<◌}
use native.Mathlib.Omega.{arith}
use lib.Dec.{lit≤, ltb, eqb}
use lib.ListN.{length, get_or, replicate}
use lib.Pow.{lt_of_le_ones}
use Rattle.code.specs.declared.Place.{Place}
use Rattle.statistics.specs.declared.Record.{Record}
use Rattle.pass_steps.specs.Contexts.{no_record}
use Rattle.image_map.specs.Places.{width_of}
use Rattle.stream.specs.declared.header.FujiHeader.{FujiHeader}
use Rattle.admission.specs.Beginnings.{samples_needed}
use Rattle.saved_state.specs.Checkpoints.{kept_line, checked_of, any_below, bad_record, bad_sample, bad_place, bad_checkpoint, other_checkpoint}
use Rattle.saved_state.specs.Inside.{IsCheckpoint}
use Rattle.saved_state.specs.Checkpoints.{size_of_checkpoint, next_line, position_in, loaded_record, loaded_lines}
use Rattle.saved_state.proofs.ByteLaws.{left, right}
use Rattle.saved_state.proofs.StateLaws.{Storable, stored_loads}
use Rattle.saved_state.proofs.RangeLaws.{loaded_in_range}
use Rattle.read_block.specs.Blocks.{State, read_lines}
use Rattle.read_block.specs.Walks.{state_at, AllInRange}
use Rattle.saved_state.specs.Calls.{place_at}
use Rattle.read_block.specs.Images.{form_of}
use Rattle.saved_state.specs.BlockStates.{saved_of, loaded_state}
use Rattle.read_block.specs.Records.{table, start_record, base_of}
use Rattle.read_block.specs.declared.Form.{Form}
use Rattle.read_block.proofs.TableLaws.{table_get_d}
use Rattle.read_block.proofs.RangeLaws.{started}
use Rattle.read_block.proofs.SampleLaws.{samples_in_range}
use Rattle.saved_state.proofs.StoredLaws.{records_in_range, ends_inside}
use Rattle.std.specs.Prelude.{Some, Err, Ok, Result}
use Rattle.stream.specs.declared.header.Refusal.{Refusal}
use Rattle.stream.specs.declared.header.Refusal.TheVariants.{BadState}
use Rattle.stream.specs.declared.header.Refusal.TheVariants.{OtherState}
use Rattle.numbers.proofs.PassedLaws.{same_ok}

pub some_samples : (xtrans : Bool) → 1 ≤ width_of xtrans
some_samples true = lit≤ tt
some_samples false = lit≤ tt

-- ---- what bytes that load say

pub record Loads (W bits lines bytes : ℕ) (s : List ℕ) (k at : ℕ) : Type 0 where
  pub next : k ≡ next_line s
  pub position : at ≡ position_in s
  pub good : bad_checkpoint W bits lines bytes s ≡ false
  pub whole : length s ≡ size_of_checkpoint W
  pub inside : next_line s ≤ lines

module _ (W bits lines bytes : ℕ) (s : List ℕ) (good : bad_checkpoint W bits lines bytes s ≡ false) where
  abbrev others : Bool
  others = bad_place lines bytes s || (any_below 336 (bad_record s) || any_below (6 * W) (bad_sample bits s))

  is_whole : length s ≡ size_of_checkpoint W
  unfolding bad_checkpoint
  is_whole = go (eqb (length s) (size_of_checkpoint W)) refl (left (not (eqb (length s) (size_of_checkpoint W))) others good)
    where
      go : (t : Bool) → eqb (length s) (size_of_checkpoint W) ≡ t → not t ≡ false → length s ≡ size_of_checkpoint W
      go true e f = eqb-true (length s) (size_of_checkpoint W) e
      go false e f = let no : ◌≡◌ {A = ℕ} 0 1 = cc in absurd (omega arith)

  is_inside : next_line s ≤ lines
  unfolding bad_checkpoint bad_place
  is_inside =
      let e = right (not (eqb (length s) (size_of_checkpoint W))) others good in
      let f = left (bad_place lines bytes s) (any_below 336 (bad_record s) || any_below (6 * W) (bad_sample bits s)) e in
      ltb-false lines (next_line s) (left (ltb lines (next_line s)) (ltb (8 * bytes + 7) (position_in s)) f)

pub loads_at : (W bits lines bytes : ℕ) (d : List ℕ) (b : ℕ) (s : List ℕ) (k at : ℕ) → checked_of W bits lines bytes d b s ≡ Ok (k, at)
    → Loads W bits lines bytes s k at
unfolding checked_of
loads_at W bits lines bytes d b s k at = go (bad_checkpoint W bits lines bytes s) (other_checkpoint d b s) refl
  where
    go : (t u : Bool) → bad_checkpoint W bits lines bytes s ≡ t → cond {A = Result (ℕ × ℕ) Refusal} t (Err BadState) (cond u (Err OtherState) (Ok (next_line s, position_in s))) ≡ Ok (k, at)
        → Loads W bits lines bytes s k at
    go true u f e = let no : ◌≡◌ {A = ℕ} 0 1 = cc in absurd (omega arith)
    go false true f e = let no : ◌≡◌ {A = ℕ} 0 1 = cc in absurd (omega arith)
    go false false f e =
        let same : ◌≡◌ {A = ℕ × ℕ} (next_line s, position_in s) (k, at) = same_ok (next_line s, position_in s) (k, at) e in
        record { next = sym (ap (λ (x : ℕ × ℕ). x.0) same); position = sym (ap (λ (x : ℕ × ℕ). x.1) same); good = f; whole = is_whole W bits lines bytes s f; inside = is_inside W bits lines bytes s f }

-- what loading leaves in scratch is the state
pub loaded_is : (F : Form) (h : FujiHeader) (bases s : List ℕ) (q at n w : ℕ) (lines zeros : List ℕ) (rs : List Record) (from : Place) → F ≡ form_of h
    → lines ≡ loaded_lines w s zeros → w ≡ width_of h.xtrans → zeros ≡ replicate n 0 → n ≡ samples_needed h.xtrans → q ≡ base_of bases 0
    → rs ≡ table (λ j. loaded_record h.lossless (start_record h.bits q j) s j) 336 → from ≡ place_at at → at ≡ position_in s
    → state_at lines rs from ≡ loaded_state F h.lossless bases s
unfolding loaded_state
loaded_is F h bases s q at n w lines zeros rs from ef el ew ez en eq er ep ea = rw (ef, el, ew, ez, en, er, eq, ep, ea)

-- ---- what was stored loads

module _ (F : Form) (bases s : List ℕ) (depth : F.bits ≤ 16) (short : length s < 2 ^ 32) (lines : ℕ) (few : lines < 2 ^ 16) where
  pub read_storable : (d : List ℕ) (b n : ℕ) (z : State) → b < 256 → n + 1 ≤ lines → read_lines F bases s (suc n) ≡ Some z
      → Storable (width_of F.xtrans) F.bits lines (length s) (saved_of d b n z)
  read_storable d b n z low h e =
      record {
        some = some_samples F.xtrans;
        depth = depth;
        few = few;
        short = short;
        block_low = low;
        next = h;
        at = ends_inside F depth s bases n z e;
        records = (records_in_range F depth s bases (suc n) z e).1;
        samples = λ m p a c. lt_of_le_ones F.bits (samples_in_range F bases s (suc n) z depth e (kept_line m * (width_of F.xtrans + 2) + (p + 1)));
      }

  -- stored in a stream d, and loaded in a stream d' with the same first 16 bytes
  pub read_loads : (d d' : List ℕ) (b n : ℕ) (z : State) (lossless : Bool) (c : List ℕ) → b < 256 → n + 1 ≤ lines
      → ((i : ℕ) → i < 16 → get_or d i 0 ≡ get_or d' i 0) → read_lines F bases s (suc n) ≡ Some z
      → IsCheckpoint lossless (width_of F.xtrans) (saved_of d b n z) c
      → checked_of (width_of F.xtrans) F.bits lines (length s) d' b c ≡ Ok ((n + 1), z.at.0)
  read_loads d d' b n z lossless c low h same e is =
      stored_loads lossless (width_of F.xtrans) F.bits lines (length s) (saved_of d b n z) c is (read_storable d b n z low h e) d' same

  -- any bytes that load give records in range
  pub loaded_sound : (lossless : Bool) (c : List ℕ) → bad_checkpoint (width_of F.xtrans) F.bits lines (length s) c ≡ false
      → AllInRange (loaded_state F lossless bases c).records
  unfolding loaded_state
  loaded_sound lossless c good j h =
      rw (table_get_d (λ j. loaded_record lossless (start_record F.bits (base_of bases 0) j) c j) 336 j no_record h)
      (loaded_in_range (width_of F.xtrans) F.bits lines (length s) c good lossless (start_record F.bits (base_of bases 0) j) j h
      (started F.bits (base_of bases 0) j depth))

  pub loaded_ranges : (lossless : Bool) (c : List ℕ) (q : ℕ) (rs : List Record) → bad_checkpoint (width_of F.xtrans) F.bits lines (length s) c ≡ false
      → q ≡ base_of bases 0 → rs ≡ table (λ j. loaded_record lossless (start_record F.bits q j) c j) 336 → AllInRange rs
  unfolding loaded_state
  loaded_ranges lossless c q rs good eq er = rw (er, eq) (loaded_sound lossless c good)
