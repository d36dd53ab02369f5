-- Storing: the answer and the lent bytes, by what was judged and what was read. Assumes nothing.
use borrow.Author.Tests.{ltb-false, leb-false}
use mathlib.Core.Bool.{Bool, true, false, cond}
use mathlib.Core.List.{List}
use mathlib.Core.Path.{◌≡◌, refl, sym, ◌∙◌}
use Prim.Native.Nat.{ℕ, suc, ◌+◌, ◌≤◌, ◌<◌}
use native.Mathlib.Numerals.{add-one}
use native.Mathlib.Omega.{arith}
use lib.Dec.{leb, ltb}
use lib.ListN.{replicate}
use Rattle.code.specs.declared.Place.{Place}
use Rattle.statistics.specs.declared.Record.{Record}
use Rattle.image_map.specs.Places.{width_of}
use Rattle.stream.specs.declared.header.FujiHeader.{FujiHeader}
use Rattle.stream.specs.declared.header.Refusal.{Refusal}
use Rattle.stream.specs.declared.header.Refusal.TheVariants.{ShortOutput, BadState}
use Rattle.admission.specs.Beginnings.{samples_needed}
use Rattle.saved_state.specs.Checkpoints.{size_of_checkpoint}
use Rattle.read_block.specs.Blocks.{State, start_state, read_lines}
use Rattle.read_block.specs.Images.{form_of, bytes_in, bases_in, block_answer}
use Rattle.read_block.specs.Inside.{walked_answer}
use Rattle.read_block.specs.Lent.{Buffers}
use Rattle.read_block.specs.Totals.{counted, refused_by}
use Rattle.read_block.specs.Inside.{walked_counted}
use Rattle.read_block.specs.Walks.{start_place, state_at, IsWalked}
use Rattle.read_block.specs.Records.{start_records, base_of}
use Rattle.saved_state.specs.Storing.{stored_counted, stored_out}
use Rattle.saved_state.specs.Calls.{store_judged, StoredWalk}
use Rattle.read_block.specs.WindowedLines.{IsReadOn}
use Rattle.read_block.specs.declared.Counted.{Counted}
use Rattle.read_block.specs.declared.Form.{Form}
use Rattle.read_block.proofs.ResumeLaws.{from_top}
use Rattle.read_block.proofs.BlockLaws.{walked_top}
use Rattle.read_block.proofs.TightLaws.{read_told}
use Rattle.std.specs.Prelude.{Err, Ok, Result, Some}
use Rattle.line_totals.specs.declared.TightLines.{TightLines}
use Rattle.line_totals.specs.declared.Totals.{Totals}

module _ (d : List ℕ) (b : ℕ) (h : FujiHeader) (n room : ℕ) where
  abbrev size : ℕ
  size = size_of_checkpoint (width_of h.xtrans)

  -- neither 21 nor 13: lines are read
  pub record Judged : Type 0 where
    pub below : n < h.lines
    pub fits : size_of_checkpoint (width_of h.xtrans) ≤ room
    pub reads : stored_counted d b h n room
        ≡ counted (form_of h) (bases_in d b) (bytes_in d b) (suc n) (block_answer (form_of h) (bases_in d b) (bytes_in d b) b (suc n))

  pub judged_done : store_judged h n room ≡ (Ok tt) → Judged
  unfolding stored_counted
  judged_done = go (leb h.lines n) (ltb room size) refl refl
    where
      go : (s t : Bool) → leb h.lines n ≡ s → ltb room size ≡ t → cond {A = Result Unit Refusal} s (Err BadState) (cond t (Err ShortOutput) (Ok tt)) ≡ (Ok tt) → Judged
      go true t p q e = let no : ◌≡◌ {A = ℕ} 0 1 = cc in absurd (omega arith)
      go false true p q e = let no : ◌≡◌ {A = ℕ} 0 1 = cc in absurd (omega arith)
      go false false p q e = record { below = leb-false h.lines n p; fits = ltb-false room size q; reads = rw (p, q) }

  pub judged_refused : (x : Refusal) → store_judged h n room ≡ Err x → refused_by x ≡ stored_counted d b h n room
  unfolding stored_counted
  judged_refused x = go (leb h.lines n) (ltb room size) refl refl
    where
      go : (s t : Bool) → leb h.lines n ≡ s → ltb room size ≡ t → cond {A = Result Unit Refusal} s (Err BadState) (cond t (Err ShortOutput) (Ok tt)) ≡ Err x
          → refused_by x ≡ stored_counted d b h n room
      go true t p q e = let f : BadState ≡ x = cc in rw (← f, p)
      go false true p q e = let f : ShortOutput ≡ x = cc in rw (← f, p, q)
      go false false p q e = let no : ◌≡◌ {A = ℕ} 0 1 = cc in absurd (omega arith)

-- the lent bytes, where the walk left its scratch as it is
pub stored_out_lem : (d : List ℕ) (b : ℕ) (h : FujiHeader) (n : ℕ) (scratch : Buffers) (z : State) (w : Result (Totals × TightLines) (ℕ × Totals)) (out out' : List ℕ)
    → z ≡ start_state (form_of h) (bases_in d b) → IsReadOn false (form_of h) (bases_in d b) (bytes_in d b) 0 z (n + 1) scratch w
    → StoredWalk d b n h w scratch.lines scratch.records out out' → out' ≡ stored_out (walked_answer b w) d b h n out
stored_out_lem d b h n scratch z (Err (line, before)) out out' ez p q = q
stored_out_lem d b h n scratch z (Ok (all, tight)) out out' ez p q =
    let e : read_lines (form_of h) (bases_in d b) (bytes_in d b) (suc n) ≡ Some p.end =
    sym (from_top (form_of h) (bases_in d b) (bytes_in d b) (suc n)) ∙ (rw (ez, add-one) at p.read) in
    q ∙ rw (e, p.held, p.records, p.all_is)

-- scratch as a block starts with it
pub header_starts : (F : Form) (h : FujiHeader) (bases : List ℕ) (q n : ℕ) (zeros : List ℕ) (rs : List Record) (from : Place) → F ≡ form_of h
    → zeros ≡ replicate n 0 → n ≡ samples_needed h.xtrans → rs ≡ start_records h.bits q → q ≡ base_of bases 0 → from ≡ start_place
    → state_at zeros rs from ≡ start_state F bases
unfolding start_state
header_starts F h bases q n zeros rs from ef ez en er eq ep = rw (ef, ez, en, er, eq, ep)

-- both, of a walk over what the stream says of block b
module _ (d : List ℕ) (b : ℕ) (h : FujiHeader) (n room : ℕ) (F : Form) (bases s : List ℕ) (z : State) (scratch : Buffers) (w : Result (Totals × TightLines) (ℕ × Totals)) (out out' : List ℕ)
    (a : Counted) (ef : F ≡ form_of h) (eb : bases ≡ bases_in d b) (es : s ≡ bytes_in d b) (ez : z ≡ start_state F bases)
    (reads : IsReadOn false F bases s 0 z (n + 1) scratch w) (ea : a ≡ walked_counted b w) where
  here : IsReadOn false (form_of h) (bases_in d b) (bytes_in d b) 0 z (n + 1) scratch w
  here = rw (ef, eb, es) at reads

  starts : z ≡ start_state (form_of h) (bases_in d b)
  starts = rw (ef, eb) at ez

  pub store_answered : store_judged h n room ≡ (Ok tt) → a ≡ stored_counted d b h n room
  store_answered judged =
      let p = walked_top false (form_of h) (bases_in d b) (bytes_in d b) z (n + 1) scratch w starts here in
      let q : IsWalked (form_of h) (bases_in d b) (bytes_in d b) (suc n) w = rw add-one at p in
      ea ∙ read_told (form_of h) (bases_in d b) (bytes_in d b) (suc n) b w q ∙ sym (judged_done d b h n room judged).reads

  pub store_left : StoredWalk d b n h w scratch.lines scratch.records out out' → out' ≡ stored_out a.answer d b h n out
  store_left stored = stored_out_lem d b h n scratch z w out out' starts here stored ∙ rw ea
