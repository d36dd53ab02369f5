-- The bytes of a stored state stand in the order of the paper. Assumes nothing.
use mathlib.Core.Bool.{Bool, true, false, cond, ◌&&◌}
use mathlib.Core.List.{List}
use mathlib.Core.Path.{◌≡◌, sym, ap, ◌∙◌}
use Prim.Native.Nat.{ℕ, zero, suc, ◌+◌, ◌-◌, ◌*◌, ◌%◌, ◌≤◌, ◌<◌}
use native.Mathlib.Omega.{arith}
use lib.Arith.{digits_div, digits_mod, digits_lt}
use lib.Dec.{leb, eqb}
use lib.ListN.{length, get_or, take}
use borrow.Author.Tests.{le-leb, lt-leb, ne_eqb}
use Rattle.statistics.specs.declared.Record.{Record}
use Rattle.pass_steps.specs.Contexts.{no_record, slot_of, sample_in}
use Rattle.colour_lines.specs.ColourLines.{turned}
use Rattle.colour_lines.proofs.MoveLaws.{turned_at}
use Rattle.image_map.specs.Places.{width_of}
use Rattle.stream.specs.Inside.{Ruled}
use Rattle.stream.specs.declared.header.FujiHeader.{FujiHeader}
use Rattle.stream.proofs.StreamLaws.{opened}
use Rattle.admission.proofs.CallLaws.{block_reads}
use Rattle.read_block.specs.Blocks.{State, read_lines}
use Rattle.read_block.specs.Images.{form_of, bytes_in, bases_in}
use Rattle.read_block.specs.Records.{set_of}
use Rattle.read_block.specs.declared.Form.{Form}
use Rattle.read_block.proofs.SetLaws.{set_get_d}
use Rattle.saved_state.specs.BlockStates.{saved_of}
use Rattle.saved_state.specs.Checkpoints.{stored_record, kept_line}
use Rattle.saved_state.specs.Inside.{IsCheckpoint}
use Rattle.saved_state.proofs.LoadLaws.{read_storable}
use Rattle.saved_state.proofs.StateLaws.{Storable, header_back, block_back, next_back, position_back, sum_back, n_back, sample_back}
use Rattle.theorem_going_on.specs.Layout.{stored_for, largest_size, record_number, found_line, StoredLayout, Layout}
use Rattle.theorem_going_on.proofs.CallLaws.{Stored, has_stored}
use Rattle.theorem_going_on.proofs.GuardLaws.{read_long}
use Rattle.theorem_going_on.proofs.ResumedLaws.{block_short}
use Rattle.std.specs.Prelude.{Ok, Some}

-- ---- records

not_main : (i : ℕ) → eqb (suc i) 0 ≡ false
not_main i = ne_eqb (suc i) 0 (λ e. omega arith)

number_lt : (set odd quantiser g : ℕ) → set < 3 → odd < 2 → quantiser ≤ 3 → g ≤ largest_size quantiser → record_number set odd quantiser g < 336
number_lt set odd zero g a b c e = omega arith
number_lt set odd (suc i) g a b c e = let z = not_main i in rw z (omega (arith, rw z at e))

parity : (odd : ℕ) → odd < 2 → odd % 2 ≡ odd
parity odd h = omega arith

flat_at : (set odd i g : ℕ) → odd < 2 → 112 * set + (36 + 5 * suc i + g + 56 * (odd % 2)) ≡ 112 * set + 56 * odd + (41 + 5 * (suc i - 1) + g)
flat_at set odd i g h = let w = parity odd h in rw w (omega arith)

slot_lt : (odd i g : ℕ) → odd < 2 → i < 3 → g ≤ 4 → 36 + 5 * suc i + g + 56 * (odd % 2) < 112
slot_lt odd i g h a b = let w = parity odd h in rw w (omega arith)

rest : (n t : ℕ) → t < 56 → (n * 56 + t) % 56 ≡ t
rest n t h = digits_mod n h

-- record j of the list is the one that reading takes: of flat quantiser i + 1, and of any
flat_is : (lossless : Bool) (records : List Record) (set odd i g : ℕ) → set < 3 → odd < 2 → i < 3 → g ≤ 4
    → let j = 112 * set + 56 * odd + (41 + 5 * (suc i - 1) + g) in
    stored_record lossless j (get_or records j no_record)
    ≡ cond (lossless && true) (record { sum = 0; n = 1 }) (get_or (set_of set records) (slot_of odd (36 + 5 * suc i + g)) no_record)
unfolding stored_record
flat_is lossless records set odd i g a b c e =
    let j : ℕ = 112 * set + 56 * odd + (41 + 5 * (suc i - 1) + g) in
    let t : ℕ = 41 + 5 * (suc i - 1) + g in
    let m : ((2 * set + odd) * 56 + t) % 56 ≡ t = rest (2 * set + odd) t (omega arith) in
    let q : (2 * set + odd) * 56 + t ≡ j = omega arith in
    let low : 41 ≤ j % 56 = rw (← q, m) (omega arith) in
    let f : leb 41 (j % 56) ≡ true = le-leb 41 (j % 56) low in
    let s : ℕ = 36 + 5 * suc i + g + 56 * (odd % 2) in
    let k : 112 * set + s ≡ j = flat_at set odd i g b in
    rw (f, set_get_d set s records (slot_lt odd i g b c e), k)

stored_is : (lossless : Bool) (records : List Record) (set odd quantiser g : ℕ) → set < 3 → odd < 2 → quantiser ≤ 3 → g ≤ largest_size quantiser
    → stored_record lossless (record_number set odd quantiser g) (get_or records (record_number set odd quantiser g) no_record)
    ≡ stored_for lossless records set odd quantiser g
unfolding stored_record
stored_is lossless records set odd zero g a b c e =
    let j : ℕ = record_number set odd 0 g in
    let f : leb 41 (j % 56) ≡ false = lt-leb 41 (j % 56) (omega arith) in
    let k : 112 * set + (g + 56 * (odd % 2)) ≡ j = omega arith in
    let r : get_or records j no_record ≡ stored_for false records set odd 0 g = sym (set_get_d set (g + 56 * (odd % 2)) records (omega arith) ∙ rw k) in
    rw f (go lossless r)
  where
    go : (l : Bool) → get_or records (record_number set odd 0 g) no_record ≡ stored_for false records set odd 0 g
        → cond (l && false) (record { sum = 0; n = 1 }) (get_or records (record_number set odd 0 g) no_record) ≡ stored_for l records set odd 0 g
    go true r = r
    go false r = r
stored_is lossless records set odd (suc i) g a b c e =
    let z = not_main i in rw z (flat_is lossless records set odd i g a b (omega arith) (rw z at e))

-- ---- lines

found : (W : ℕ) (lines : List ℕ) → 18 * (W + 2) ≤ length lines → (m p : ℕ) → m < 6 → p < W
    → sample_in W lines (kept_line m) p ≡ sample_in W (turned W lines) (found_line m) p
unfolding kept_line
found W lines long zero p h k = sym (turned_at W lines long (p + 1) (omega arith)).0
found W lines long (suc zero) p h k = sym (turned_at W lines long (p + 1) (omega arith)).1
found W lines long (suc (suc zero)) p h k = sym (turned_at W lines long (p + 1) (omega arith)).2
found W lines long (suc (suc (suc zero))) p h k = sym (turned_at W lines long (p + 1) (omega arith)).3
found W lines long (suc (suc (suc (suc zero)))) p h k = sym (turned_at W lines long (p + 1) (omega arith)).4
found W lines long (suc (suc (suc (suc (suc zero))))) p h k = sym (turned_at W lines long (p + 1) (omega arith)).5
found W lines long (suc (suc (suc (suc (suc (suc m)))))) p h k = absurd (omega arith)

-- ---- all of it

module _ (d : List ℕ) (h : FujiHeader) (b n : ℕ) (z : State) (s : List ℕ)
    (ok : Storable (width_of h.xtrans) h.bits h.lines (length (bytes_in d b)) (saved_of d b n z))
    (is : IsCheckpoint h.lossless (width_of h.xtrans) (saved_of d b n z) s)
    (long : length z.lines ≡ 18 * (width_of h.xtrans + 2)) where
  abbrev W : ℕ
  W = width_of h.xtrans

  abbrev bytes : ℕ
  bytes = length (bytes_in d b)

  pub laid_out : StoredLayout d h b n z s
  laid_out =
      record {
        size = is.whole;
        header = header_back h.lossless W h.bits h.lines bytes (saved_of d b n z) s is ok;
        block = block_back h.lossless W h.bits h.lines bytes (saved_of d b n z) s is ok;
        next = next_back h.lossless W h.bits h.lines bytes (saved_of d b n z) s is ok;
        position = position_back h.lossless W h.bits h.lines bytes (saved_of d b n z) s is ok;
        sum = λ set odd i g a c e f.
            sum_back h.lossless W h.bits h.lines bytes (saved_of d b n z) s is ok (record_number set odd i g) (number_lt set odd i g a c e f)
            ∙ ap (λ (r : Record). r.sum) (stored_is h.lossless z.records set odd i g a c e f);
        count = λ set odd i g a c e f.
            n_back h.lossless W h.bits h.lines bytes (saved_of d b n z) s is ok (record_number set odd i g) (number_lt set odd i g a c e f)
            ∙ ap (λ (r : Record). r.n) (stored_is h.lossless z.records set odd i g a c e f);
        sample = λ m p a c.
            sample_back h.lossless W h.bits h.lines bytes (saved_of d b n z) s is ok (m * W + p) (digits_lt a c)
            ∙ rw (digits_div m c, digits_mod m c) (found W z.lines (omega (arith, long)) m p a c);
      }

pub layout : Layout
layout d h b n lent lent' answer bytes begins left done =
    let s = has_stored d b n lent lent' answer done left in
    let a = block_reads false d b (length lent.lines) (length lent.records) h begins in
    let p : Ok s.0 ≡ Ok h = sym s.1.opens ∙ a.opens in
    let e : s.0 ≡ h = cc in
    by s.0 e s.1
  where
    by : (g : FujiHeader) → g ≡ h → Stored d b n g lent' answer
        → (z : State) × (read_lines (form_of h) (bases_in d b) (bytes_in d b) (suc n) ≡ Some z)
        × StoredLayout d h b n z (take (1707 + 12 * width_of h.xtrans) lent'.out)
    by g e s' =
        let s : Stored d b n h lent' answer = rw e at s' in
        let a = block_reads false d b (length lent.lines) (length lent.records) h begins in
        let F : Form = form_of h in
        let ruled : Ruled h = (opened d h s.opens).ruled in
        let short = block_short d h b s.opens a.block bytes in
        let ok =
        read_storable F (bases_in d b) (bytes_in d b) ruled.bits_high short h.lines (omega (arith, ruled.lines_high)) d b n s.state
        (omega (arith, ruled.blocks_high, a.block)) (omega (arith, s.line)) s.read in
        let long = read_long F ruled.bits_high (bytes_in d b) (bases_in d b) (suc n) s.state s.read in
        (s.state, s.read, laid_out d h b n s.state (take (1707 + 12 * width_of h.xtrans) lent'.out) ok s.bytes long)
