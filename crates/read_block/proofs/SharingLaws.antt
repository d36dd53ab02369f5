-- Decoding for a camera, block by block: the entries, and where the first line is that has none. Assumes nothing.
use borrow.Author.Tests.{ltb-false, lt-ltb, le-ltb, le-leb, leb-true}
use mathlib.Core.Bool.{Bool, true, false, ◌&&◌, and-true, false≢true}
use mathlib.Core.List.{List}
use mathlib.Core.Path.{◌≡◌, refl, sym, ap, ◌∙◌, subst}
use Prim.Native.Nat.{ℕ, suc, ◌+◌, ◌-◌, ◌≤◌, ◌<◌}
use native.Mathlib.Nat.{le_refl}
use native.Mathlib.Omega.{arith}
use lib.Dec.{ltb, leb}
use Rattle.numbers.specs.Numbers.{least_from}
use Rattle.numbers.proofs.LeastLaws.{least, least_is}
use Rattle.numbers.proofs.OrderLaws.{split}
use Rattle.image_map.specs.Places.{Changed}
use Rattle.image_map.specs.declared.Part.{Part}
use Rattle.stream.specs.declared.header.FujiHeader.{FujiHeader}
use Rattle.stream.specs.declared.header.Refusal.TheVariants.{NoEntry}
use Rattle.image_region.specs.Regions.{first_block, last_block, line_count}
use Rattle.image_region.specs.Inside.{part_in, Accepted}
use Rattle.image_region.specs.declared.Rect.{Rect}
use Rattle.cameras.specs.Entries.{lines_with_entry, after_lines, taking_lines, is_stopped}
use Rattle.cameras.specs.declared.Camera.{Camera}
use Rattle.cameras.specs.declared.Entry.{Entry}
use Rattle.read_block.specs.Walks.{Shown, shown_lines, IsWalked}
use Rattle.read_block.specs.Images.{form_of, bases_in, bytes_in, lines_read, read_in, decoded_sample, or_else, answer_of, Pictured}
use Rattle.read_block.specs.Inside.{walked_answer}
use Rattle.read_block.specs.Sharing.{entry_lines, block_entries, stops_in, block_count, entries_after, blocks_before, is_out, out_line, shared_answer, last_entries, is_before}
use Rattle.read_block.specs.Sharing.{is_shared, PicturedShared}
use Rattle.read_block.specs.declared.Form.{Form}
use Rattle.read_block.proofs.DecodeLaws.{all_read, read_more, walked_lines, answer_more, pictured_more, pictured_stopped}
use Rattle.std.specs.Prelude.{Err, Ok, Result}
use Rattle.line_totals.specs.declared.TightLines.{TightLines}
use Rattle.line_totals.specs.declared.Totals.{Totals}
use Rattle.stream.specs.declared.header.Refusal.{Refusal}

-- ---- a walk over the first e of `count` lines

-- what it says of all of them
pub record PartWalked (F : Form) (bases s : List ℕ) (e count : ℕ) (w : Result (Totals × TightLines) (ℕ × Totals)) : Type 0 where
  pub taking : taking_lines (shown_lines w e) e ≡ taking_lines (lines_read F bases s count) e
  pub stops : is_stopped (shown_lines w e) e count ≡ is_stopped (lines_read F bases s count) e count
  pub stopped : is_stopped (shown_lines w e) e count ≡ true → shown_lines w e ≡ e
  pub going : is_stopped (shown_lines w e) e count ≡ false → IsWalked F bases s count w × (shown_lines w e ≡ shown_lines w count)

pub part_walked : (F : Form) (bases s : List ℕ) (e count : ℕ) (w : Result (Totals × TightLines) (ℕ × Totals)) → e ≤ count → IsWalked F bases s e w → PartWalked F bases s e count w
part_walked F bases s e count (Ok (all, tight)) low p =
    let f : count ≡ e + (count - e) = omega arith in
    let m : e ≤ lines_read F bases s count = rw f (rw (all_read F bases s e p.end p.read) at (read_more F bases s e (count - e))) in
    record {
      taking = rw (le-ltb e e (le_refl e), le-ltb (lines_read F bases s count) e m);
      stops = rw (le-leb e e (le_refl e), le-leb e (lines_read F bases s count) m);
      stopped = λ t. refl;
      going = λ t.
          let u : ltb e count ≡ false = sym (and-true (ltb e count)) ∙ (rw (le-leb e e (le_refl e)) at t) in
          let g : e ≡ count = omega (arith, ltb-false e count u) in
          (rw g at p, g);
    }
part_walked F bases s e count (Err (line, before)) low p =
    let i = p.inside in
    let all : IsWalked F bases s count (Err (line, before)) =
    record { before = p.before; inside = omega (arith, i); read = p.read; cut = p.cut; totals_are = p.totals_are } in
    let m : line ≡ lines_read F bases s count = walked_lines F bases s count (Err (line, before)) all in
    record {
      taking = rw m;
      stops = rw m;
      stopped = λ t. absurd (no_stop line e count i t);
      going = λ t. (all, refl);
    }
  where
    no_stop : (m e n : ℕ) → m < e → is_stopped m e n ≡ true → ⊥
    no_stop m e n l t = go (ltb e n) (leb e m) refl t
      where
        go : (a b : Bool) → leb e m ≡ b → a && b ≡ true → ⊥
        go a true u v = absurd (omega (arith, l, leb-true e m u))
        go true false u v = false≢true v
        go false false u v = false≢true v

-- ---- the region's blocks

module _ (c : Camera) (d : List ℕ) (h : FujiHeader) (r : Rect) (l : List Entry) where
  pub entries_none : (b : ℕ) → b ≡ first_block r → l ≡ entries_after c d h r l (b - first_block r)
  unfolding entries_after
  entries_none b e = let f : b - first_block r ≡ 0 = omega arith in rw f

  -- with one block more
  pub entries_more : (b : ℕ) (held held' : List Entry) → first_block r ≤ b → held ≡ entries_after c d h r l (b - first_block r)
      → held' ≡ block_entries c d h r b held → held' ≡ entries_after c d h r l (b + 1 - first_block r)
  unfolding entries_after
  entries_more b held held' low e f =
      let n : b + 1 - first_block r ≡ suc (b - first_block r) = omega arith in
      let g : first_block r + (b - first_block r) ≡ b = omega arith in
      f ∙ rw (n, g, e)

  -- no block among the first n has 23
  abbrev pub Going : ℕ → Type 0
  Going n = (j : ℕ) → 0 ≤ j → j < n → stops_in c d h r (first_block r + j) (entries_after c d h r l j) ≡ false

  pub going_none : (b : ℕ) → b ≡ first_block r → Going (b - first_block r)
  going_none b e j z low = absurd (omega arith)

  pub going_more : (b : ℕ) (held : List Entry) → first_block r ≤ b → held ≡ entries_after c d h r l (b - first_block r) → Going (b - first_block r)
      → stops_in c d h r b held ≡ false → Going (b + 1 - first_block r)
  going_more b held low e g t j z k =
      split (b - first_block r) j
      (λ y.
      let f : j ≡ b - first_block r = omega arith in
      let q : first_block r + (b - first_block r) ≡ b = omega arith in
      rw (f, q, ← e) t)
      (λ y. g j z y)

  -- the block with 23
  abbrev N : ℕ
  N = block_count r

  module _ (k : ℕ) (low : k < N) (g : Going k) (t : stops_in c d h r (first_block r + k) (entries_after c d h r l k) ≡ true) where
    before : blocks_before c d h r l ≡ k
    unfolding blocks_before
    before = least_is N (λ n. stops_in c d h r (first_block r + n) (entries_after c d h r l n)) 0 k (omega arith) (omega arith) g t

    out : is_out c d h r l ≡ true
    unfolding is_out
    out = rw before (lt-ltb k N low)

    abbrev line : ℕ
    line = entry_lines c d h r (first_block r + k) (entries_after c d h r l k)

    line_is : out_line c d h r l ≡ line
    unfolding out_line
    line_is = rw before

    pub stopped_answer : Err (NoEntry (first_block r + k) line) ≡ shared_answer c d h r l
    unfolding shared_answer
    stopped_answer = rw (out, line_is, before)

    pub stopped_entries : entries_after c d h r l (suc k) ≡ last_entries c d h r l
    unfolding last_entries
    stopped_entries = rw (out, before)

    pub stopped_image : (tile x y : List ℕ) → Changed (is_before d h r (first_block r + k) line) (decoded_sample d h r tile) x y
        → PicturedShared c d h r tile l x y
    unfolding is_shared
    stopped_image tile x y p = record { kept = p.kept; entries = λ i. p.entries i ∙ rw (out, line_is, before) }

  -- or there is none
  module _ (g : Going N) where
    all_before : blocks_before c d h r l ≡ N
    unfolding blocks_before
    all_before =
        let L = least N (λ n. stops_in c d h r (first_block r + n) (entries_after c d h r l n)) 0 in
        let m : ℕ = least_from N (λ n. stops_in c d h r (first_block r + n) (entries_after c d h r l n)) 0 in
        split N m
        (λ y. omega (arith, L.high))
        (λ y. absurd (false≢true (sym (g m (omega arith) y) ∙ L.holds (omega arith))))

    no_out : is_out c d h r l ≡ false
    unfolding is_out
    no_out = rw all_before (le-ltb N N (le_refl N))

    pub whole_answer : answer_of d h r N ≡ shared_answer c d h r l
    unfolding shared_answer
    whole_answer = rw no_out

    pub whole_entries : entries_after c d h r l N ≡ last_entries c d h r l
    unfolding last_entries
    whole_entries = rw (no_out, all_before)

    pub whole_image : (tile x y : List ℕ) → Pictured d h r tile (last_block r + 1) x y → PicturedShared c d h r tile l x y
    unfolding is_shared
    whole_image tile x y p = record { kept = p.kept; entries = λ i. p.entries i ∙ rw no_out }

-- ---- one block more, from what its walk gives

module _ (c : Camera) (d : List ℕ) (h : FujiHeader) (r : Rect) (l : List Entry) (b : ℕ) (held held' : List Entry) (low : first_block r ≤ b)
    (is : held ≡ entries_after c d h r l (b - first_block r)) (going : Going c d h r l (b - first_block r)) (F : Form) (bases s : List ℕ)
    (bits count found read : ℕ) (w : Result (Totals × TightLines) (ℕ × Totals)) (ef : F ≡ form_of h) (eb : bases ≡ bases_in d b) (es : s ≡ bytes_in d b) (ec : count ≡ line_count r)
    (ei : bits ≡ h.bits) (found-is : found ≡ lines_with_entry c bits bases held count) (found-low : found ≤ count) (walked : IsWalked F bases s found w)
    (read_is : read ≡ shown_lines w found) (after : held' ≡ after_lines c bits bases held (taking_lines read found)) where
  part_of : PartWalked (form_of h) (bases_in d b) (bytes_in d b) found (line_count r) w
  part_of = part_walked (form_of h) (bases_in d b) (bytes_in d b) found (line_count r) w (rw ec at found-low) (rw (ef, eb, es) at walked)

  lines_are : found ≡ entry_lines c d h r b held
  lines_are = rw (ei, eb, ec) at found-is

  taking_is : taking_lines read found ≡ taking_lines (read_in d h r b) (entry_lines c d h r b held)
  taking_is =
      ap (λ (m : ℕ). taking_lines m found) read_is ∙ part_of.taking ∙ ap (λ (e : ℕ). taking_lines (read_in d h r b) e) lines_are

  block_is : held' ≡ block_entries c d h r b held
  unfolding block_entries
  block_is = after ∙ rw (ei, eb) (ap (λ (n : ℕ). after_lines c h.bits (bases_in d b) held n) taking_is)

  pub next_entries : held' ≡ entries_after c d h r l (b + 1 - first_block r)
  next_entries = entries_more c d h r l b held held' low is block_is

  stops_is : is_stopped read found count ≡ stops_in c d h r b held
  unfolding stops_in
  stops_is =
      rw (read_is, ec) part_of.stops ∙ ap (λ (e : ℕ). is_stopped (read_in d h r b) e (line_count r)) lines_are

  -- the block goes on
  module _ (t : is_stopped read found count ≡ false) where
    pub next_going : Going c d h r l (b + 1 - first_block r)
    next_going = going_more c d h r l b held low is going (sym stops_is ∙ t)

    all_of : IsWalked (form_of h) (bases_in d b) (bytes_in d b) (line_count r) w × (shown_lines w found ≡ shown_lines w (line_count r))
    all_of = part_of.going (rw (read_is, ec) at t)

    pub next_answer : (x y : Result Unit Refusal) → x ≡ answer_of d h r (b - first_block r) → y ≡ or_else x (walked_answer b w) → y ≡ answer_of d h r (b + 1 - first_block r)
    next_answer x y e f = answer_more d h r b w x y low e all_of.0 f

    pub next_image : (tile : List ℕ) (n : ℕ) (a : Part) (x y z : List ℕ) → Accepted h r n → a ≡ part_in r b → Pictured d h r tile b x y
        → Shown F bases s tile a (shown_lines w found) y z → Pictured d h r tile (b + 1) x z
    next_image tile n a x y z ok e done shown =
        pictured_more false d h r tile n b a w x y z ok e all_of.0 done (rw (ef, eb, es, all_of.1) at shown)

  -- or a line of it has no entry
  module _ (t : is_stopped read found count ≡ true) (high : b < last_block r + 1) where
    abbrev k : ℕ
    k = b - first_block r

    at_block : first_block r + k ≡ b
    at_block = omega arith

    stop_there : stops_in c d h r (first_block r + k) (entries_after c d h r l k) ≡ true
    stop_there = rw (at_block, ← is) (sym stops_is ∙ t)

    k_low : k < block_count r
    k_low = omega arith

    line_there : found ≡ entry_lines c d h r (first_block r + k) (entries_after c d h r l k)
    line_there = rw (at_block, ← is) lines_are

    pub out_answer : Err (NoEntry b found) ≡ shared_answer c d h r l
    out_answer =
        ap (λ (n : ℕ). Err (NoEntry n found)) (sym at_block) ∙ ap (λ (n : ℕ). Err (NoEntry (first_block r + k) n)) line_there
        ∙ stopped_answer c d h r l k k_low going stop_there

    pub out_entries : held' ≡ last_entries c d h r l
    out_entries =
        let e : b + 1 - first_block r ≡ suc k = omega arith in
        next_entries ∙ ap (λ (n : ℕ). entries_after c d h r l n) e ∙ stopped_entries c d h r l k k_low going stop_there

    pub out_image : (tile : List ℕ) (n : ℕ) (a : Part) (x y z : List ℕ) → Accepted h r n → a ≡ part_in r b → Pictured d h r tile b x y
        → Shown F bases s tile a (shown_lines w found) y z → PicturedShared c d h r tile l x z
    out_image tile n a x y z ok e done shown =
        let f : shown_lines w found ≡ found = part_of.stopped (rw (read_is, ec) at t) in
        let p : Changed (is_before d h r b found) (decoded_sample d h r tile) x z =
        pictured_stopped d h r tile n b found a x y z ok e done (rw (ef, eb, es, f) at shown) in
        stopped_image c d h r l k k_low going stop_there tile x z (same_place p)
      where
        same_place : Changed (is_before d h r b found) (decoded_sample d h r tile) x z
            → Changed (is_before d h r (first_block r + k) (entry_lines c d h r (first_block r + k) (entries_after c d h r l k))) (decoded_sample d h r tile) x z
        same_place p =
            subst
            (λ (m : ℕ). Changed (is_before d h r (first_block r + k) m) (decoded_sample d h r tile) x z)
            line_there
            (subst (λ (m : ℕ). Changed (is_before d h r m found) (decoded_sample d h r tile) x z) (sym at_block) p)
