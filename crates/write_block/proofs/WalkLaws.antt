-- The writer's walk: parts of a writing one after the other, passes that make a line, and lines that make a block. Assumes nothing.
use mathlib.Core.Bool.{Bool, true, false, cond, false≢true}
use mathlib.Core.List.{List, [], ◌++◌}
use mathlib.Core.Path.{◌≡◌, refl, sym, ap, ◌∙◌}
use Prim.Native.Nat.{ℕ, zero, suc, ◌+◌, ◌-◌, ◌*◌, ◌^◌, ◌≤◌, ◌<◌}
use native.Mathlib.Nat.{add-zero, add-suc, mul-le-mul_right}
use native.Mathlib.Numerals.{add-one}
use native.Mathlib.Omega.{arith}
use lib.ListN.{length, length-append}
use Rattle.bits.specs.declared.BitPosition.{BitPosition}
use Rattle.statistics.specs.declared.Record.{Record}
use Rattle.quantiser.specs.Quantisers.{largest}
use Rattle.colour_lines.specs.ColourLines.{zero_lines, guarded, turned}
use Rattle.image_map.specs.Places.{width_of}
use Rattle.image_map.proofs.PlaceLaws.{width_le}
use Rattle.pass_steps.specs.Values.{records_of}
use Rattle.pass_schedule.specs.Steps.{plan_of, pass_steps}
use Rattle.pass_schedule.specs.declared.Plan.{Plan}
use Rattle.pass_steps.specs.declared.Set.{Set}
use Rattle.colour_lines.specs.Sets.{line_size, set_size}
use Rattle.write_pass.specs.Puts.{put_if, Room, Within, Wanted, IsPassPut}
use Rattle.write_pass.specs.Writings.{Writing, write_pass}
use Rattle.write_pass.specs.declared.Written.{Written}
use Rattle.write_pass.proofs.PassLaws.{pass_within, pass_wrong, pass_short}
use Rattle.bit_output.proofs.PutLaws.{put_none, put_more}
use Rattle.read_block.specs.Records.{start_records, restarted_main, base_of, is_restarted, set_of, put_set}
use Rattle.write_block.specs.WrittenBlocks.{WriteState, repeats, enter_writing, write_pass_at, before_writing}
use Rattle.write_block.specs.WrittenBlocks.{is_strict, write_line, start_writing, write_lines}
use Rattle.write_block.specs.Inside.{SetWanted}
use Rattle.write_block.specs.WriterParts.{passes_from, IsLinePut, LineWritten, SetWritten}
use Rattle.read_block.specs.declared.Form.{Form}
use Rattle.read_block.proofs.SampleLaws.{zeros_le, guarded_le, turned_le}
use Rattle.write_block.proofs.WrittenLaws.{after_bits, pass_at_adds, line_adds}
use Rattle.std.specs.Prelude.{Err, Ok, Result, None, Option, Some}

-- ---- a part that went well, and one that did not

-- what the program holds then
pub record Sofar (z : WriteState) (from : ℕ) (store : Bool) (out lines' : List ℕ) (rs' : List Record) (out' : List ℕ) (at : BitPosition) : Type 0 where
  pub lines : z.lines ≡ lines'
  pub records : z.records ≡ rs'
  pub right : z.wrong ≡ None
  pub position : at.0 ≡ from + length z.bits
  pub output : out' ≡ put_if store out from z.bits

clash : {X : Type 0} (at : BitPosition) (j : ℕ) → Ok at ≡ Err j → X
clash at j e = let no : ◌≡◌ {A = ℕ} 0 1 = cc in absurd (omega arith)

went : (o : Option ℕ) (z : WriteState) (from : ℕ) (store : Bool) (out lines' : List ℕ) (rs' : List Record) (out' : List ℕ) (r : Result BitPosition ℕ) (at : BitPosition)
    → z.wrong ≡ o → IsLinePut o z from store out lines' rs' out' r → r ≡ Ok at → Sofar z from store out lines' rs' out' at
went None z from store out lines' rs' out' r at e p k =
    let f : Ok at ≡ Ok (record { 0 = from + length z.bits }) = sym k ∙ p.0 in
    let q : at ≡ record { 0 = from + length z.bits } = cc in
    record { lines = sym p.1; records = sym p.2; right = e; position = ap (λ (a : BitPosition). a.0) q; output = p.3 }
went (Some j) z from store out lines' rs' out' r at e p k = clash at j (sym k ∙ p.0)

was_wrong : (o : Option ℕ) (z : WriteState) (from : ℕ) (store : Bool) (out lines' : List ℕ) (rs' : List Record) (out' : List ℕ) (r : Result BitPosition ℕ) (i : ℕ)
    → IsLinePut o z from store out lines' rs' out' r → r ≡ Err i → (o ≡ Some i) × (store ≡ false → out' ≡ out)
was_wrong None z from store out lines' rs' out' r i p k = clash _ i (sym p.0 ∙ k)
was_wrong (Some j) z from store out lines' rs' out' r i p k =
    let f : Err j ≡ Err i = sym p.0 ∙ k in
    let q : j ≡ i = cc in
    (ap Some q, p.1)

-- the answers that say so
pub line_right_is : (z : WriteState) (from : ℕ) (store : Bool) (out lines' : List ℕ) (rs' : List Record) (out' : List ℕ) (at : BitPosition)
    → Sofar z from store out lines' rs' out' at → LineWritten z from store out lines' rs' out' (Ok at)
line_right_is z from store out lines' rs' out' at s =
    record { are = rw s.right (ap (λ (n : ℕ). Ok (record { 0 = n })) s.position, sym s.lines, sym s.records, s.output) }

pub line_wrong_is : (z : WriteState) (from : ℕ) (store : Bool) (out lines' : List ℕ) (rs' : List Record) (out' : List ℕ) (j : ℕ)
    → (z.wrong ≡ Some j) × (store ≡ false → out' ≡ out) → LineWritten z from store out lines' rs' out' (Err j)
line_wrong_is z from store out lines' rs' out' j w = record { are = rw w.0 (refl, w.1) }

pub set_right_is : (z : WriteState) (store : Bool) (out lines' : List ℕ) (rs' : List Record) (out' : List ℕ) (at : BitPosition)
    → Sofar z 0 store out lines' rs' out' at → SetWritten z store out out' (Ok at)
set_right_is z store out lines' rs' out' at s =
    let e : at.0 ≡ length z.bits = omega (arith, s.position) in
    record { are = rw s.right (ap (λ (n : ℕ). Ok (record { 0 = n })) e, s.output) }

pub set_wrong_is : (z : WriteState) (store : Bool) (out out' : List ℕ) (j : ℕ)
    → (z.wrong ≡ Some j) × (store ≡ false → out' ≡ out) → SetWritten z store out out' (Err j)
set_wrong_is z store out out' j w = record { are = rw w.0 (refl, w.1) }

-- ---- two parts

none_put : (store : Bool) (out : List ℕ) (at : ℕ) → out ≡ put_if store out at []
none_put true out at = sym (put_none out at)
none_put false out at = refl

-- the second part starts where the first has ended: with the bits b before it
put_join : (store : Bool) (from at : ℕ) (out out₁ out' : List ℕ) (b l : List Bool) → at ≡ from + length b → out₁ ≡ put_if store out from b
    → Room store out from (b ++ l) → out' ≡ put_if store out₁ at l → out' ≡ put_if store out from (b ++ l)
put_join true from at out out₁ out' b l ea eo h e =
    let room = rw length-append at (h refl) in
    rw (eo, ea, put_more out from b l room) at e
put_join false from at out out₁ out' b l ea eo h e = e ∙ eo

kept_out : (store : Bool) (from : ℕ) (out out₁ out' : List ℕ) (b : List Bool) → out₁ ≡ put_if store out from b → (store ≡ false → out' ≡ out₁)
    → store ≡ false → out' ≡ out
kept_out true from out out₁ out' b eo h e = absurd (false≢true (sym e))
kept_out false from out out₁ out' b eo h e = h e ∙ eo

-- ---- parts one after the other

-- each part adds bits, and leaves a wrong sample the first
pub record Adds (f : ℕ → WriteState → WriteState) : Type 0 where
  pub stays : (i : ℕ) (r : WriteState) (j : ℕ) → r.wrong ≡ Some j → (f i r).wrong ≡ Some j
  pub grows : (i : ℕ) (r : WriteState) → length r.bits ≤ length (f i r).bits

repeats_more : (f : ℕ → WriteState → WriteState) (r : WriteState) (i : ℕ) → repeats f (i + 1) r ≡ f i (repeats f i r)
unfolding repeats
repeats_more f r i = rw add-one

-- what each of them keeps, all of them do
repeats_keep : (f : ℕ → WriteState → WriteState) (r : WriteState) (Q : WriteState → Type 0) → ((i : ℕ) (z : WriteState) → Q z → Q (f i z)) → (i d : ℕ)
    → Q (repeats f i r) → Q (repeats f (i + d) r)
unfolding repeats
repeats_keep f r Q each i zero q = rw add-zero q
repeats_keep f r Q each i (suc d) q = rw add-suc (each (i + d) (repeats f (i + d) r) (repeats_keep f r Q each i d q))

repeats_short : (f : ℕ → WriteState → WriteState) (r : WriteState) (c : ℕ) → ((i : ℕ) (z : WriteState) → length (f i z).bits ≤ length z.bits + c)
    → (n : ℕ)
    → length (repeats f n r).bits ≤ length r.bits + n * c
unfolding repeats
repeats_short f r c each zero = omega arith
repeats_short f r c each (suc n) = omega (arith, each n (repeats f n r), repeats_short f r c each n)

-- part i of m, whose own writing from no bits on is y
module _ (f : ℕ → WriteState → WriteState) (adds : Adds f) (r₀ : WriteState) (i m : ℕ) (lt : i < m) (y : WriteState) (from : ℕ) (store : Bool)
    (out lines : List ℕ) (rs : List Record)
    (out₁ : List ℕ) (at : BitPosition) (so_far : Sofar (repeats f i r₀) from store out lines rs out₁ at) (same : length out₁ ≡ length out)
    (next : f i (repeats f i r₀) ≡ after_bits (repeats f i r₀).bits y) (room : Room store out from (repeats f m r₀).bits) where
  more_is : repeats f (i + 1) r₀ ≡ after_bits (repeats f i r₀).bits y
  more_is = repeats_more f r₀ i ∙ next

  inside : length ((repeats f i r₀).bits ++ y.bits) ≤ length (repeats f m r₀).bits
  inside =
      let e : i + 1 + (m - (i + 1)) ≡ m = omega arith in
      let g : length (repeats f (i + 1) r₀).bits ≤ length (repeats f (i + 1 + (m - (i + 1))) r₀).bits =
      repeats_keep f r₀ (λ (z : WriteState). length (repeats f (i + 1) r₀).bits ≤ length z.bits) (λ k z h. omega (arith, h, adds.grows k z)) (i + 1) (m - (i + 1)) (omega arith) in
      rw (e, more_is) at g

  part_room : Room store out from ((repeats f i r₀).bits ++ y.bits)
  part_room e = omega (arith, inside, room e)

  pub turn_room : Room store out₁ at.0 y.bits
  turn_room e =
      let h = rw length-append at (part_room e) in
      omega (arith, h, same, so_far.position)

  module _ (lines' : List ℕ) (rs' : List Record) (out' : List ℕ) (r : Result BitPosition ℕ) (answer : IsLinePut y.wrong y at.0 store out₁ lines' rs' out' r) where
    pub turn_more : (at' : BitPosition) → r ≡ Ok at' → Sofar (repeats f (i + 1) r₀) from store out lines' rs' out' at'
    turn_more at' ok =
        let s = went y.wrong y at.0 store out₁ lines' rs' out' r at' refl answer ok in
        let p : at'.0 ≡ from + length ((repeats f i r₀).bits ++ y.bits) = rw length-append (omega (arith, s.position, so_far.position)) in
        let o = put_join store from at.0 out out₁ out' (repeats f i r₀).bits y.bits so_far.position so_far.output part_room s.output in
        rw more_is (record { lines = s.lines; records = s.records; right = s.right; position = p; output = o })

    pub turn_wrong : (j : ℕ) → r ≡ Err j → ((repeats f m r₀).wrong ≡ Some j) × (store ≡ false → out' ≡ out)
    turn_wrong j ok =
        let w = was_wrong y.wrong y at.0 store out₁ lines' rs' out' r j answer ok in
        let e : i + 1 + (m - (i + 1)) ≡ m = omega arith in
        let now : (repeats f (i + 1) r₀).wrong ≡ Some j = rw more_is w.0 in
        let g : (repeats f (i + 1 + (m - (i + 1))) r₀).wrong ≡ Some j =
        repeats_keep f r₀ (λ (z : WriteState). z.wrong ≡ Some j) (λ k z h. adds.stays k z j h) (i + 1) (m - (i + 1)) now in
        (rw e at g, kept_out store from out out₁ out' (repeats f i r₀).bits so_far.output w.1)

-- ---- passes

module _ (F : Form) (q : ℕ) (strict : Bool) (t : List ℕ) (n : ℕ) where
  pass_at_wrong : (i : ℕ) (r : WriteState) (j : ℕ) → r.wrong ≡ Some j → (write_pass_at F q strict t n i r).wrong ≡ Some j
  unfolding write_pass_at
  pass_at_wrong i r j e = pass_wrong F.bits q (width_of F.xtrans) strict t n (plan_of F.xtrans i) (enter_writing F (plan_of F.xtrans i) r) j e

  pub passes_add : Adds (write_pass_at F q strict t n)
  passes_add = record { stays = pass_at_wrong; grows = λ i r. rw (pass_at_adds F q strict t n i r, length-append) (omega arith) }

  pub pass_at_within : (i : ℕ) (r : WriteState) → Within (largest F.bits) r.lines → Within (largest F.bits) (write_pass_at F q strict t n i r).lines
  unfolding write_pass_at
  pass_at_within i r h =
      let W : ℕ = width_of F.xtrans in
      let P : Plan = plan_of F.xtrans i in
      let M : ℕ = largest F.bits in
      pass_within F.bits q W strict t n P (enter_writing F P r) (guarded_le M W P.second (guarded W P.first r.lines) (guarded_le M W P.first r.lines h))

  pass_at_short : F.bits ≤ 16 → (i : ℕ) (r : WriteState) → length (write_pass_at F q strict t n i r).bits ≤ length r.bits + 2 ^ 17
  unfolding write_pass_at
  pass_at_short h i r = pass_short F.bits q (width_of F.xtrans) strict t n (plan_of F.xtrans i) (enter_writing F (plan_of F.xtrans i) r) h (width_le F.xtrans)

-- the samples of a pass that have a code
pub pass_wanted : (F : Form) (t : List ℕ) (n i W : ℕ) (P : Plan) → W ≡ width_of F.xtrans → P ≡ plan_of F.xtrans i → i < 6 → SetWanted F t
    → Wanted (largest F.bits) W t n (pass_steps W P)
pass_wanted F t n i W P eW eP below h = rw (eW, eP) (h n i below)

-- the passes of line n, from these lines and records on
module _ (F : Form) (q : ℕ) (strict : Bool) (t : List ℕ) (n : ℕ) (lines₀ : List ℕ) (rs₀ : List Record) where
  pub passes_start : (from : BitPosition) (store : Bool) (out : List ℕ) → Sofar (passes_from F q strict t n 0 lines₀ rs₀) from.0 store out lines₀ rs₀ out from
  unfolding passes_from repeats
  passes_start from store out =
      record { lines = refl; records = refl; right = refl; position = omega arith; output = none_put store out from.0 }

  pub passes_within : (i : ℕ) → Within (largest F.bits) lines₀ → Within (largest F.bits) (passes_from F q strict t n i lines₀ rs₀).lines
  unfolding passes_from repeats
  passes_within zero h = h
  passes_within (suc i) h = pass_at_within F q strict t n i (passes_from F q strict t n i lines₀ rs₀) (passes_within i h)

  pub passes_short : (i : ℕ) → F.bits ≤ 16 → length (passes_from F q strict t n i lines₀ rs₀).bits ≤ i * 2 ^ 17
  unfolding passes_from
  passes_short i h =
      let e : length (passes_from F q strict t n i lines₀ rs₀).bits ≤ 0 + i * 2 ^ 17 =
      repeats_short (write_pass_at F q strict t n) (record { lines = lines₀; records = rs₀; bits = []; wrong = None }) (2 ^ 17) (pass_at_short F q strict t n h) i in
      omega (arith, e)

  pub passes_done : (i from : ℕ) (store : Bool) (out lines' : List ℕ) (rs' : List Record) (out' : List ℕ) (at : BitPosition) → i ≡ 6
      → Sofar (passes_from F q strict t n i lines₀ rs₀) from store out lines' rs' out' at
      → LineWritten (passes_from F q strict t n 6 lines₀ rs₀) from store out lines' rs' out' (Ok at)
  passes_done i from store out lines' rs' out' at e s =
      line_right_is (passes_from F q strict t n 6 lines₀ rs₀) from store out lines' rs' out' at (rw e at s)

  -- pass i, by what was done before it
  module _ (i W : ℕ) (P : Plan) (lt : i < 6) (lines l₁ l₂ : List ℕ) (rs : List Record) (S : Set) (from : ℕ) (store : Bool) (out out₁ : List ℕ)
      (at : BitPosition)
      (so_far : Sofar (passes_from F q strict t n i lines₀ rs₀) from store out lines rs out₁ at) (same : length out₁ ≡ length out)
      (room : Room store out from (passes_from F q strict t n 6 lines₀ rs₀).bits)
      (eW : W ≡ width_of F.xtrans) (eP : P ≡ plan_of F.xtrans i) (e₁ : l₁ ≡ guarded W P.first lines) (e₂ : l₂ ≡ guarded W P.second l₁)
      (eS : records_of S ≡ set_of P.set rs) where
    abbrev own : Writing
    own = write_pass F.bits q W strict t n P (record { lines = l₂; set = records_of S; bits = []; wrong = None })

    abbrev part : WriteState
    part = record { lines = own.lines; records = put_set P.set own.set rs; bits = own.bits; wrong = own.wrong }

    pass_next : write_pass_at F q strict t n i (passes_from F q strict t n i lines₀ rs₀) ≡ after_bits (passes_from F q strict t n i lines₀ rs₀).bits part
    unfolding write_pass_at
    pass_next =
        pass_at_adds F q strict t n i (passes_from F q strict t n i lines₀ rs₀)
        ∙ rw (so_far.lines, so_far.records, so_far.right, ← eP, ← eW, ← e₁, ← e₂, ← eS) refl

    pub pass_room : Room store out₁ at.0 own.bits
    unfolding passes_from
    pass_room =
        turn_room (write_pass_at F q strict t n) (passes_add F q strict t n) (record { lines = lines₀; records = rs₀; bits = []; wrong = None }) i 6 lt part from store out lines rs out₁ at so_far same pass_next room

    pub pass_samples : Within (largest F.bits) lines₀ → Within (largest F.bits) l₂
    pass_samples h =
        let M : ℕ = largest F.bits in
        let k : Within M lines = rw so_far.lines at (passes_within i h) in
        rw (e₂, e₁) (guarded_le M W P.second (guarded W P.first lines) (guarded_le M W P.first lines k))

    pub pass_position : F.bits ≤ 16 → from < 2 ^ 58 → at.0 < 2 ^ 59
    pass_position h small = omega (arith, so_far.position, passes_short i h)

    module _ (lines' out' : List ℕ) (d : Result Written ℕ) (answer : IsPassPut own.wrong own at.0 store out₁ lines' out' d) where
      right_answer : (p : Written) → d ≡ Ok p → IsLinePut own.wrong part at.0 store out₁ lines' (put_set P.set (records_of p.set) rs) out' (Ok p.at)
      right_answer p e = go own.wrong (rw e at answer)
        where
          go : (o : Option ℕ) → IsPassPut o own at.0 store out₁ lines' out' (Ok p)
              → IsLinePut o part at.0 store out₁ lines' (put_set P.set (records_of p.set) rs) out' (Ok p.at)
          go None g = (ap (λ (x : BitPosition). Ok x) g.at, g.lines, rw g.records refl, g.output)
          go (Some j) g = let no : ◌≡◌ {A = ℕ} 0 1 = cc in absurd (omega arith)

      wrong_answer : (j : ℕ) (rs' : List Record) → d ≡ Err j → IsLinePut own.wrong part at.0 store out₁ lines' rs' out' (Err j)
      wrong_answer j rs' e = go own.wrong (rw e at answer)
        where
          go : (o : Option ℕ) → IsPassPut o own at.0 store out₁ lines' out' (Err j) → IsLinePut o part at.0 store out₁ lines' rs' out' (Err j)
          go None g = absurd g
          go (Some i) g =
              let same : j ≡ i = cc in
              (rw same, g.output)

      pub pass_more : (p : Written) → d ≡ Ok p
          → Sofar (passes_from F q strict t n (i + 1) lines₀ rs₀) from store out lines' (put_set P.set (records_of p.set) rs) out' p.at
      unfolding passes_from
      pass_more p e =
          turn_more (write_pass_at F q strict t n) (passes_add F q strict t n) (record { lines = lines₀; records = rs₀; bits = []; wrong = None }) i 6 lt part from store out lines rs out₁ at so_far same pass_next room
          lines' _ out' (Ok p.at) (right_answer p e) p.at refl

      pub pass_failed : (j : ℕ) (rs' : List Record) → d ≡ Err j
          → LineWritten (passes_from F q strict t n 6 lines₀ rs₀) from store out lines' rs' out' (Err j)
      unfolding passes_from
      pass_failed j rs' e =
          line_wrong_is (passes_from F q strict t n 6 lines₀ rs₀) from store out lines' rs' out' j
          (turn_wrong (write_pass_at F q strict t n) (passes_add F q strict t n) (record { lines = lines₀; records = rs₀; bits = []; wrong = None }) i 6 lt part from store out lines rs out₁ at so_far same pass_next room
          lines' rs' out' (Err j) (wrong_answer j rs' e) j refl)

-- ---- lines

module _ (F : Form) (bases t : List ℕ) where
  passes_keep : (n : ℕ) (Q : WriteState → Type 0) → ((i : ℕ) (z : WriteState) → Q z → Q (write_pass_at F (base_of bases n) (is_strict bases) t n i z))
      → (r : WriteState) → Q r → Q (repeats (write_pass_at F (base_of bases n) (is_strict bases) t n) 6 r)
  unfolding repeats
  passes_keep n Q each r q = repeats_keep (write_pass_at F (base_of bases n) (is_strict bases) t n) r Q each 0 6 q

  line_wrong : (n : ℕ) (r : WriteState) (j : ℕ) → r.wrong ≡ Some j → (write_line F bases t n r).wrong ≡ Some j
  unfolding write_line
  line_wrong n r j e = passes_keep n (λ (z : WriteState). z.wrong ≡ Some j) (λ i z h. (passes_add F (base_of bases n) (is_strict bases) t n).stays i z j h) (before_writing F bases n r) e

  pub lines_add : Adds (write_line F bases t)
  lines_add = record { stays = line_wrong; grows = λ n r. rw (line_adds F bases t n r, length-append) (omega arith) }

  pub lines_start : (store : Bool) (out lines : List ℕ) (rs : List Record) → lines ≡ zero_lines (width_of F.xtrans)
      → rs ≡ start_records F.bits (base_of bases 0)
      → Sofar (write_lines F bases t 0) 0 store out lines rs out (record { 0 = 0 })
  unfolding write_lines repeats start_writing
  lines_start store out lines rs el er =
      record { lines = sym el; records = sym er; right = refl; position = refl; output = none_put store out 0 }

  line_within : (n : ℕ) (r : WriteState) → Within (largest F.bits) r.lines → Within (largest F.bits) (write_line F bases t n r).lines
  unfolding write_line
  line_within n r h =
      passes_keep n (λ (z : WriteState). Within (largest F.bits) z.lines) (λ i z k. pass_at_within F (base_of bases n) (is_strict bases) t n i z k) (before_writing F bases n r)
      (turned_le (largest F.bits) (width_of F.xtrans) r.lines h)

  line_short : F.bits ≤ 16 → (n : ℕ) (r : WriteState) → length (write_line F bases t n r).bits ≤ length r.bits + 2 ^ 20
  unfolding write_line
  line_short h n r = omega (arith, repeats_short (write_pass_at F (base_of bases n) (is_strict bases) t n) (before_writing F bases n r) (2 ^ 17) (pass_at_short F (base_of bases n) (is_strict bases) t n h) 6)

  pub lines_within : (n : ℕ) → Within (largest F.bits) (write_lines F bases t n).lines
  unfolding write_lines repeats start_writing
  lines_within zero = zeros_le (largest F.bits) (18 * (width_of F.xtrans + 2))
  lines_within (suc n) = line_within n (write_lines F bases t n) (lines_within n)

  pub lines_short : (n : ℕ) → F.bits ≤ 16 → length (write_lines F bases t n).bits ≤ n * 2 ^ 20
  unfolding write_lines start_writing
  lines_short n h =
      let e : length (write_lines F bases t n).bits ≤ 0 + n * 2 ^ 20 = repeats_short (write_line F bases t) (start_writing F bases) (2 ^ 20) (line_short h) n in
      omega (arith, e)

  pub lines_done : (n count : ℕ) (store : Bool) (out lines' : List ℕ) (rs' : List Record) (out' : List ℕ) (at : BitPosition) → n ≡ count
      → Sofar (write_lines F bases t n) 0 store out lines' rs' out' at → SetWritten (write_lines F bases t count) store out out' (Ok at)
  lines_done n count store out lines' rs' out' at e s = set_right_is (write_lines F bases t count) store out lines' rs' out' at (rw e at s)

  -- line n, by what was done before it
  module _ (n m W q q₀ : ℕ) (b strict : Bool) (lt : n < m) (lines l₁ : List ℕ) (rs rs₁ : List Record) (store : Bool) (out out₁ : List ℕ) (at : BitPosition)
      (so_far : Sofar (write_lines F bases t n) 0 store out lines rs out₁ at) (same : length out₁ ≡ length out)
      (room : Room store out 0 (write_lines F bases t m).bits)
      (eW : W ≡ width_of F.xtrans) (eq : q ≡ q₀) (eq₀ : q₀ ≡ base_of bases n) (es : strict ≡ is_strict bases) (eb : b ≡ is_restarted bases n)
      (el : l₁ ≡ turned W lines) (er : rs₁ ≡ cond b (restarted_main F.bits q₀ rs) rs) where
    line_next : write_line F bases t n (write_lines F bases t n) ≡ after_bits (write_lines F bases t n).bits (passes_from F q strict t n 6 l₁ rs₁)
    unfolding write_line passes_from
    line_next =
        line_adds F bases t n (write_lines F bases t n)
        ∙ rw (so_far.lines, so_far.records, so_far.right, ← eb, ← eq₀, eq, ← es, ← er, ← eW, ← el) refl

    pub line_room : Room store out₁ at.0 (passes_from F q strict t n 6 l₁ rs₁).bits
    unfolding write_lines
    line_room = turn_room (write_line F bases t) lines_add (start_writing F bases) n m lt (passes_from F q strict t n 6 l₁ rs₁) 0 store out lines rs out₁ at so_far same line_next room

    pub line_samples : Within (largest F.bits) l₁
    line_samples =
        let k : Within (largest F.bits) lines = rw so_far.lines at (lines_within n) in
        rw el (turned_le (largest F.bits) W lines k)

    pub line_position : F.bits ≤ 16 → m < 2 ^ 16 → at.0 < 2 ^ 58
    line_position h small = omega (arith, so_far.position, lines_short n h)

    module _ (lines' : List ℕ) (rs' : List Record) (out' : List ℕ) (d : Result BitPosition ℕ)
        (answer : LineWritten (passes_from F q strict t n 6 l₁ rs₁) at.0 store out₁ lines' rs' out' d) where
      pub line_more : (at' : BitPosition) → d ≡ Ok at' → Sofar (write_lines F bases t (n + 1)) 0 store out lines' rs' out' at'
      unfolding write_lines
      line_more =
          turn_more (write_line F bases t) lines_add (start_writing F bases) n m lt (passes_from F q strict t n 6 l₁ rs₁) 0 store out lines rs out₁ at so_far same line_next room lines' rs' out' d answer.are

      pub line_failed : (j : ℕ) → d ≡ Err j → SetWritten (write_lines F bases t m) store out out' (Err j)
      unfolding write_lines
      line_failed j ok =
          set_wrong_is (write_lines F bases t m) store out out' j
          (turn_wrong (write_line F bases t) lines_add (start_writing F bases) n m lt (passes_from F q strict t n 6 l₁ rs₁) 0 store out lines rs out₁ at so_far same line_next room lines' rs' out' d answer.are j ok)

-- a line of a set lies inside it
pub line_size_lem : (W n count : ℕ) (t : List ℕ) → n < count → length t ≡ set_size W count → (n + 1) * line_size W ≤ length t
line_size_lem W n count t lt e = rw e (mul-le-mul_right (line_size W) (omega (arith, lt)))
