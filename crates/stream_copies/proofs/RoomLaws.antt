-- How a call that makes a stream begins. Assumes nothing.
use borrow.Author.Tests.{lt-ltb, le-ltb, ltb-false, eq-eqb, ne_eqb, eqb-true}
use mathlib.Core.Bool.{Bool, true, false, cond, ◌||◌}
use mathlib.Core.Path.{◌≡◌, refl, sym, ap, ◌∙◌, subst}
use Prim.Native.Nat.{ℕ, ◌≤◌, ◌<◌}
use native.Mathlib.Omega.{arith}
use lib.Dec.{ltb, eqb}
use Rattle.image_map.specs.Places.{width_of}
use Rattle.colour_lines.specs.Sets.{set_size}
use Rattle.stream.specs.Inside.{Ruled}
use Rattle.stream.specs.declared.header.FujiHeader.{FujiHeader}
use Rattle.stream.specs.declared.header.Refusal.{Refusal}
use Rattle.stream.specs.declared.header.Refusal.TheVariants.{WrongCount, ShortScratch, ShortOutput}
use Rattle.stream.specs.Streams.{row_start}
use Rattle.admission.specs.Beginnings.{samples_needed, records_needed, is_short_scratch, with_scratch}
use Rattle.admission.specs.Beginnings.{ScratchFits}
use Rattle.admission.proofs.CallLaws.{clash, scratch_fits}
use Rattle.theorem_whole_streams.specs.Kinds.{with_flag}
use Rattle.theorem_whole_streams.proofs.SameSetsHold.{ruled_flag}
use Rattle.stream_copies.specs.MadeStreams.{with_room}
use Rattle.std.specs.Prelude.{Err, Ok, Result}

module _ (h : FujiHeader) (tight : Bool) (room count samples records : ℕ) (n : ℕ) (en : n ≡ set_size (width_of h.xtrans) h.lines) where
  pub room_count : (count ≡ n → ⊥) → Err WrongCount ≡ with_room h tight room count samples records
  unfolding with_room
  room_count ne = rw (← en, ne_eqb count n ne)

  module _ (ec : count ≡ n) (p : Result FujiHeader Refusal) (ep : p ≡ with_scratch h samples records) where
    pub room_scratch : (x : Refusal) → p ≡ Err x → Err x ≡ with_room h tight room count samples records
    unfolding with_room
    room_scratch x e = rw (← en, eq-eqb count n ec) (go (is_short_scratch h.xtrans samples records) refl (sym ep ∙ e))
      where
        go : (s : Bool) → is_short_scratch h.xtrans samples records ≡ s → cond s (Err ShortScratch) (Ok h) ≡ Err x
            → Err x ≡ cond s (Err ShortScratch) (cond (ltb room (row_start (with_flag tight h) h.blocks))
            (Err ShortOutput) (Ok h))
        go true f g = sym g
        go false f g = let no : ◌≡◌ {A = ℕ} 0 1 = cc in absurd (omega arith)

    pub room_same : (g : FujiHeader) → p ≡ Ok g → (h ≡ g) × ScratchFits h samples records
    room_same g e = scratch_fits h g samples records (sym ep ∙ e)

    pub room_ruled : (g : FujiHeader) → p ≡ Ok g → Ruled h → (k : FujiHeader) → k ≡ with_flag tight g → Ruled k
    room_ruled g e R k ek = rw ek (ruled_flag tight g (subst Ruled (room_same g e).0 R))

    start_is : (g : FujiHeader) → h ≡ g → (k : FujiHeader) → k ≡ with_flag tight g → (m : ℕ) → m ≡ row_start k k.blocks → m ≡ row_start
        (with_flag tight h) h.blocks
    start_is g f k ek m em = em ∙ rw (ek, f)

    pub room_short : (g : FujiHeader) → p ≡ Ok g → (k : FujiHeader) → k ≡ with_flag tight g → (m : ℕ) → m ≡ row_start k k.blocks → room < m
        → Err ShortOutput ≡ with_room h tight room count samples records
    unfolding with_room
    room_short g e k ek m em l =
        let s = room_same g e in
        rw (
          ← en,
          eq-eqb count n ec,
          le-ltb samples (samples_needed h.xtrans) s.1.for_lines,
          le-ltb records records_needed s.1.for_records,
          ← start_is g s.0 k ek m em,
          lt-ltb room m l,
        )

    pub room_on : (g : FujiHeader) → p ≡ Ok g → (k : FujiHeader) → k ≡ with_flag tight g → (m : ℕ) → m ≡ row_start k k.blocks → m ≤ room
        → Ok g ≡ with_room h tight room count samples records
    unfolding with_room
    room_on g e k ek m em l =
        let s = room_same g e in
        rw (
          ← en,
          eq-eqb count n ec,
          le-ltb samples (samples_needed h.xtrans) s.1.for_lines,
          le-ltb records records_needed s.1.for_records,
          ← start_is g s.0 k ek m em,
          le-ltb room m l,
        ) (ap Ok (sym s.0))

-- what holds of a call that makes blocks
pub record RoomAccepted (h g : FujiHeader) (tight : Bool) (room count samples records : ℕ) : Type 0 where
  pub header : h ≡ g
  pub whole : count ≡ set_size (width_of g.xtrans) g.lines
  pub fits : ScratchFits g samples records
  pub front : row_start (with_flag tight g) g.blocks ≤ room

pub room_accepted : (h g : FujiHeader) (tight : Bool) (room count samples records : ℕ) → with_room h tight room count samples records ≡ Ok g
    → RoomAccepted h g tight room count samples records
unfolding with_room
room_accepted h g tight room count samples records =
    go (eqb count (set_size (width_of h.xtrans) h.lines)) (ltb samples (samples_needed h.xtrans)) (ltb records records_needed)
    (ltb room (row_start (with_flag tight h) h.blocks)) refl refl refl refl
  where
    go : (a s t b : Bool) → eqb count (set_size (width_of h.xtrans) h.lines) ≡ a → ltb samples (samples_needed h.xtrans) ≡ s → ltb records
        records_needed ≡ t
        → ltb room (row_start (with_flag tight h) h.blocks) ≡ b
        → cond a (cond (s || t) (Err ShortScratch) (cond b (Err ShortOutput) (Ok h))) (Err WrongCount)
        ≡ Ok g
        → RoomAccepted h g tight room count samples records
    go false s t b p q r u e = clash WrongCount g e
    go true true t b p q r u e = clash ShortScratch g e
    go true false true b p q r u e = clash ShortScratch g e
    go true false false true p q r u e = clash ShortOutput g e
    go true false false false p q r u e =
        let i : h ≡ g = cc in
        subst (λ (x : FujiHeader). RoomAccepted h x tight room count samples records) i
        (record {
          header = refl;
          whole = eqb-true count (set_size (width_of h.xtrans) h.lines) p;
          fits = record { for_lines = ltb-false samples (samples_needed h.xtrans) q; for_records = ltb-false records records_needed r };
          front = ltb-false room (row_start (with_flag tight h) h.blocks) u;
        })
