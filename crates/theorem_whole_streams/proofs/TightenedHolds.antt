-- Tight streams, of sets and of streams. Assumes nothing.
use mathlib.Core.Bool.{Bool, true, false}
use mathlib.Core.List.{List, [], ◌∷◌}
use mathlib.Core.Logic.{◌↔◌}
use mathlib.Core.Path.{◌≡◌, refl, sym, ap, ◌∙◌, subst}
use Prim.Native.Nat.{ℕ, zero, suc, ◌+◌, ◌*◌, ◌^◌, ◌≤◌, ◌<◌}
use native.Mathlib.Omega.{arith}
use lib.ListN.{length, get_or, take, drop, set}
use lib.Seq.{get_or-drop, take_all}
use Rattle.bits.proofs.PackLaws.{length_bytes_of}
use Rattle.stream.specs.Headers.{parse_of}
use Rattle.stream.specs.Inside.{Ruled}
use Rattle.stream.specs.declared.header.FujiHeader.{FujiHeader}
use Rattle.stream.proofs.HeaderLaws.{ruled}
use Rattle.stream.specs.Ranges.{part_of}
use Rattle.stream.specs.Streams.{row_length, open_of, range_of}
use Rattle.stream.proofs.StreamLaws.{opened}
use Rattle.stream.specs.Lengths.{length_bound}
use Rattle.pass_schedule.specs.Steps.{upto}
use Rattle.read_block.specs.Images.{form_of, bytes_in, bases_in}
use Rattle.read_block.specs.TightBlocks.{Tight, set_read}
use Rattle.read_block.specs.declared.Form.{Form}
use Rattle.write_block.specs.WrittenBlocks.{write_lines, written_block, tight_block}
use Rattle.write_block.proofs.WalkLaws.{lines_short}
use Rattle.theorem_one_to_one.specs.Correspondence.{Bytes, Correspondence}
use Rattle.theorem_one_to_one.specs.PredictedSets.{PredictedSet}
use Rattle.theorem_one_to_one.proofs.BoundHolds.{bounds}
use Rattle.theorem_one_to_one.proofs.CorrespondenceHolds.{correspondence_of_headers, no_bases}
use Rattle.theorem_whole_streams.specs.Assembled.{four_bytes, filled, assembled, Parts, Assembling}
use Rattle.theorem_whole_streams.specs.Kinds.{flagged, with_flag, Readable, set_in}
use Rattle.theorem_whole_streams.specs.Tightened.{SameSets, stream_of, TightStream, TightStreams, tight_header, tightened, remade, Tightened}
use Rattle.theorem_whole_streams.specs.Tightened.{TightenedStreams}
use Rattle.theorem_whole_streams.specs.CanonicalForm.{Canonical}
use Rattle.theorem_whole_streams.specs.LengthBounds.{TightenedBound}
use Rattle.theorem_whole_streams.proofs.StandLaws.{upto_same, length_most, bytes_take}
use Rattle.theorem_whole_streams.proofs.AssembledHolds.{assembled_opens}
use Rattle.theorem_whole_streams.proofs.ReadRight.{without_bases, readable_predicted}
use Rattle.theorem_whole_streams.proofs.KindsHold.{flagged_length, flagged_parses, flag_kept}
use Rattle.theorem_whole_streams.proofs.SameSetsHold.{depth_of, sets_decode}
use Rattle.std.specs.Prelude.{Err, Ok, Result}
use Rattle.bits.specs.declared.ByteOffset.{ByteOffset}
use Rattle.stream.specs.declared.header.Refusal.{Refusal}

-- ---- what an assembled stream goes by

pub assembled_same : (d e : List ℕ) (h : FujiHeader) (rows blocks rows' blocks' : ℕ → List ℕ) → take 16 d ≡ take 16 e
    → ((b : ℕ) → b < h.blocks → rows b ≡ rows' b) → ((b : ℕ) → b < h.blocks → blocks b ≡ blocks' b)
    → assembled d h rows blocks ≡ assembled e h rows' blocks'
unfolding assembled
assembled_same d e h rows blocks rows' blocks' head same_rows same =
    rw (
      head,
      upto_same (λ b. four_bytes (length (blocks b))) (λ b. four_bytes (length (blocks' b))) h.blocks
          (λ b l. ap (λ (s : List ℕ). four_bytes (length s)) (same b l)),
      upto_same (λ b. filled (rows b)) (λ b. filled (rows' b)) h.blocks (λ b l. ap (λ (s : List ℕ). filled s) (same_rows b l)),
      upto_same blocks blocks' h.blocks same,
    )

-- a block that is written, with any bases, is shorter than 2^32 bytes
pub written_short : (h : FujiHeader) → Ruled h → (bases t : List ℕ) → length (written_block (form_of h) bases h.lines t) < 2 ^ 32
unfolding written_block
written_short h R bases t =
    let l = lines_short (form_of h) bases t h.lines R.bits_high in
    omega (arith, length_bytes_of (write_lines (form_of h) bases t h.lines).bits, l, R.lines_high)

-- a part of bytes
pub bytes_part : (d : List ℕ) (r : Result (ByteOffset × ℕ) Refusal) → Bytes d → Bytes (part_of d r)
bytes_part d (Ok (from, n)) a = bytes_take n (drop from.0 d) (λ i. rw (get_or-drop from.0 d i 0) (a (from.0 + i)))
bytes_part d (Err r) a = λ i. omega arith

-- ---- of sets

module _ (d : List ℕ) (h : FujiHeader) (e : parse_of d ≡ Ok h) (lossless : h.lossless ≡ true) (sets : ℕ → List ℕ)
    (fit : (b : ℕ) → b < h.blocks → PredictedSet (form_of h) h.lines (sets b)) where
  abbrev F : Form
  F = form_of h

  abbrev block : ℕ → List ℕ
  block b = tight_block F h.lines (sets b)

  C : Correspondence F h.lines
  C = correspondence_of_headers d h e lossless

  parts : Parts h (λ b. []) block
  parts = record { rows_long = λ b l. rw lossless; short = λ b l. written_short h (ruled d h e) [] (sets b) }

  A : Assembling d h (λ b. []) block
  A = assembled_opens d h e (λ b. []) block parts

  is_tight_lem : (b : ℕ) → b < h.blocks → Tight F h.lines (bytes_in (stream_of d h sets) b)
  is_tight_lem b l = rw (A.there.block b l) (C.written (sets b) (fit b l)).1

  pub tight_stream : TightStream d h sets
  tight_stream =
      record {
        readable = record {
          opens = A.there.opens;
          reads = λ b l. let T = is_tight_lem b l in (T.end, rw (A.there.row b l) T.read);
        };
        head = A.head;
        tight = is_tight_lem;
        set = λ b l. rw (A.there.row b l, A.there.block b l) (without_bases F h.lines (block b) ∙ (C.written (sets b) (fit b l)).2);
        bytes = λ hd. A.bytes hd (λ b l. (λ i. omega arith, (C.written (sets b) (fit b l)).0));
      }

pub tight_streams : TightStreams
tight_streams d h e lossless sets fit = tight_stream d h e lossless sets fit

-- ---- of a stream

-- bytes, with another flag
bytes_set : (l : List ℕ) (i v : ℕ) → v < 256 → Bytes l → Bytes (set l i v)
bytes_set [] i v h a j = a j
bytes_set (x ∷ l) zero v h a zero = h
bytes_set (x ∷ l) zero v h a (suc j) = a (suc j)
bytes_set (x ∷ l) (suc i) v h a zero = a 0
bytes_set (x ∷ l) (suc i) v h a (suc j) = bytes_set l i v h (λ k. a (suc k)) j

module _ (d : List ℕ) (h : FujiHeader) (R : Readable d h) where
  abbrev H : FujiHeader
  H = tight_header h

  e : parse_of d ≡ Ok h
  e = (opened d h R.opens).parsed

  e' : parse_of (flagged true d) ≡ Ok H
  e' = flagged_parses true d h e

  fit : (b : ℕ) → b < h.blocks → PredictedSet (form_of h) h.lines (set_in d h b)
  fit b l = readable_predicted (form_of h) (bases_in d b) h.lines (bytes_in d b) (depth_of d h R) (R.reads b l)

  pub T : TightStream (flagged true d) H (set_in d h)
  T = tight_stream (flagged true d) H e' refl (set_in d h) fit

  -- the header's bytes alone
  pub head_is : take 16 (flagged true d) ≡ flagged true d
  head_is = take_all 16 (flagged true d) (omega (arith, flagged_length true d h e))

  -- a stream that starts with them has them
  pub starts : take 16 (tightened d h) ≡ flagged true d
  starts = T.head ∙ head_is

  flagged_again : flagged true (tightened d h) ≡ flagged true d
  flagged_again =
      ap (λ (l : List ℕ). set l 2 1) (starts ∙ sym head_is) ∙ (flag_kept (flagged true d) H e').1 ∙ head_is

  again : tightened (tightened d h) H ≡ tightened d h
  again =
      assembled_same (flagged true (tightened d h)) (flagged true d) H (λ b. []) (λ b. tight_block (form_of h) h.lines (set_in (tightened d h) H b)) (λ b. [])
      (λ b. tight_block (form_of h) h.lines (set_in d h b)) (ap (take 16) flagged_again) (λ b l. refl)
      (λ b l. ap (tight_block (form_of h) h.lines) (T.set b l))

  -- block b of the tight stream
  there : (b : ℕ) → b < h.blocks → bytes_in (tightened d h) b ≡ tight_block (form_of h) h.lines (set_in d h b)
  there b l = (A (flagged true d) H e' refl (set_in d h) fit).there.block b l

  abbrev AllTight : Type 0
  AllTight = (b : ℕ) → b < h.blocks → Tight (form_of h) h.lines (bytes_in d b)

  -- a tight block of a lossless stream is the tight block of its set
  own_block : h.lossless ≡ true → Bytes d → AllTight → (b : ℕ) → b < h.blocks → tight_block (form_of h) h.lines (set_in d h b) ≡ bytes_in d b
  own_block lossless hd tight b l =
      let c : Correspondence (form_of h) h.lines = correspondence_of_headers d h e lossless in
      let w = c.written (set_in d h b) (fit b l) in
      (c.same (tight_block (form_of h) h.lines (set_in d h b)) (bytes_in d b) w.0 (bytes_part d (range_of d b) hd) w.1 (tight b l)).1
      (w.2 ∙ rw (no_bases d h R.opens lossless b) (without_bases (form_of h) h.lines (bytes_in d b)))

  -- a lossless header with its flag set is what it was
  kept : h.lossless ≡ true → (H ≡ h) × (flagged true d ≡ take 16 d)
  kept lossless =
      let k = flag_kept d h e in
      (ap (λ (l : Bool). with_flag l h) (sym lossless) ∙ k.0, ap (λ (l : Bool). flagged l d) (sym lossless) ∙ k.1)

  remade_is : h.lossless ≡ true → ((b : ℕ) → b < h.blocks → tight_block (form_of h) h.lines (set_in d h b) ≡ bytes_in d b) → tightened d h ≡ remade d h
  remade_is lossless own =
      let k = kept lossless in
      ap (λ (x : FujiHeader). assembled (flagged true d) x (λ b. []) (λ b. tight_block (form_of h) h.lines (set_in d h b))) k.0
      ∙ assembled_same (flagged true d) d h (λ b. []) (λ b. tight_block (form_of h) h.lines (set_in d h b)) (λ b. []) (bytes_in d)
      (head_is ∙ k.1) (λ b l. refl) own

  fixed : Bytes d → (tightened d h ≡ d) ↔ ((h.lossless ≡ true) × AllTight × (remade d h ≡ d))
  fixed hd = (
    λ f. let c : Ok H ≡ Ok h = sym T.readable.opens ∙ ap open_of f ∙ R.opens in
        let is : H ≡ h = cc in
        let lossless : h.lossless ≡ true = sym (ap (λ (x : FujiHeader). x.lossless) is) in
        let own : (b : ℕ) → b < h.blocks → tight_block (form_of h) h.lines (set_in d h b) ≡ bytes_in d b = λ b l. sym (there b l) ∙ ap
        (λ (s : List ℕ). bytes_in s b) f in
        (lossless, λ b l. subst (λ (s : List ℕ). Tight (form_of h) h.lines (bytes_in s b)) f (T.tight b l), sym (remade_is lossless own) ∙ f),
    λ f. remade_is f.0 (own_block f.0 hd f.1) ∙ f.2,
  )

  bytes : Bytes d → Bytes (tightened d h)
  bytes hd = T.bytes (bytes_set (take 16 d) 2 1 (omega arith) (bytes_take 16 d hd))

pub tightened_streams : TightenedStreams
tightened_streams d h R =
    let t = T d h R in
    record {
      tight = t;
      same = sets_decode d (tightened d h) h true R t.readable (λ b l. sym (t.set b l));
      bytes = bytes d h R;
      again = again d h R;
      fixed = fixed d h R;
    }

pub canonical : Canonical
canonical d e h lossless R Q head =
    let g : FujiHeader = with_flag lossless h in (
      λ f b l. sym ((T d h R).set b l) ∙ ap (λ (s : List ℕ). set_in s (tight_header h) b) f ∙ (T e g Q).set b l,
      λ same. assembled_same (flagged true d) (flagged true e) (tight_header h) (λ b. []) (λ b. tight_block (form_of h) h.lines (set_in d h b)) (λ b. [])
          (λ b. tight_block (form_of h) h.lines (set_in e g b)) (ap (take 16) head) (λ b l. refl) (λ b l. ap (tight_block (form_of h) h.lines) (same b l)),
    )

pub tightened_bound : TightenedBound
tightened_bound d h R =
    let H : FujiHeader = tight_header h in
    let Z = A (flagged true d) H (e' d h R) refl (set_in d h) (fit d h R) in
    let blocks : ℕ → List ℕ = λ b. tight_block (form_of h) h.lines (set_in d h b) in
    let each : (b : ℕ) → b < h.blocks → length (blocks b) ≤ length_bound h =
    λ b l. bounds (flagged true d) H (e' d h R) refl (blocks b) ((correspondence_of_headers (flagged true d) H (e' d h R) refl).written (set_in d h b)
    (fit d h R b l)).1 in
    omega (arith, Z.size, length_most blocks h.blocks (length_bound h) each h.blocks (omega arith))
