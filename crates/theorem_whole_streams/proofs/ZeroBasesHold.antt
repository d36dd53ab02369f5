-- Sets that agree where samples have codes, and whose interpolated samples have their predictions, are the same. So a working copy with bases of 0 has the
-- stream's sets. Assumes nothing.
use mathlib.Core.Bool.{Bool, true, false, not}
use mathlib.Core.List.{List, [], ◌∷◌}
use mathlib.Core.Path.{◌≡◌, refl, sym, ap, ◌∙◌}
use Prim.Native.Nat.{ℕ, zero, suc, ◌%◌, ◌≤◌, ◌<◌}
use native.Mathlib.Nat.{le_refl}
use native.Mathlib.Omega.{arith}
use lib.ListN.{length, get_or, replicate, length-replicate, get_or-replicate}
use Rattle.bits.specs.BitLists.{bytes_of}
use Rattle.stream.specs.Headers.{parse_of}
use Rattle.stream.specs.declared.header.FujiHeader.{FujiHeader}
use Rattle.stream.proofs.StreamLaws.{opened}
use Rattle.pass_schedule.specs.Steps.{Step, plan_of, pass_steps, is_interpolated}
use Rattle.pass_schedule.specs.declared.Plan.{Plan}
use Rattle.pass_schedule.proofs.OrderLaws.{All, all_both, pass_all}
use Rattle.pass_schedule.proofs.PlanLaws.{steps_coded}
use Rattle.colour_lines.specs.Sets.{set_size, line_of_rank, index_in, line_at}
use Rattle.image_map.specs.Places.{width_of}
use Rattle.write_pass.specs.Writings.{Writing, write_step, writes, write_pass}
use Rattle.write_pass.proofs.SetLaws.{lines_passes, index_lt, line_at_lem, colour_line_at_lem, position_at_lem}
use Rattle.write_pass.proofs.WriteLaws.{wanted, write_coded, write_interpolated}
use Rattle.read_block.specs.Images.{form_of, bytes_in, bases_in}
use Rattle.read_block.specs.Records.{base_of}
use Rattle.read_block.specs.TightBlocks.{set_read}
use Rattle.read_block.specs.declared.Form.{Form}
use Rattle.read_block.proofs.LineLaws.{width_in_range}
use Rattle.write_block.specs.WrittenBlocks.{WriteState, repeats, enter_writing, write_pass_at, before_writing, write_line, start_writing, write_lines}
use Rattle.write_block.specs.WrittenBlocks.{written_block, tight_block}
use Rattle.theorem_one_to_one.specs.Correspondence.{Correspondence}
use Rattle.theorem_one_to_one.specs.PredictedSets.{PredictedSet}
use Rattle.theorem_one_to_one.specs.UsedBases.{IsNear}
use Rattle.theorem_one_to_one.proofs.CorrespondenceHolds.{correspondence_of_headers}
use Rattle.theorem_whole_streams.specs.Kinds.{flagged, Readable, set_in}
use Rattle.theorem_whole_streams.specs.LossyCopies.{lossy_header, lossy_copy, LossyCopy}
use Rattle.theorem_whole_streams.specs.Tightened.{tight_header, SameSets}
use Rattle.theorem_whole_streams.specs.ZeroBases.{ZeroBases}
use Rattle.theorem_whole_streams.proofs.KindsHold.{flagged_parses}
use Rattle.theorem_whole_streams.proofs.LossyCopiesHold.{lossy_copies}
use Rattle.theorem_whole_streams.proofs.ReadRight.{readable_predicted}
use Rattle.theorem_whole_streams.proofs.SameSetsHold.{depth_of, sets_decode}

-- ---- writing goes by the samples that have codes, but for what is wrong

abbrev Alike : Writing → Writing → Type 0
Alike r w = (r.lines ≡ w.lines) × (r.set ≡ w.set) × (r.bits ≡ w.bits)

module _ (bits q W : ℕ) (strict : Bool) (t u : List ℕ) (n : ℕ) where
  abbrev SameCoded : Step → Type 0
  SameCoded x = x.coded ≡ true → wanted W t n x ≡ wanted W u n x

  step_alike : (x : Step) (r w : Writing) → SameCoded x → Alike r w → Alike (write_step bits q W strict t n x r) (write_step bits q W strict u n x w)
  step_alike x r w same a = go x.coded refl
    where
      go : (b : Bool) → x.coded ≡ b → Alike (write_step bits q W strict t n x r) (write_step bits q W strict u n x w)
      go true e =
          rw (write_coded bits q W strict t n x r e, write_coded bits q W strict u n x w e, same e, a.0, a.1, a.2) (refl, refl, refl)
      go false e =
          rw (write_interpolated bits q W strict t n x r e, write_interpolated bits q W strict u n x w e, a.0, a.1, a.2) (refl, refl, refl)

  writes_alike : (l : List Step) (r w : Writing) → All SameCoded l → Alike r w → Alike (writes bits q W strict t n l r) (writes bits q W strict u n l w)
  unfolding writes
  writes_alike [] r w s a = a
  writes_alike (x ∷ l) r w s a =
      writes_alike l (write_step bits q W strict t n x r) (write_step bits q W strict u n x w) s.1 (step_alike x r w s.0 a)

abbrev AlikeState : WriteState → WriteState → Type 0
AlikeState r w = (r.lines ≡ w.lines) × (r.records ≡ w.records) × (r.bits ≡ w.bits)

-- the samples that have a code, in the lines of a set
abbrev SameSamples : Form → ℕ → List ℕ → List ℕ → Type 0
SameSamples F lines t u =
    (n c p : ℕ) → n < lines → c < 12 → p < width_of F.xtrans → is_interpolated F.xtrans (line_of_rank c) p ≡ false
    → get_or t (index_in (width_of F.xtrans) n (line_of_rank c) p) 0 ≡ get_or u (index_in (width_of F.xtrans) n (line_of_rank c) p) 0

not_true : (b : Bool) → not b ≡ true → b ≡ false
not_true true e = sym e
not_true false e = refl

module _ (F : Form) (lines : ℕ) (t u : List ℕ) (same : SameSamples F lines t u) where
  abbrev W : ℕ
  W = width_of F.xtrans

  even : W % 2 ≡ 0
  even = (width_in_range F.xtrans W refl).2

  module _ (n : ℕ) (hn : n < lines) where
    abbrev Shown : ℕ → ℕ → Type 0
    Shown l p = is_interpolated F.xtrans l p ≡ false → get_or t (index_in W n l p) 0 ≡ get_or u (index_in W n l p) 0

    steps_agree : (i : ℕ) → i < 6 → All (SameCoded F.bits 0 W true t u n) (pass_steps W (plan_of F.xtrans i))
    steps_agree i hi =
        let L = lines_passes F.xtrans (λ l. (p : ℕ) → p < W → Shown l p) (λ c hc p hp. same n c p hn hc hp) i hi in
        all_both (pass_steps W (plan_of F.xtrans i)) (pass_all W (plan_of F.xtrans i) even Shown (λ p hp. (L.0 p hp, L.1 p hp)))
        (steps_coded F.xtrans W i hi)
        (λ x a b e. a (not_true (is_interpolated F.xtrans x.line x.position) (sym b ∙ e)))

    passes_alike : (q : ℕ) (strict : Bool) (k : ℕ) → k ≤ 6 → (r w : WriteState) → AlikeState r w
        → AlikeState (repeats (write_pass_at F q strict t n) k r) (repeats (write_pass_at F q strict u n) k w)
    unfolding repeats write_pass_at write_pass
    passes_alike q strict zero h r w a = a
    passes_alike q strict (suc k) h r w a =
        let P : Plan = plan_of F.xtrans k in
        let r' : WriteState = repeats (write_pass_at F q strict t n) k r in
        let w' : WriteState = repeats (write_pass_at F q strict u n) k w in
        let a' : AlikeState r' w' = passes_alike q strict k (omega arith) r w a in
        let b = writes_alike F.bits q W strict t u n (pass_steps W P) (enter_writing F P r') (enter_writing F P w') (steps_agree k h)
        (rw a'.0, rw a'.1, a'.2) in
        (b.0, rw (b.1, a'.1), b.2)

  lines_alike : (bases : List ℕ) (n : ℕ) → n ≤ lines → AlikeState (write_lines F bases t n) (write_lines F bases u n)
  unfolding write_lines write_line repeats
  lines_alike bases zero h = (refl, refl, refl)
  lines_alike bases (suc n) h =
      let a = lines_alike bases n (omega arith) in
      passes_alike n h _ _ 6 (le_refl 6) (before_writing F bases n (write_lines F bases t n)) (before_writing F bases n (write_lines F bases u n))
      (rw a.0, rw a.1, a.2)

  blocks_alike : tight_block F lines t ≡ tight_block F lines u
  unfolding written_block
  blocks_alike = ap bytes_of (lines_alike [] lines (le_refl lines)).2

  pub sets_alike : Correspondence F lines → PredictedSet F lines t → PredictedSet F lines u → t ≡ u
  sets_alike C ft fu = sym (C.written t ft).2 ∙ ap (set_read F lines) blocks_alike ∙ (C.written u fu).2

-- ---- a working copy

module _ (d : List ℕ) (h : FujiHeader) (R : Readable d h) (bases : ℕ → List ℕ) (zeros : (b : ℕ) → b < h.blocks → bases b ≡ replicate h.lines 0) where
  abbrev S : List ℕ
  S = lossy_copy d h bases

  abbrev H : FujiHeader
  H = lossy_header h

  abbrev width : ℕ
  width = width_of h.xtrans

  C : LossyCopy d h bases
  C = lossy_copies d h R bases (λ b l. ap length (zeros b l) ∙ length-replicate h.lines 0)

  near_same : (b n v w : ℕ) → b < h.blocks → n < h.lines → IsNear (base_of (bases b) n) v w → v ≡ w
  near_same b n v w hb hn near =
      let z : base_of (bases b) n ≡ 0 = rw (zeros b hb) (get_or-replicate h.lines n 0 0 hn) in
      omega (arith, near.0, near.1, z)

  samples : (b : ℕ) → b < h.blocks → SameSamples (form_of h) h.lines (set_in d h b) (set_in S H b)
  samples b hb n c p hn hc hp f =
      let j : ℕ = index_in width n (line_of_rank c) p in
      let e = line_at_lem width n c p hc hp in
      near_same b n (get_or (set_in d h b) j 0) (get_or (set_in S H b) j 0) hb hn
      (rw e at (C.near b j hb (index_lt width n c p hc hp h.lines hn) (rw (colour_line_at_lem width n c p hc hp, position_at_lem width n c p hc hp) f)))

  same : SameSets d S h H
  same b hb =
      let depth = depth_of d h R in
      sets_alike (form_of h) h.lines (set_in d h b) (set_in S H b) (samples b hb)
      (correspondence_of_headers (flagged true d) (tight_header h) (flagged_parses true d h (opened d h R.opens).parsed) refl)
      (readable_predicted (form_of h) (bases_in d b) h.lines (bytes_in d b) depth (R.reads b hb))
      (readable_predicted (form_of h) (bases_in S b) h.lines (bytes_in S b) depth (C.stream.readable.reads b hb))

pub zero_bases : ZeroBases
zero_bases d h R bases zeros =
    let k = same d h R bases zeros in
    (k, sets_decode d (lossy_copy d h bases) h false R (C d h R bases zeros).stream.readable k)
