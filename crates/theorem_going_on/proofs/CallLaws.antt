-- What is known of calls that store or go on, where these are not refused. Assumes nothing.
use borrow.Author.Tests.{ltb-true, ltb-false, leb-false, lt-leb, le-ltb}
use mathlib.Core.Bool.{Bool, true, false, cond}
use mathlib.Core.List.{List}
use mathlib.Core.Path.{◌≡◌, refl, sym, ap, ◌∙◌}
use Prim.Native.Nat.{ℕ, suc, ◌≤◌, ◌<◌}
use native.Mathlib.Nat.{zero-add}
use native.Mathlib.Omega.{arith}
use lib.Dec.{leb, ltb, lit<}
use lib.ListN.{length, get_or, take}
use lib.Seq.{get_or-take, length-take-le}
use Rattle.image_map.specs.Places.{width_of}
use Rattle.stream.specs.Headers.{header_of, all_rules, parse_of}
use Rattle.stream.specs.Streams.{open_of}
use Rattle.stream.specs.declared.header.FujiHeader.{FujiHeader}
use Rattle.stream.specs.declared.header.Refusal.TheVariants.{ShortHeader, BadHeader, Truncated, NoBlock, BadState, ShortOutput}
use Rattle.stream.proofs.StreamLaws.{opened}
use Rattle.image_region.specs.Regions.{checked_of}
use Rattle.image_region.specs.Inside.{Accepted}
use Rattle.image_region.specs.declared.Rect.{Rect}
use Rattle.saved_state.specs.Checkpoints.{Saved, size_of_checkpoint, checkpoint_byte, checkpoint_of}
use Rattle.saved_state.specs.Inside.{IsCheckpoint}
use Rattle.admission.specs.Beginnings.{read_begins, region_begins, with_region}
use Rattle.admission.specs.Resumings.{resume_begins, with_resumed}
use Rattle.saved_state.proofs.PutLaws.{put_length, put_at_lem}
use Rattle.admission.proofs.CallLaws.{region_reads, block_reads}
use Rattle.read_block.specs.Blocks.{State, read_lines}
use Rattle.saved_state.specs.BlockStates.{saved_of}
use Rattle.read_block.specs.Images.{form_of, bytes_in, bases_in, is_read, lines_read, block_answer}
use Rattle.read_block.specs.Lent.{Outputs}
use Rattle.saved_state.specs.Storing.{stored_counted, Storing, StoredBy, LeftStored}
use Rattle.read_block.specs.Totals.{counted, refused_by}
use Rattle.read_block.specs.declared.Counted.{Counted}
use Rattle.read_block.proofs.DecodeLaws.{all_read, was_read}
use Rattle.theorem_going_on.specs.GoingOn.{CanStore, StoresExactly}
use Rattle.std.specs.Prelude.{Err, Ok, Result, Some, None, Option}
use Rattle.stream.specs.declared.header.Refusal.{Refusal}

-- ---- headers

-- the header of a stream is by its first 16 bytes
parsed_is : (d : List ℕ) (h : FujiHeader) → parse_of d ≡ Ok h → header_of d ≡ h
unfolding parse_of
parsed_is d h e = go (ltb (length d) 16) (all_rules d) e
  where
    go : (s t : Bool) → cond s (Err ShortHeader) (cond t (Ok (header_of d)) (Err BadHeader)) ≡ Ok h
        → header_of d ≡ h
    go true t f = absurd (let no : ◌≡◌ {A = ℕ} 0 1 = cc in omega arith)
    go false false f = absurd (let no : ◌≡◌ {A = ℕ} 0 1 = cc in omega arith)
    go false true f = cc

pub header_same : (d d' : List ℕ) (h h' : FujiHeader) → ((i : ℕ) → i < 16 → get_or d i 0 ≡ get_or d' i 0) → open_of d ≡ Ok h
    → open_of d' ≡ Ok h' → h ≡ h'
unfolding header_of
header_same d d' h h' same o o' = sym (parsed_is d h (opened d h o).parsed) ∙ fields ∙ parsed_is d' h' (opened d' h' o').parsed
  where
    fields : header_of d ≡ header_of d'
    fields =
        rw (
          same 2 (lit< tt),
          same 3 (lit< tt),
          same 4 (lit< tt),
          same 5 (lit< tt),
          same 6 (lit< tt),
          same 7 (lit< tt),
          same 8 (lit< tt),
          same 9 (lit< tt),
          same 10 (lit< tt),
          same 11 (lit< tt),
          same 12 (lit< tt),
          same 13 (lit< tt),
          same 14 (lit< tt),
          same 15 (lit< tt),
        )

-- ---- a call that goes on

pub record ResumeAccepted (d : List ℕ) (b : ℕ) (r : Rect) (image : ℕ) (h : FujiHeader) : Type 0 where
  pub opens : open_of d ≡ Ok h
  pub block : b < h.blocks
  pub region : Accepted h r image

module _ (d : List ℕ) (b : ℕ) (r : Rect) (n samples records : ℕ) (h : FujiHeader) where
  pub resume_reads : resume_begins d b r n samples records ≡ Ok (Some h) → ResumeAccepted d b r n h
  unfolding resume_begins region_begins
  resume_reads = from (open_of d) refl
    where
      checked : (g : FujiHeader) → open_of d ≡ Ok g → (t : Bool) → ltb b g.blocks ≡ t
          → cond t (with_region g (checked_of g r n) samples records) (Err NoBlock) ≡ Ok (Some h) → ResumeAccepted d b r n h
      checked g o false l e = absurd (let no : ◌≡◌ {A = ℕ} 0 1 = cc in omega arith)
      checked g o true l e =
          let a = region_reads d r n samples records h (rw o e) in
          let p : Ok g ≡ Ok h = sym o ∙ a.opens in
          let i : g ≡ h = cc in
          record { opens = a.opens; block = rw i at (ltb-true b g.blocks l); region = a.region }

      from : (p : Result FujiHeader Refusal) → open_of d ≡ p → with_resumed p b r n samples records ≡ Ok (Some h) → ResumeAccepted d b r n h
      from (Err x) o e = absurd (let no : ◌≡◌ {A = ℕ} 0 1 = cc in omega arith)
      from (Ok g) o e = checked g o (ltb b g.blocks) refl e

-- ---- a call that stores

module _ (d : List ℕ) (h : FujiHeader) (b n room : ℕ) where
  not_cut : (t : Bool) (x : ℕ) → ◌≡◌ {A = Result Unit Refusal} (cond t (Err (Truncated b x)) (Ok tt)) (Ok tt) → t ≡ false
  not_cut true x e = absurd (let no : ◌≡◌ {A = ℕ} 0 1 = cc in omega arith)
  not_cut false x e = refl

  abbrev answer_by : Bool → Bool → Counted
  answer_by s t =
      cond s (refused_by BadState)
      (cond t (refused_by ShortOutput)
      (counted (form_of h) (bases_in d b) (bytes_in d b) (suc n) (block_answer (form_of h) (bases_in d b) (bytes_in d b) b (suc n))))

  can_store : (stored_counted d b h n room).answer ≡ (Ok tt) → CanStore d h b n room
  unfolding stored_counted
  can_store e = go (leb h.lines n) (ltb room (size_of_checkpoint (width_of h.xtrans))) refl refl e
    where
      go : (s t : Bool) → leb h.lines n ≡ s → ltb room (size_of_checkpoint (width_of h.xtrans)) ≡ t → (answer_by s t).answer ≡ (Ok tt)
          → CanStore d h b n room
      go true t u v f = absurd (let no : ◌≡◌ {A = ℕ} 0 1 = cc in omega arith)
      go false true u v f = absurd (let no : ◌≡◌ {A = ℕ} 0 1 = cc in omega arith)
      go false false u v f =
          let k = lines_read (form_of h) (bases_in d b) (bytes_in d b) (suc n) in
          let y = was_read (form_of h) (bases_in d b) (bytes_in d b) (suc n) (ltb-false k (suc n) (not_cut (ltb k (suc n)) k f)) in
          record {
            line = omega (arith, leb-false h.lines n u);
            long = ltb-false room (size_of_checkpoint (width_of h.xtrans)) v;
            lines = rw y.1;
          }

  -- then the answer has the totals of the lines up to n
  pub stored_by : (z : State) → CanStore d h b n room → read_lines (form_of h) (bases_in d b) (bytes_in d b) (suc n) ≡ Some z
      → stored_counted d b h n room ≡ record { answer = (Ok tt); totals = record { bits = z.at.0; long = z.long } }
  unfolding stored_counted
  stored_by z c e =
      rw (
        lt-leb h.lines n c.line,
        le-ltb room (size_of_checkpoint (width_of h.xtrans)) c.long,
        all_read (form_of h) (bases_in d b) (bytes_in d b) (suc n) z e,
        le-ltb (suc n) (suc n) (omega arith),
        e,
      )

was_some : (o : Option State) → is_read o ≡ true → (z : State) × (o ≡ Some z)
was_some None e = absurd (let no : ◌≡◌ {A = ℕ} 0 1 = cc in omega arith)
was_some (Some z) e = (z, refl)

pub stores_exactly : StoresExactly
stores_exactly d h b n lent lent' answer begins left =
    let s : Storing d b n h lent lent' answer = rw begins at left in (
      λ e. can_store d h b n (length lent.out) (sym (ap (λ (x : Counted). x.answer) s.answered) ∙ e),
      λ c. let z = was_some (read_lines (form_of h) (bases_in d b) (bytes_in d b) (suc n)) c.lines in
          ap (λ (x : Counted). x.answer) (s.answered ∙ stored_by d h b n (length lent.out) z.0 c z.1),
    )

-- the first bytes of what such a call leaves are the state
pub stored_is : (lossless : Bool) (W : ℕ) (z : Saved) (out : List ℕ) → size_of_checkpoint W ≤ length out
    → IsCheckpoint lossless W z (take (size_of_checkpoint W) (checkpoint_of lossless W z out))
stored_is lossless W z out room =
    let n : ℕ = size_of_checkpoint W in
    let e = put_length (checkpoint_byte lossless W z) 0 out n in
    record {
      whole = length-take-le n (checkpoint_of lossless W z out) (omega arith);
      bytes = λ i h. get_or-take n (checkpoint_of lossless W z out) i 0 h ∙ rw (zero-add i) at (put_at_lem (checkpoint_byte lossless W z) 0 out n i 0 h (omega arith));
    }

-- what is known where a call has stored
pub record Stored (d : List ℕ) (b n : ℕ) (h : FujiHeader) (lent' : Outputs) (answer : Counted) : Type 0 where
  pub opens : open_of d ≡ Ok h
  pub line : n < h.lines
  pub state : State
  pub read : read_lines (form_of h) (bases_in d b) (bytes_in d b) (suc n) ≡ Some state
  pub bytes : IsCheckpoint h.lossless (width_of h.xtrans) (saved_of d b n state) (take (size_of_checkpoint (width_of h.xtrans)) lent'.out)
  pub totals : answer.totals ≡ record { bits = state.at.0; long = state.long }

module _ (d : List ℕ) (b n : ℕ) (lent lent' : Outputs) (answer : Counted) (done : answer.answer ≡ (Ok tt)) where
  with_state_lem : (h : FujiHeader) → read_begins d b (length lent.lines) (length lent.records) ≡ Ok h → Storing d b n h lent lent' answer
      → CanStore d h b n (length lent.out) → (z : State) → read_lines (form_of h) (bases_in d b) (bytes_in d b) (suc n) ≡ Some z
      → Stored d b n h lent' answer
  with_state_lem h g left c z e =
      let out : lent'.out ≡ checkpoint_of h.lossless (width_of h.xtrans) (saved_of d b n z) lent.out = left.output ∙ rw (done, e) in
      record {
        opens = (block_reads false d b (length lent.lines) (length lent.records) h g).opens;
        line = c.line;
        state = z;
        read = e;
        bytes = rw out (stored_is h.lossless (width_of h.xtrans) (saved_of d b n z) lent.out c.long);
        totals = ap (λ (x : Counted). x.totals) (left.answered ∙ stored_by d h b n (length lent.out) z c e);
      }

  pub has_stored : LeftStored d b n lent lent' answer → (h : FujiHeader) × Stored d b n h lent' answer
  has_stored = from (read_begins d b (length lent.lines) (length lent.records)) refl
    where
      from : (p : Result FujiHeader Refusal) → read_begins d b (length lent.lines) (length lent.records) ≡ p → StoredBy d b n p lent lent' answer
          → (h : FujiHeader) × Stored d b n h lent' answer
      from (Err x) g left =
          let e : Err x ≡ (Ok tt) = sym (ap (λ (y : Counted). y.answer) left.0) ∙ done in
          absurd (let no : ◌≡◌ {A = ℕ} 0 1 = cc in omega arith)
      from (Ok h) g left =
          let c = can_store d h b n (length lent.out) (sym (ap (λ (x : Counted). x.answer) left.answered) ∙ done) in
          let z = was_some (read_lines (form_of h) (bases_in d b) (bytes_in d b) (suc n)) c.lines in
          (h, with_state_lem h g left c z.0 z.1)
