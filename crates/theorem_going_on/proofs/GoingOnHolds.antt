-- Going on from a stored state gives what the reading from the top gives, and from any bytes samples in range: of calls, by what each promises.
-- Assumes nothing.
use borrow.Author.Tests.{leb-true, ltb-true, eqb-true, le-leb, lt-ltb, eq-eqb}
use mathlib.Core.Bool.{Bool, true, ◌&&◌}
use mathlib.Core.List.{List}
use mathlib.Core.Path.{◌≡◌, sym, ap, ◌∙◌}
use Prim.Native.Nat.{ℕ, suc, ◌+◌, ◌-◌, ◌*◌, ◌/◌, ◌%◌, ◌≤◌, ◌<◌}
use native.Mathlib.Omega.{arith}
use lib.Dec.{leb, ltb, eqb}
use lib.ListN.{length, take}
use Rattle.numbers.proofs.BoolLaws.{both}
use Rattle.image_map.specs.Places.{width_of}
use Rattle.image_map.proofs.PartLaws.{by_test}
use Rattle.stream.specs.declared.header.FujiHeader.{FujiHeader}
use Rattle.image_map.proofs.ChangeLaws.{changed_as}
use Rattle.stream.proofs.StreamLaws.{opened}
use Rattle.image_region.specs.Regions.{block_of, first_block, last_block, line_count}
use Rattle.image_region.specs.Inside.{Accepted}
use Rattle.image_region.specs.declared.Rect.{Rect}
use Rattle.image_region.proofs.RegionLaws.{block_touched}
use Rattle.saved_state.specs.Checkpoints.{size_of_checkpoint, next_line}
use Rattle.read_block.specs.Blocks.{State, read_lines}
use Rattle.read_block.specs.Images.{form_of, bytes_in, bases_in, read_in, line_of, is_decoded, decoded_sample}
use Rattle.saved_state.specs.Resuming.{lines_resumed, is_touched, resumed_in, is_resumed, resumed_sample, checked_in, Resumed, Resuming}
use Rattle.read_block.specs.declared.Counted.{Counted}
use Rattle.theorem_going_on.specs.GoingOn.{is_later, AsFromTop, GoingOn, InRangeFromAny}
use Rattle.theorem_going_on.proofs.CallLaws.{header_same, resume_reads, Stored, has_stored}
use Rattle.theorem_going_on.proofs.RangeLaws.{not_bad, resumed_le}
use Rattle.theorem_going_on.proofs.ResumedLaws.{Holds, block_short, loads, next_is, Reach, ended, goes, reach, answer_same, untouched_done, sample_same}
use Rattle.theorem_going_on.proofs.TotalLaws.{totals_same}

-- ---- from a state that was stored

module _ (d : List ℕ) (h : FujiHeader) (b n : ℕ) (z : State) (c : List ℕ) (g : Holds d h b n z c) (r : Rect) (room : ℕ) (ok : Accepted h r room) where
  abbrev next : next_line c ≡ suc n
  next = next_is d h b n z c g

  -- an entry of the block is of a touched block
  touched : (i : ℕ) → block_of r i ≡ b → is_touched r b ≡ true
  touched i e =
      let t = block_touched h r room ok i in
      rw (le-leb (first_block r) b (omega (arith, t.0, e)), le-leb b (last_block r) (omega (arith, t.1, e)))

  -- the line after those that are read now
  abbrev past : ℕ
  past = next_line c + lines_resumed d b h c (line_count r - next_line c)

  -- its line is read now exactly if it is a later one that the reading from the top reads
  now_read : (x : ℕ) → suc n ≤ x → (x < past → x < read_in d h r b) × (x < read_in d h r b → x < past)
  now_read x l = by (reach d h b n z c g r)
    where
      by : Reach d h b n z c g r → (x < past → x < read_in d h r b) × (x < read_in d h r b → x < past)
      by (ended k e f) = (λ u. absurd (omega (arith, l, u, e, next)), λ u. absurd (omega (arith, l, u, f, k)))
      by (goes k e) = ((λ u. omega (arith, u, e, next)), λ u. omega (arith, u, e, next))

  module _ (i : ℕ) where
    abbrev inside : Bool
    inside = ltb i (r.width * r.height)

    abbrev ours : Bool
    ours = eqb (block_of r i) b

    -- what a later entry is
    is_later_lem : is_later d h r b n i ≡ true → (block_of r i ≡ b) × (suc n ≤ line_of r i) × (is_decoded d h r (last_block r + 1) i ≡ true)
    is_later_lem t =
        let p = both (ours && ltb n (line_of r i)) (is_decoded d h r (last_block r + 1) i) t in
        let q = both ours (ltb n (line_of r i)) p.0 in
        (eqb-true (block_of r i) b q.0, ltb-true n (line_of r i) q.1, p.1)

    now : is_later d h r b n i ≡ true → is_resumed d b h c r i ≡ true
    unfolding is_resumed is_decoded
    now t =
        let f = is_later_lem t in
        let u = both (inside && ltb (block_of r i) (last_block r + 1)) (ltb (line_of r i) (read_in d h r (block_of r i))) f.2 in
        let w = both inside (ltb (block_of r i) (last_block r + 1)) u.0 in
        let e : block_of r i ≡ b = f.0 in
        let k : line_of r i < read_in d h r b = ltb-true (line_of r i) (read_in d h r b) (rw e at u.1) in
        rw (
          w.0,
          eq-eqb (block_of r i) b e,
          le-leb (next_line c) (line_of r i) (omega (arith, f.1, next)),
          touched i e,
          lt-ltb (line_of r i) past ((now_read (line_of r i) f.1).1 k),
        )

    later : is_resumed d b h c r i ≡ true → is_later d h r b n i ≡ true
    unfolding is_resumed is_decoded
    later t =
        let p = both (inside && ours && leb (next_line c) (line_of r i)) (ltb (line_of r i) (next_line c + resumed_in d b h c r)) t in
        let q = both (inside && ours) (leb (next_line c) (line_of r i)) p.0 in
        let u = both inside ours q.0 in
        let e : block_of r i ≡ b = eqb-true (block_of r i) b u.1 in
        let m : suc n ≤ line_of r i = omega (arith, leb-true (next_line c) (line_of r i) q.1, next) in
        let k : ltb (line_of r i) past ≡ true = rw (touched i e) at p.1 in
        let v : line_of r i < read_in d h r b = (now_read (line_of r i) m).0 (ltb-true (line_of r i) past k) in
        rw (
          u.1,
          lt-ltb n (line_of r i) m,
          u.0,
          lt-ltb (block_of r i) (last_block r + 1) (omega (arith, (block_touched h r room ok i).1)),
          e,
          lt-ltb (line_of r i) (read_in d h r b) v,
        )

    shown : (tile : List ℕ) → is_later d h r b n i ≡ true → resumed_sample d b h c r tile i ≡ decoded_sample d h r tile i
    shown tile t =
        let f = is_later_lem t in
        sample_same d h b n z c g tile (r.y + i / r.width) (r.x + i % r.width) f.0 f.1

  pub as_from_top : (tile image image' : List ℕ) (stored resumed : Counted) → stored.totals ≡ record { bits = z.at.0; long = z.long }
      → Resumed d b h c r tile (checked_in d b h c) image image' resumed → AsFromTop d h b n r tile image image' stored resumed
  as_from_top tile image image' stored resumed kept left =
      let got = rw (loads d h b n z c g) at left in
      let t = totals_same d h b n z c g r in
      record {
        answered =
            ap (λ (x : Counted). x.answer) got.0
            ∙ by_test (is_touched r b)
            (λ e. answer_same d h b n z c g r e ∙ rw e)
            (λ e. untouched_done d h b n z c g r e ∙ rw e);
        pictured =
            changed_as (is_resumed d b h c r) (is_later d h r b n) (resumed_sample d b h c r tile) (decoded_sample d h r tile) image image'
            (λ i e. let k = later i e in (k, shown i tile k)) now got.1;
        bits = rw (kept, got.0) t.0;
        long = rw (kept, got.0) t.1;
      }

pub going_on : GoingOn
going_on d d' h b n r tile lent lent' before after stored resumed bytes same calls =
    let s = has_stored d b n lent lent' stored calls.done calls.stores in
    let a = resume_reads d' b r (length before.image) (length before.lines) (length before.records) h calls.begins in
    let e : s.0 ≡ h = header_same d d' s.0 h same.header s.1.opens a.opens in
    by s.0 e s.1
  where
    by : (g : FujiHeader) → g ≡ h → Stored d b n g lent' stored → AsFromTop d' h b n r tile before.image after.image stored resumed
    by g e s' =
        let s : Stored d b n h lent' stored = rw e at s' in
        let a = resume_reads d' b r (length before.image) (length before.lines) (length before.records) h calls.begins in
        let c : List ℕ = take (size_of_checkpoint (width_of h.xtrans)) lent'.out in
        let left : Resuming d' b h c r tile before after resumed = rw calls.begins at calls.goes in
        as_from_top d' h b n s.state c
        (record {
          opens = a.opens;
          block = a.block;
          short = block_short d' h b a.opens a.block bytes;
          line = s.line;
          read =
              ap (λ (x : List ℕ). read_lines (form_of h) x (bytes_in d' b) (suc n)) (sym same.bases)
              ∙ ap (λ (x : List ℕ). read_lines (form_of h) (bases_in d b) x (suc n)) (sym same.bytes) ∙ s.read;
          from = d;
          same = same.header;
          bytes = s.bytes;
        })
        r (length before.image) a.region tile before.image after.image stored resumed s.totals left.resumed

-- ---- from any bytes

pub in_range_from_any : InRangeFromAny
in_range_from_any d h b s r tile before after answer k at i begins left checked filled =
    let a = resume_reads d b r (length before.image) (length before.lines) (length before.records) h begins in
    let u = (opened d h a.opens).ruled in
    let g : Resuming d b h s r tile before after answer = rw begins at left in
    let got = rw checked at g.resumed in
    let good = not_bad (width_of h.xtrans) h.bits h.lines (length (bytes_in d b)) d b s k at checked in
    rw (got.1.entries i, filled) (resumed_le d b h s tile (r.y + i / r.width) (r.x + i % r.width) u.bits_high good)
