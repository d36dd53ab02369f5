-- Both entries agree on the same call, by what each promises. Assumes nothing.
use borrow.Author.Tests.{ltb-true, le-leb}
use mathlib.Core.Bool.{Bool, true, false, cond, ◌&&◌, and-false}
use mathlib.Core.List.{List}
use mathlib.Core.Path.{◌≡◌, refl, sym, ap, ◌∙◌}
use Prim.Native.Nat.{ℕ, ◌+◌, ◌*◌}
use native.Mathlib.Omega.{arith}
use lib.Dec.{ltb}
use lib.ListN.{length}
use Rattle.image_map.proofs.PartLaws.{by_test, never}
use Rattle.stream.specs.Streams.{open_of}
use Rattle.stream.specs.declared.header.FujiHeader.{FujiHeader}
use Rattle.stream.specs.declared.header.Refusal.TheVariants.{ShortScratch}
use Rattle.image_region.specs.Regions.{block_of, last_block, checked_of}
use Rattle.image_region.specs.declared.Rect.{Rect}
use Rattle.admission.specs.Beginnings.{is_short_scratch, begun, with_region, with_stream, region_begins}
use Rattle.read_block.specs.Images.{read_in, line_of, is_decoded, decoded_sample, Decoding, Left}
use Rattle.read_block.specs.Lent.{Buffers}
use Rattle.read_block.specs.WindowedImages.{is_reached, reached_sample, WindowedDecoding, LeftWindowed}
use Rattle.read_block.specs.WindowedAgreement.{SameSamples, EntriesAgree}
use Rattle.std.specs.Prelude.{Err, None, Ok, Option, Result, Some}
use Rattle.image_region.specs.declared.Span.{Span}
use Rattle.stream.specs.declared.header.Refusal.{Refusal}

-- ---- lines that were read

module _ (d : List ℕ) (h : FujiHeader) (r : Rect) (e i : ℕ) where
  abbrev is_line_read : Bool
  is_line_read = ltb (line_of r i) (read_in d h r (block_of r i))

  same_reach : is_line_read ≡ true → is_reached d h r e i ≡ is_decoded d h r e i
  unfolding is_reached is_decoded
  same_reach t =
      let l = ltb-true (line_of r i) (read_in d h r (block_of r i)) t in
      rw (t, le-leb (line_of r i) (read_in d h r (block_of r i)) (omega arith))

  not_decoded : is_line_read ≡ false → is_decoded d h r e i ≡ false
  unfolding is_decoded
  not_decoded t = rw (t, and-false (ltb i (r.width * r.height) && ltb (block_of r i) e))

  reached_is : (tile : List ℕ) → is_line_read ≡ true → reached_sample d h r tile i ≡ decoded_sample d h r tile i
  unfolding reached_sample
  reached_is tile t = rw t

-- ---- where both read

module _ (d : List ℕ) (h : FujiHeader) (r : Rect) (tile : List ℕ) (before after before' after' : Buffers) (answer answer' : Result Unit Refusal)
    (same : before'.image ≡ before.image) (D : Decoding d h r tile before after answer) (D' : WindowedDecoding d h r tile before' after' answer') where
  abbrev e : ℕ
  e = last_block r + 1

  both_read : SameSamples d h r after.image after'.image
  both_read =
      record {
        accepted = λ i t. by_test (is_line_read d h r e i)
            (λ u. D'.pictured.entries i ∙ rw (same_reach d h r e i u, t, reached_is d h r e i tile u) (sym (D.pictured.entries i ∙ rw t)))
            (λ u. absurd (never (is_decoded d h r e i) t (not_decoded d h r e i u)));
        unreached = λ i t.
            let off : is_decoded d h r e i ≡ false = by_test (is_line_read d h r e i) (λ u. sym (same_reach d h r e i u) ∙ t) (not_decoded d h r e i) in
            D'.pictured.entries i ∙ rw (t, same) (sym (D.pictured.entries i ∙ rw off));
      }

-- ---- by how the calls begin

module _ (d : List ℕ) (r : Rect) (tile : List ℕ) (before after before' after' : Buffers) (answer answer' : Result Unit Refusal)
    (same : before'.image ≡ before.image) (long : answer ≡ Err ShortScratch → ⊥) (long' : answer' ≡ Err ShortScratch → ⊥) where
  abbrev Agree : Type 0
  Agree = (answer' ≡ answer) × ((h : FujiHeader) → open_of d ≡ Ok h → SameSamples d h r after.image after'.image)

  -- neither read: the images are as they were
  neither : (x : Result Unit Refusal) → (answer ≡ x) × (after ≡ before) → (answer' ≡ x) × (after' ≡ before') → Agree
  neither x l l' =
      let f : after'.image ≡ after.image = ap (λ (b : Buffers). b.image) l'.1 ∙ same ∙ sym (ap (λ (b : Buffers). b.image) l.1) in
      (l'.0 ∙ sym l.0, λ h o. record { accepted = λ i t. rw f; unreached = λ i t. rw f })

  module _ (n n' m m' : ℕ) where
    -- refusal 10, or both read
    scratched : (g : FujiHeader) → open_of d ≡ Ok g → (s t : Bool)
        → Left d r tile (begun (cond s (Err ShortScratch) (Ok g))) before after answer
        → LeftWindowed d r tile (begun (cond t (Err ShortScratch) (Ok g))) before' after' answer' → Agree
    scratched g o true t l l' = absurd (long l.0)
    scratched g o false true l l' = absurd (long' l'.0)
    scratched g o false false l l' =
        (l'.answered ∙ sym l.answered, λ h p. let k : g ≡ h = cc in rw k at (both_read d g r tile before after before' after' answer answer' same l l'))

    checked : (g : FujiHeader) → open_of d ≡ Ok g → (c : Result (Option Span) Refusal) → Left d r tile (with_region g c n m) before after answer
        → LeftWindowed d r tile (with_region g c n' m') before' after' answer' → Agree
    checked g o (Err x) l l' = neither (Err x) l l'
    checked g o (Ok None) l l' = neither _ l l'
    checked g o (Ok (Some s)) l l' = scratched g o (is_short_scratch g.xtrans n m) (is_short_scratch g.xtrans n' m') l l'

    opened : (k k' : ℕ) → k' ≡ k → (p : Result FujiHeader Refusal) → open_of d ≡ p → Left d r tile (with_stream p r k n m) before after answer
        → LeftWindowed d r tile (with_stream p r k' n' m') before' after' answer' → Agree
    opened k k' e (Err x) o l l' = neither (Err x) l l'
    opened k k' e (Ok g) o l l' = checked g o (checked_of g r k) l (rw e at l')

pub entries_agree : EntriesAgree
unfolding region_begins
entries_agree d r tile before after before' after' answer answer' same l l' long long' =
    opened d r tile before after before' after' answer answer' same long long' (length before.lines) (2 * length before'.lines) (length before.records)
    (length before'.records) (length before.image) (length before'.image) (ap length same) (open_of d) refl l l'
