-- A row by where its colour lines begin. Assumes nothing.
use mathlib.Core.Bool.{Bool}
use mathlib.Core.List.{List}
use mathlib.Core.Path.{◌≡◌, refl, ◌∙◌}
use Prim.Native.Nat.{ℕ, ◌+◌, ◌-◌, ◌*◌, ◌%◌, ◌≤◌, ◌<◌}
use native.Mathlib.Nat.{mod-lt}
use native.Mathlib.Omega.{arith}
use lib.Dec.{lit<}
use lib.ListN.{length, get_or, set}
use Rattle.image_map.specs.Places.{place_in, width_of, sample_index}
use Rattle.image_map.specs.Inside.{RowEmitted}
use Rattle.image_map.specs.Rows.{InLines, sample_by}
use Rattle.image_map.proofs.PlaceLaws.{line_inside}
use Rattle.image_map.proofs.RowLaws.{Stored, stored_more}
use Rattle.image_map.specs.Starts.{AreStarts, three_put}

pub index_by : (xtrans : Bool) (W : ℕ) (tile starts : List ℕ) (r q : ℕ) → AreStarts tile r (W + 2) starts
    → get_or starts (q % 6) 0 + place_in xtrans q ≡ sample_index xtrans W tile r q
unfolding sample_index AreStarts
index_by xtrans W tile starts r q S = rw (S (q % 6) (mod-lt q (lit< tt)))

-- where the colour lines begin lies in them
pub starts_inside : (xtrans : Bool) (W : ℕ) (tile starts : List ℕ) (r : ℕ) → AreStarts tile r (W + 2) starts → W ≡ width_of xtrans → r < 6 → InLines W starts
unfolding AreStarts
starts_inside xtrans W tile starts r S e hr j hj = rw (S j hj) (omega (arith, line_inside W (get_or tile (6 * r + j) 0) r hr))

-- the next column of the tile
pub column_next : (q : ℕ) → (q % 6 + 1) % 6 ≡ (q + 1) % 6
column_next q = omega arith

pub row_emitted : (xtrans : Bool) (W : ℕ) (tile lines starts : List ℕ) (r left right at : ℕ) (before after : List ℕ) → AreStarts tile r (W + 2) starts
    → Stored (sample_by lines starts xtrans) left right at before after → RowEmitted xtrans W tile lines r left right at before after
row_emitted xtrans W tile lines starts r left right at before after S F =
    record {
      kept = F.kept;
      entries = λ i. F.entries i ∙ rw (index_by xtrans W tile starts r (left + (i - at)) S);
    }

-- one more sample, with its number and its place given otherwise
stored_at : (f : ℕ → ℕ) (left at : ℕ) (before : List ℕ) (p p' i : ℕ) (after : List ℕ) → Stored f left p at before after → p' ≡ p + 1 → left ≤ p
    → i ≡ at + (p - left) → i < length before
    → Stored f left p' at before (set after i (f p))
stored_at f left at before p p' i after F ep low ei room = rw (ep, ei) (stored_more f left p at (f p) before after F low (omega arith) refl)

-- three samples at once
pub stored_three : (f : ℕ → ℕ) (left at : ℕ) (before : List ℕ) (p p' i : ℕ) (after : List ℕ) → Stored f left p at before after → p' ≡ p + 3 → left ≤ p
    → i ≡ at + (p - left) → i + 3 ≤ length before
    → Stored f left p' at before (three_put f i p after)
stored_three f left at before p p' i after F ep low ei room =
    let s₁ = stored_at f left at before p (p + 1) i after F refl low ei (omega arith) in
    let s₂ = stored_at f left at before (p + 1) (p + 2) (i + 1) _ s₁ (omega arith) (omega arith) (omega arith) (omega arith) in
    stored_at f left at before (p + 2) p' (i + 2) _ s₂ (omega arith) (omega arith) (omega arith) (omega arith)

-- one more sample, and six more
pub stored_one : (f : ℕ → ℕ) (left at : ℕ) (before : List ℕ) (p : ℕ) (x y : List ℕ) → Stored f left p at before x → left ≤ p
    → at + (p - left) < length before → y ≡ set x (at + (p - left)) (f p)
    → Stored f left (p + 1) at before y
stored_one f left at before p x y F low room e = rw e (stored_more f left p at (f p) before x F low room refl)

pub stored_six : (f : ℕ → ℕ) (left at : ℕ) (before : List ℕ) (p : ℕ) (x y z : List ℕ) → Stored f left p at before x → left ≤ p
    → at + (p - left) + 6 ≤ length before → y ≡ three_put f (at + (p - left)) p x → z ≡ three_put f (at + (p - left) + 3) (p + 3) y
    → Stored f left (p + 6) at before z
stored_six f left at before p x y z F low room ey ez =
    let a = stored_three f left at before p (p + 3) (at + (p - left)) x F refl low refl (omega arith) in
    rw (ez, ey) (stored_three f left at before (p + 3) (p + 6) (at + (p - left) + 3) _ a (omega arith) (omega arith) (omega arith) (omega arith))
