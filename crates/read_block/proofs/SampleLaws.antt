-- Samples stay within 0 to M, in every block. Assumes nothing.
use mathlib.Core.List.{List, [], ◌∷◌, ◌++◌}
use mathlib.Core.Path.{◌≡◌, refl}
use Prim.Native.Nat.{ℕ, zero, suc, ◌+◌, ◌-◌, ◌*◌, ◌≤◌}
use native.Mathlib.Omega.{arith}
use lib.ListN.{get_or, set, take, drop, replicate}
use lib.Seq.{paste, get_or-drop}
use Rattle.quantiser.specs.Quantisers.{largest}
use Rattle.colour_lines.specs.ColourLines.{left_guard, guarded, moved, turned}
use Rattle.image_map.specs.Places.{width_of}
use Rattle.read_pass.specs.Readings.{Reading, read_pass}
use Rattle.pass_schedule.specs.Steps.{plan_of}
use Rattle.pass_schedule.specs.declared.Plan.{Plan}
use Rattle.pass_steps.proofs.ContextLaws.{AllLe}
use Rattle.read_pass.proofs.RangeLaws.{pass_keeps}
use Rattle.pass_steps.proofs.ZipLaws.{set_keeps}
use Rattle.read_block.specs.Blocks.{State, enter, leave, pass_at, start_state, read_lines}
use Rattle.read_block.specs.declared.Form.{Form}
use Rattle.read_block.proofs.KeepLaws.{lines_keep}
use Rattle.std.specs.Prelude.{None, Option, Some}

-- ---- lists of numbers that are at most m

pub zeros_le : (m n : ℕ) → AllLe m (replicate n 0)
zeros_le m zero j = omega arith
zeros_le m (suc n) zero = omega arith
zeros_le m (suc n) (suc j) = zeros_le m n j

-- an entry may be copied to another place
copied_le : (m : ℕ) (l : List ℕ) (to from : ℕ) → AllLe m l → AllLe m (set l to (get_or l from 0))
copied_le m l to from h j = set_keeps (λ (n : ℕ). n ≤ m) l 0 to (get_or l from 0) j (h j) (h from)

-- parts of a list may be taken and joined
take_le : (m n : ℕ) (l : List ℕ) → AllLe m l → AllLe m (take n l)
take_le m zero l h j = omega arith
take_le m (suc n) [] h j = h j
take_le m (suc n) (x ∷ l) h zero = h 0
take_le m (suc n) (x ∷ l) h (suc j) = take_le m n l (λ k. h (suc k)) j

drop_le : (m n : ℕ) (l : List ℕ) → AllLe m l → AllLe m (drop n l)
drop_le m n l h j = rw (get_or-drop n l j 0) (h (n + j))

append_le : (m : ℕ) (k l : List ℕ) → AllLe m k → AllLe m l → AllLe m (k ++ l)
append_le m [] l hk hl j = hl j
append_le m (x ∷ k) l hk hl zero = hk 0
append_le m (x ∷ k) l hk hl (suc j) = append_le m k l (λ i. hk (suc i)) hl j

paste_le : (m : ℕ) (l : List ℕ) (at : ℕ) (s : List ℕ) (n : ℕ) → AllLe m l → AllLe m s → AllLe m (paste l at s n)
paste_le m l at s n hl hs =
    let head : AllLe m (take at l ++ take n s) = append_le m (take at l) (take n s) (take_le m at l hl) (take_le m n s hs) in
    append_le m (take at l ++ take n s) (drop (at + n) l) head (drop_le m (at + n) l hl)

-- ---- colour lines whose samples, guards too, are at most m

pub guarded_le : (m W l : ℕ) (lines : List ℕ) → AllLe m lines → AllLe m (guarded W l lines)
unfolding guarded
guarded_le m W l lines h =
    copied_le m (left_guard W l lines) (l * (W + 2) + (W + 1)) ((l - 1) * (W + 2) + W) (copied_le m lines (l * (W + 2)) ((l - 1) * (W + 2) + 1) h)

moved_le : (m W from to : ℕ) (lines : List ℕ) → AllLe m lines → AllLe m (moved W from to lines)
unfolding moved
moved_le m W from to lines h = paste_le m lines (to * (W + 2)) (drop (from * (W + 2)) lines) (W + 2) h (drop_le m (from * (W + 2)) lines h)

pub turned_le : (m W : ℕ) (lines : List ℕ) → AllLe m lines → AllLe m (turned W lines)
unfolding turned
turned_le m W l h =
    moved_le m W 17 14 _ (moved_le m W 16 13 _ (moved_le m W 12 6 _ (moved_le m W 11 5 _ (moved_le m W 4 1 _ (moved_le m W 3 0 l h)))))

-- ---- passes, lines and blocks

-- every sample of the colour lines, guards too, is at most M
abbrev Within : Form → State → Type 0
Within F r = AllLe (largest F.bits) r.lines

module _ (F : Form) (depth : F.bits ≤ 16) where
  -- a pass keeps them so
  pass_within : (q : ℕ) (s : List ℕ) (i : ℕ) (r z : State) → Within F r → pass_at F q s i r ≡ Some z → Within F z
  unfolding pass_at
  pass_within q s i r z h e =
      go (read_pass F.bits q W s P (enter F P r)) (λ y k. (pass_keeps F.bits q W s depth P (enter F P r) y k).samples entered) e
    where
      W : ℕ
      W = width_of F.xtrans

      P : Plan
      P = plan_of F.xtrans i

      entered : AllLe (largest F.bits) (enter F P r).lines
      entered =
          let first : AllLe (largest F.bits) (guarded W P.first r.lines) = guarded_le (largest F.bits) W P.first r.lines h in
          guarded_le (largest F.bits) W P.second (guarded W P.first r.lines) first

      go : (o : Option Reading) → ((y : Reading) → o ≡ Some y → AllLe (largest F.bits) y.lines) → leave P r o ≡ Some z → Within F z
      go None k f = let no : ◌≡◌ {A = ℕ} 0 1 = cc in absurd (omega arith)
      go (Some y) k f = let same : y.lines ≡ z.lines = cc in rw same at (k y refl)

  -- and a block starts so
  start_within : (bases : List ℕ) → Within F (start_state F bases)
  unfolding start_state
  start_within bases = zeros_le (largest F.bits) (18 * (width_of F.xtrans + 2))

-- after any number of lines of any block, every sample of the colour lines, guards too, is at most M
pub samples_in_range : (F : Form) (bases s : List ℕ) (n : ℕ) (z : State) → F.bits ≤ 16 → read_lines F bases s n ≡ Some z
    → AllLe (largest F.bits) z.lines
samples_in_range F bases s n z depth e =
    lines_keep F s (Within F) (λ q i r y h f. pass_within F depth q s i r y h f) bases
    (λ m r h. turned_le (largest F.bits) (width_of F.xtrans) r.lines h) (start_within F depth bases) n z e
