-- From any bytes that load, samples stay within 0 to M. Assumes nothing.
use mathlib.Core.Bool.{Bool, true, false, cond}
use mathlib.Core.List.{List}
use mathlib.Core.Path.{◌≡◌, refl}
use Prim.Native.Nat.{ℕ, zero, suc, ◌+◌, ◌-◌, ◌*◌, ◌/◌, ◌%◌, ◌≤◌, ◌<◌}
use native.Mathlib.Omega.{arith}
use lib.Arith.{digits_lt}
use lib.Dec.{lit<}
use lib.ListN.{length, get_or}
use Rattle.quantiser.specs.Quantisers.{largest}
use Rattle.colour_lines.specs.ColourLines.{guarded, zero_lines}
use Rattle.image_map.specs.Places.{width_of, sample_index}
use Rattle.pass_schedule.specs.Steps.{plan_of}
use Rattle.pass_schedule.specs.declared.Plan.{Plan}
use Rattle.pass_steps.proofs.ContextLaws.{AllLe, stored_le}
use Rattle.read_pass.specs.Readings.{read_pass}
use Rattle.read_pass.proofs.RangeLaws.{pass_keeps}
use Rattle.stream.specs.declared.header.FujiHeader.{FujiHeader}
use Rattle.stream.specs.declared.header.Refusal.{Refusal}
use Rattle.stream.specs.declared.header.Refusal.TheVariants.{BadState, OtherState}
use Rattle.saved_state.specs.Heads.{put_each}
use Rattle.saved_state.specs.Checkpoints.{kept_line, stored_sample, bad_checkpoint, other_checkpoint, checked_of, next_line, position_in, with_kept, with_six}
use Rattle.saved_state.specs.Checkpoints.{with_guards, loaded_lines}
use Rattle.saved_state.proofs.RangeLaws.{sample_in_range}
use Rattle.read_block.specs.Blocks.{State, enter, pass_at, read_from, lines_of}
use Rattle.saved_state.specs.BlockStates.{loaded_state}
use Rattle.read_block.specs.Images.{form_of, bytes_in, bases_in}
use Rattle.saved_state.specs.Resuming.{resumed_after, resumed_picture}
use Rattle.read_block.specs.declared.Form.{Form}
use Rattle.read_block.proofs.KeepLaws.{left_by, from_keeps}
use Rattle.read_block.proofs.SampleLaws.{zeros_le, guarded_le, turned_le}
use Rattle.std.specs.Prelude.{None, Option, Some, Err, Ok, Result}

-- ---- what is loaded

put_le : (m : ℕ) (f : ℕ → ℕ) (from : ℕ) (l : List ℕ) (n : ℕ) → ((i : ℕ) → i < n → f i ≤ m) → AllLe m l → AllLe m (put_each f from n l)
unfolding put_each
put_le m f from l zero h k = k
put_le m f from l (suc n) h k = stored_le m (put_each f from n l) (from + n) (f n) (h n (omega arith)) (put_le m f from l n (λ i a. h i (omega arith)) k)

loaded_le : (W bits lines bytes : ℕ) (s : List ℕ) → bad_checkpoint W bits lines bytes s ≡ false → AllLe (largest bits) (loaded_lines W s (zero_lines W))
unfolding loaded_lines with_guards with_six
loaded_le W bits lines bytes s good =
    guarded_le M W 17 _ (guarded_le M W 12 _ (guarded_le M W 4 (with_six W s (zero_lines W))
    (kept 5 _ (lit< tt) (kept 4 _ (lit< tt) (kept 3 _ (lit< tt) (kept 2 _ (lit< tt) (kept 1 _ (lit< tt) (kept 0 _ (lit< tt) (zeros_le M (18 * (W + 2)))))))))))
  where
    M : ℕ
    M = largest bits

    kept : (m : ℕ) (l : List ℕ) → m < 6 → AllLe M l → AllLe M (with_kept W s m l)
    kept m l a k =
        put_le M (λ p. stored_sample s (m * W + p)) (kept_line m * (W + 2) + 1) l W
        (λ p b. let e = sample_in_range W bits lines bytes s good (m * W + p) (digits_lt a b) in omega arith) k

-- bytes that load are not bad
pub not_bad : (W bits lines bytes : ℕ) (d : List ℕ) (b : ℕ) (s : List ℕ) (k at : ℕ) → checked_of W bits lines bytes d b s ≡ Ok (k, at)
    → bad_checkpoint W bits lines bytes s ≡ false
unfolding checked_of
not_bad W bits lines bytes d b s k at e = go (bad_checkpoint W bits lines bytes s) e
  where
    go : (t : Bool) → ◌≡◌ {A = Result (ℕ × ℕ) Refusal} (cond t (Err BadState) (cond (other_checkpoint d b s) (Err OtherState) (Ok (next_line s, position_in s)))) (Ok (k, at))
        → t ≡ false
    go true f = absurd (let no : ◌≡◌ {A = ℕ} 0 1 = cc in omega arith)
    go false f = refl

-- ---- what is read from it

module _ (F : Form) (depth : F.bits ≤ 16) (s : List ℕ) where
  abbrev W : ℕ
  W = width_of F.xtrans

  abbrev M : ℕ
  M = largest F.bits

  abbrev Within : State → Type 0
  Within r = AllLe M r.lines

  pass_within : (q i : ℕ) (r z : State) → Within r → pass_at F q s i r ≡ Some z → Within z
  unfolding pass_at
  pass_within q i r z h e =
      let P : Plan = plan_of F.xtrans i in
      left_by Within P r z (read_pass F.bits q W s P (enter F P r))
      (λ y k.
      (pass_keeps F.bits q W s depth P (enter F P r) y k).samples
      (guarded_le M W P.second (guarded W P.first r.lines) (guarded_le M W P.first r.lines h)))
      e

  from_within : (bases : List ℕ) (k m : ℕ) (r z : State) → Within r → read_from F bases s k r m ≡ Some z → Within z
  from_within bases k m r z h e = from_keeps F s Within pass_within bases (λ n x a. turned_le M W x.lines a) k r h m z e

-- each sample that going on shows is at most M
pub resumed_le : (d : List ℕ) (b : ℕ) (h : FujiHeader) (s tile : List ℕ) (row column : ℕ) → h.bits ≤ 16
    → bad_checkpoint (width_of h.xtrans) h.bits h.lines (length (bytes_in d b)) s ≡ false
    → resumed_picture d b h s tile row column ≤ largest h.bits
unfolding resumed_picture loaded_state
resumed_le d b h s tile row column depth good =
    let m : ℕ = suc (row / 6 - next_line s) in
    go (resumed_after d b h s m)
    (λ z e. from_within (form_of h) depth (bytes_in d b) (bases_in d b) (next_line s) m (loaded_state (form_of h) h.lossless (bases_in d b) s) z
    (loaded_le (width_of h.xtrans) h.bits h.lines (length (bytes_in d b)) s good) e)
  where
    i : ℕ
    i = sample_index h.xtrans (width_of h.xtrans) tile (row % 6) (column % 768)

    go : (o : Option State) → ((z : State) → o ≡ Some z → AllLe (largest h.bits) z.lines) → get_or (lines_of o) i 0 ≤ largest h.bits
    go None k = omega arith
    go (Some z) k = k z refl i
