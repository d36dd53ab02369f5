-- `image_map::RowSamples::emit_three` meets its contract: three samples, one after the other. Assumes nothing.
use mathlib.Core.List.{List}
use mathlib.Core.Path.{◌≡◌, ◌∙◌}
use Prim.Native.Nat.{ℕ, ◌+◌}
use native.Mathlib.Omega.{arith}
use lib.ListN.{set}
use Rattle.image_map.specs.Starts.{three_put}
use Rattle.image_map.specs.Rows.{sample_by}
use Rattle.image_map.proofs.row_samples.RowSamples.emit_three.Goals as goal

three : (f : ℕ → ℕ) (i p : ℕ) (l₀ l₁ l₂ l₃ : List ℕ) → l₁ ≡ set l₀ i (f p) → l₂ ≡ set l₁ (i + 1) (f (p + 1)) → l₃ ≡ set l₂ (i + 2) (f (p + 2))
    → l₃ ≡ three_put f i p l₀
three f i p l₀ l₁ l₂ l₃ e₁ e₂ e₃ = rw (e₃, e₂, e₁)

pub returns : goal.returns
returns c =
    (three (sample_by c.args.self.now.lines.now c.args.self.now.starts c.args.self.now.xtrans) c.args.i c.args.p c.args.image.now _ _ _ c.emit_sample.ensures.0 c.emit_sample-2.ensures.0 c.emit_sample-3.ensures.0, c.emit_sample-3.ensures.1 ∙ c.emit_sample-2.ensures.1 ∙ c.emit_sample.ensures.1)

pub overflow_add-i : goal.overflow_add-i
overflow_add-i c = omega (arith, c.requires, c.well_formed)

pub overflow_add-column : goal.overflow_add-column
overflow_add-column c = omega (arith, c.requires)

pub overflow_add-p : goal.overflow_add-p
overflow_add-p c = omega (arith, c.requires)

pub overflow_add-i-2 : goal.overflow_add-i-2
overflow_add-i-2 c = omega (
  arith,
  c.requires,
  c.well_formed,
)

pub overflow_add-column-2 : goal.overflow_add-column-2
overflow_add-column-2 c = omega (arith, c.requires)

pub overflow_add-p-2 : goal.overflow_add-p-2
overflow_add-p-2 c = omega (arith, c.requires)

pub shape_of-image : goal.shape_of-image
shape_of-image c = c.emit_sample-3.ensures.1 ∙ (c.emit_sample-2.ensures.1 ∙ c.emit_sample.ensures.1)
