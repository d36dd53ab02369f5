-- `saved_state::blocks::put_walked` meets its contract, by what was read. Assumes nothing.
use borrow.Author.Rules.{rules}
use mathlib.Core.List.{List}
use mathlib.Core.Path.{◌≡◌}
use Prim.Native.Nat.{ℕ}
use Rattle.statistics.specs.declared.Record.{Record}
use Rattle.line_totals.specs.declared.Totals.{Totals}
use Rattle.line_totals.specs.declared.TightLines.{TightLines}
use Rattle.image_map.specs.Places.{width_of}
use Rattle.stream.specs.declared.header.FujiHeader.{FujiHeader}
use Rattle.saved_state.specs.Checkpoints.{checkpoint_of}
use Rattle.saved_state.specs.Calls.{StoredWalk}
use Rattle.saved_state.proofs.blocks.put_walked.Goals as goal
use Rattle.std.specs.Prelude.{Err, Ok, Result}

module _ (d : List ℕ) (b n : ℕ) (h : FujiHeader) (lines : List ℕ) (rs : List Record) (out out' : List ℕ) (w : Result (Totals × TightLines) (ℕ × Totals)) where
  read : (all : Totals) (tight : TightLines) → w ≡ Ok (all, tight)
      → out' ≡ checkpoint_of h.lossless (width_of h.xtrans) (record { stream = d; block = b; line = n; at = all.bits; records = rs; lines = lines }) out
      → StoredWalk d b n h w lines rs out out'
  read all tight e p = rw e p

  cut : (line : ℕ) (t : Totals) → w ≡ Err (line, t) → out' ≡ out → StoredWalk d b n h w lines rs out out'
  cut line t e p = rw e p

pub returns-in-Err : goal.returns-in-Err
returns-in-Err c =
    cut c.args.d.now c.args.b c.args.line c.args.h c.args.lines.now c.args.rs.now _ _ c.args.got _ _ c.in-Err.is
    (search rules)

pub returns-in-Ok : goal.returns-in-Ok
returns-in-Ok c =
    read c.args.d.now c.args.b c.args.line c.args.h c.args.lines.now c.args.rs.now _ _ c.args.got _ _
    c.in-Ok.is c.put_state.ensures
