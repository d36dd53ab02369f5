-- `read_block::records::restarted_record` meets its contract. Assumes nothing.
use borrow.Author.Tests.{lt-ltb, le-ltb, leb-true, leb-false}
use mathlib.Core.Bool.{Bool, true, false, cond}
use mathlib.Core.Path.{◌≡◌, sym, ◌∙◌}
use Prim.Native.Nat.{ℕ, ◌%◌}
use lib.Dec.{leb, ltb}
use Rattle.statistics.specs.declared.Record.{Record}
use Rattle.read_block.specs.Records.{start_record}
use Rattle.read_block.proofs.records.restarted_record.Goals as goal

module _ (old : Record) (bits base j : ℕ) (f : Bool) (e : f ≡ leb 41 (j % 56)) where
  flat : f ≡ true → old ≡ cond (ltb (j % 56) 41) (start_record bits base j) old
  flat h = rw (le-ltb (j % 56) 41 (leb-true 41 (j % 56) (sym e ∙ h)))

  main : (r : Record) → r ≡ start_record bits base j → f ≡ false → r ≡ cond (ltb (j % 56) 41) (start_record bits base j) old
  main r is h = rw (lt-ltb (j % 56) 41 (leb-false 41 (j % 56) (sym e ∙ h))) is

pub returns-then-is_flat : goal.returns-then-is_flat
returns-then-is_flat c =
    flat c.args.old c.args.bits c.args.base c.args.j _ c.is_flat.ensures c.if-is_flat.true

pub returns : goal.returns
returns c =
    main c.args.old c.args.bits c.args.base c.args.j _ c.is_flat.ensures _ c.start_record.ensures c.if-is_flat.false
