-- `short_codes::short_codes` meets its contract: refused, too short a list, or written. Assumes nothing.
use borrow.Author.Tests.{lt-leb, le-leb, not-true, not-false}
use mathlib.Core.Bool.{true, false}
use mathlib.Core.List.{List}
use mathlib.Core.Path.{◌≡◌, refl, sym, ◌∙◌}
use Prim.Native.Nat.{ℕ, ◌≤◌, ◌<◌}
use native.Mathlib.Omega.{arith}
use lib.ListN.{length}
use Rattle.stream.specs.declared.header.Refusal.TheVariants.{OutsideSheet}
use Rattle.short_codes.specs.Sheets.{in_sheet, count_of, listed_answer, is_written, ListAfter}
use Rattle.short_codes.specs.Inside.{Filled}
use Rattle.short_codes.proofs.SheetLaws.{bounded}
use Rattle.short_codes.proofs.short_codes.Goals as goal
use Rattle.short_codes.proofs.short_codes.Goals.{Else-not-in_sheet}
use Rattle.std.specs.Prelude.{Err, Ok, Result}
use Rattle.stream.specs.declared.header.Refusal.{Refusal}

module _ (d k n : ℕ) (list : List ℕ) where
  -- what is promised of an answer and a list
  abbrev Promised : Result ℕ Refusal → List ℕ → Type 0
  Promised r list' = (r ≡ listed_answer d k n) × ListAfter d k n list list'

  refused : in_sheet d k n ≡ false → Promised (Err OutsideSheet) list
  unfolding listed_answer is_written
  refused e = (rw e, record { as_long = refl; entries = λ i. rw e })

  module _ (e : in_sheet d k n ≡ true) (count : ℕ) (is : count ≡ count_of d k n) where
    too_short : length list < count → Promised (Ok count) list
    unfolding listed_answer is_written
    too_short h =
        let l = lt-leb (count_of d k n) (length list) (rw is at h) in
        (rw (e, is), record { as_long = refl; entries = λ i. rw (e, l) })

    written : (list' : List ℕ) → count ≤ length list → Filled d k n list list' → Promised (Ok count) list'
    unfolding listed_answer is_written
    written list' h f =
        let l = le-leb (count_of d k n) (length list) (rw is at h) in
        (rw (e, is), record { as_long = f.as_long; entries = λ i. rw (e, l) (f.entries i) })

-- what the first test says
inside : (c : Else-not-in_sheet) → in_sheet c.args.depth c.args.k c.args.longest ≡ true
inside c = sym c.in_sheet.ensures ∙ not-false _ c.if-not-in_sheet.false-raw

pub returns-then-not-in_sheet : goal.returns-then-not-in_sheet
returns-then-not-in_sheet c = refused _ _ _ _ (sym c.in_sheet.ensures ∙ not-true _ c.if-not-in_sheet.true-raw)

pub count_of-count-requires : goal.count_of-count-requires
count_of-count-requires c = let b = bounded _ _ _ (inside c) in (omega arith, omega arith, omega arith)

pub returns-then-list-count : goal.returns-then-list-count
returns-then-list-count c = too_short _ _ _ _ (inside (goal.at.returns-then-list-count c).Else-not-in_sheet) _ c.count_of-count.ensures.0 c.if-list-count.true

pub fill-requires : goal.fill-requires
fill-requires c = (bounded _ _ _ (inside (goal.at.fill-requires c).Else-not-in_sheet), c.count_of-count.ensures.0, c.if-list-count.false)

pub returns : goal.returns
returns c =
    written _ _ _ _ (inside (goal.at.returns c).Else-not-in_sheet) _ c.count_of-count.ensures.0 _ c.if-list-count.false c.fill.ensures
