-- `short_codes::fill` meets its contract: the entries before `code` are written. Assumes nothing.
use borrow.Author.Rules.{rules}
use mathlib.Core.Path.{◌≡◌, refl, sym, ◌∙◌}
use mathlib.Core.List.{List}
use Prim.Native.Nat.{ℕ, ◌+◌, ◌*◌, ◌/◌, ◌%◌, ◌^◌, ◌≤◌, ◌<◌}
use native.Mathlib.Omega.{arith}
use lib.ListN.{length}
use Rattle.numbers.proofs.FillLaws.{NewTo, new_none, new_more}
use Rattle.short_codes.specs.Inside.{Bounded, Filled}
use Rattle.short_codes.specs.Sheets.{count_of, entry_at}
use Rattle.short_codes.proofs.SheetLaws.{entry_is, counted}
use Rattle.short_codes.proofs.fill.Goals as goal

-- a code that is counted has few zeros
runs : (d k n count code : ℕ) → Bounded d k n → count ≡ count_of d k n → code < count → code / 2 ^ k < 16
runs d k n count code b e h = omega (arith, b.n_high, counted d k n code (rw (← e) h))

entry_at_lem : (d k n count code v : ℕ) → Bounded d k n → count ≡ count_of d k n → code < count
    → v ≡ 65536 * (code / 2 ^ k + 1 + k) + (2 ^ k + code % 2 ^ k) → v ≡ entry_at d k code
entry_at_lem d k n count code v b e h is = is ∙ sym (entry_is d k code b.depth_low (omega (arith, runs d k n count code b e h)))

done : (d k n count code : ℕ) (l₀ l : List ℕ) → count ≡ count_of d k n → code ≤ count → count ≤ code → length l ≡ length l₀ → NewTo (entry_at d k) code l₀ l
    → Filled d k n l₀ l
done d k n count code l₀ l e a b long new =
    let same : code ≡ count_of d k n = omega arith in
    record { as_long = long; entries = rw (← same) new }

pub loop-code-init : goal.loop-code-init
loop-code-init c =
    (refl, new_none (entry_at c.args.depth c.args.k) c.args.list.now)

pub entry-requires : goal.entry-requires
entry-requires c =
    (c.requires.0.k_high, runs _ _ _ _ _ c.requires.0 c.requires.1 (omega arith))

pub loop-code-preserved : goal.loop-code-preserved
loop-code-preserved c =
    let is = entry_at_lem _ _ _ _ _ _ c.requires.0 c.requires.1 (omega arith) c.entry.ensures in
    (search rules, new_more (entry_at c.args.depth c.args.k) c.args.list.now c.loop-code.list c.loop-code.code c.entry.result (omega arith) is c.loop-code.invariant.1)

pub returns : goal.returns
returns c =
    done _ _ _ c.args.count c.loop-code.code c.args.list.now c.loop-code.list c.requires.1 (omega arith) (omega arith) c.loop-code.invariant.0 c.loop-code.invariant.1
