-- Every record of a block is in range: start records are, a set of such records is, and such a set may go back. Assumes nothing.
use mathlib.Core.Bool.{Bool, true, false, cond}
use mathlib.Core.List.{List}
use mathlib.Core.Path.{◌≡◌}
use Prim.Native.Nat.{ℕ, zero, suc, ◌+◌, ◌*◌, ◌%◌, ◌^◌, ◌≤◌, ◌<◌}
use native.Mathlib.Nat.{max-le, lt_of_not-le}
use native.Mathlib.Omega.{arith}
use lib.Dec.{ltb}
use lib.ListN.{length, get_or, get_or-eq_default}
use lib.Pow.{pow_mono}
use lib.Seq.{paste, paste-zero, paste-suc}
use Rattle.statistics.specs.Inside.{InRange}
use Rattle.statistics.specs.declared.Record.{Record}
use Rattle.statistics.proofs.RecordLaws.{start_in_range}
use Rattle.quantiser.specs.Quantisers.{quantiser_of, start_sum}
use Rattle.quantiser.proofs.QuantiserLaws.{total_le}
use Rattle.pass_steps.specs.Contexts.{no_record}
use Rattle.pass_steps.specs.Values.{SetInRange}
use Rattle.pass_steps.proofs.ZipLaws.{set_keeps}
use Rattle.read_block.specs.Records.{start_record, start_records, restarted_main, set_of, put_set}
use Rattle.read_block.specs.Walks.{AllInRange}
use Rattle.read_block.proofs.TableLaws.{table_get_d}
use Rattle.read_block.proofs.SetLaws.{set_get_d}

-- ---- start records

start_sum_le : (bits q weight : ℕ) → bits ≤ 16 → start_sum (quantiser_of bits q weight) ≤ 1024
unfolding start_sum quantiser_of
start_sum_le bits q weight h =
    let p : 2 ^ bits ≤ 2 ^ 16 = pow_mono h in
    max-le (omega arith) (omega (arith, total_le bits q))

pub started : (bits q j : ℕ) → bits ≤ 16 → InRange (start_record bits q j)
unfolding start_record
started bits q j h = start_in_range _ (start_sum_le bits _ _ h)

pub all_started : (bits q : ℕ) → bits ≤ 16 → AllInRange (start_records bits q)
unfolding start_records
all_started bits q h j lt = rw (table_get_d (start_record bits q) 336 j no_record lt) (started bits q j h)

pub all_restarted : (bits q : ℕ) (rs : List Record) → bits ≤ 16 → AllInRange rs → AllInRange (restarted_main bits q rs)
unfolding restarted_main
all_restarted bits q rs h ok j lt =
    rw (table_get_d (λ j. cond (ltb (j % 56) 41) (start_record bits q j) (get_or rs j no_record)) 336 j no_record lt)
    (go (ltb (j % 56) 41))
  where
    go : (b : Bool) → InRange (cond b (start_record bits q j) (get_or rs j no_record))
    go true = started bits q j h
    go false = ok j lt

pub all_kept : (b : Bool) (bits q : ℕ) (rs l : List Record) → bits ≤ 16 → l ≡ cond b (restarted_main bits q rs) rs → AllInRange rs → AllInRange l
all_kept true bits q rs l h e ok = rw e (all_restarted bits q rs h ok)
all_kept false bits q rs l h e ok = rw e ok

-- ---- sets

pub set_in_range : (g : ℕ) (rs : List Record) → g < 3 → AllInRange rs → SetInRange (set_of g rs)
set_in_range g rs h ok j lt = rw (set_get_d g j rs lt) (ok (112 * g + j) (omega arith))

-- a set in range has all its records
pub set_full : (l : List Record) → SetInRange l → 112 ≤ length l
set_full l ok =
    lt_of_not-le (λ (short : length l ≤ 111). let e = get_or-eq_default l no_record short in let n = (rw e at (ok 111 (omega arith))).some in omega arith)

paste_keeps : {A : Type 0} (Q : A → Type 0) (d s : List A) (at : ℕ) (z : A) (n : ℕ) → at + n ≤ length d → n ≤ length s
    → ((j : ℕ) → j < n → Q (get_or s j z)) → (k : ℕ) → Q (get_or d k z) → Q (get_or (paste d at s n) k z)
paste_keeps Q d s at z zero hd hs new k old = rw (← paste-zero d at s) old
paste_keeps Q d s at z (suc n) hd hs new k old =
    rw (← paste-suc d at s n z (omega arith) (omega arith))
    (set_keeps Q (paste d at s n) z (at + n) (get_or s n z) k
    (paste_keeps Q d s at z n (omega arith) (omega arith) (λ j h. new j (omega arith)) k old)
    (new n (omega arith)))

pub put_in_range : (g : ℕ) (new rs : List Record) → g < 3 → length rs ≡ 336 → SetInRange new → AllInRange rs → AllInRange (put_set g new rs)
unfolding put_set
put_in_range g new rs h long ok all j lt = paste_keeps InRange rs new (112 * g) no_record 112 (omega arith) (set_full new ok) ok j (all j lt)
