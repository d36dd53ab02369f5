-- The three sets among the records: one is taken out as two lists, and put back. Assumes nothing.
use mathlib.Core.List.{List}
use mathlib.Core.Path.{◌≡◌, sym, ◌∙◌}
use Prim.Native.Nat.{ℕ, ◌+◌, ◌-◌, ◌*◌, ◌≤◌, ◌<◌}
use native.Mathlib.Numerals.{add-one}
use native.Mathlib.Omega.{arith}
use lib.ListN.{length, get_or, set, take, drop, length-drop}
use lib.Seq.{take_all, take-suc, take-suc-set, get_or-drop, get_or-take, paste, paste-suc}
use Rattle.statistics.specs.declared.Record.{Record}
use Rattle.pass_steps.specs.Contexts.{no_record}
use Rattle.pass_steps.specs.Values.{zip_records}
use Rattle.pass_steps.proofs.ZipLaws.{zip_length, zip_get_d, zip_set}
use Rattle.read_block.specs.Records.{set_of, put_set}

-- ---- a set that is taken out, record by record

module _ (rs : List Record) (g : ℕ) (long : length rs ≡ 336) (h : g < 3) where
  pub load_more : (sums ns : List ℕ) (i : ℕ) (t : Record) → i < 112 → length sums ≡ 112 → length ns ≡ 112 → t ≡ get_or rs (112 * g + i) no_record
      → take i (zip_records sums ns) ≡ take i (drop (112 * g) rs)
      → take (i + 1) (zip_records (set sums i t.sum) (set ns i t.n)) ≡ take (i + 1) (drop (112 * g) rs)
  load_more sums ns i t lt ls ln e k =
      let z : length (zip_records sums ns) ≡ length sums = zip_length sums ns (ls ∙ sym ln) in
      let d : length (drop (112 * g) rs) ≡ length rs - 112 * g = length-drop (112 * g) rs in
      rw (
        zip_set sums ns i t,
        add-one,
        take-suc-set (zip_records sums ns) i t (omega arith),
        take-suc (drop (112 * g) rs) i no_record (omega arith),
        k,
        get_or-drop (112 * g) rs i no_record,
        e,
      )

pub load_done : (rs : List Record) (g : ℕ) (sums ns : List ℕ) (i : ℕ) → 112 ≤ i → i ≤ 112 → length sums ≡ 112 → length ns ≡ 112
    → take i (zip_records sums ns) ≡ take i (drop (112 * g) rs) → zip_records sums ns ≡ set_of g rs
unfolding set_of
load_done rs g sums ns i ge le ls ln k =
    let z : length (zip_records sums ns) ≡ length sums = zip_length sums ns (ls ∙ sym ln) in
    let e : i ≡ 112 = omega arith in
    sym (take_all 112 (zip_records sums ns) (omega arith)) ∙ (rw e at k)

-- ---- a set that is put back, record by record

module _ (rs : List Record) (g : ℕ) (sums ns : List ℕ) (long : length rs ≡ 336) (h : g < 3) (ls : length sums ≡ 112) (ln : length ns ≡ 112) where
  pub store_more : (l : List Record) (i : ℕ) → i < 112 → l ≡ paste rs (112 * g) (zip_records sums ns) i
      → set l (112 * g + i) (record { sum = get_or sums i 0; n = get_or ns i 0 }) ≡ paste rs (112 * g) (zip_records sums ns) (i + 1)
  store_more l i lt e =
      let same : length sums ≡ length ns = ls ∙ sym ln in
      let z : length (zip_records sums ns) ≡ length sums = zip_length sums ns same in
      rw (e, ← zip_get_d sums ns i same, add-one) (paste-suc rs (112 * g) (zip_records sums ns) i no_record (omega arith) (omega arith))

pub store_done : (rs l : List Record) (g : ℕ) (new : List Record) (i : ℕ) → 112 ≤ i → i ≤ 112 → l ≡ paste rs (112 * g) new i → l ≡ put_set g new rs
unfolding put_set
store_done rs l g new i ge le k = let e : i ≡ 112 = omega arith in rw e at k

-- ---- entries

pub set_get_d : (g j : ℕ) (rs : List Record) → j < 112 → get_or (set_of g rs) j no_record ≡ get_or rs (112 * g + j) no_record
unfolding set_of
set_get_d g j rs h = get_or-take 112 (drop (112 * g) rs) j no_record h ∙ get_or-drop (112 * g) rs j no_record
