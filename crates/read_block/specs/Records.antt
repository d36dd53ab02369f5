-- Rules. The 336 records of a block: three sets, each with 56 records of even positions and 56 of odd ones, of which 41 belong to the main quantiser and
-- 5 to each flat one. Record (set·2 + odd)·56 + place. Assumes nothing.
use Rattle.std.specs.Prelude.{Bool, cond, not, ◌||◌, List, [], ◌∷◌, ◌++◌, ℕ, zero, suc, ◌+◌, ◌-◌, ◌*◌, ◌/◌, ◌%◌, ltb, eqb, get_or, take, drop, replicate}
use Rattle.std.proofs.Math.Seq.{paste}
use Rattle.statistics.specs.declared.Record.{Record}
use Rattle.quantiser.specs.Quantisers.{start_sum}
use Rattle.pass_steps.specs.Contexts.{used_quantiser, no_record}

-- f 0, f 1, .. up to f (n − 1)
unfoldable pub table : {A : Type 0} → (ℕ → A) → ℕ → List A
table f zero = []
table f (suc n) = table f n ++ f n ∷ []

-- the quantiser that a place among the 56 belongs to: 0 the main one, 1 to 3 a flat one
abbrev pub quantiser_of_place : ℕ → ℕ
quantiser_of_place place = cond (ltb place 41) 0 ((place - 41) / 5 + 1)

-- what record j starts with, in a line with base q
unfoldable pub start_record : ℕ → ℕ → ℕ → Record
start_record bits q j = record { sum = start_sum (used_quantiser bits q (quantiser_of_place (j % 56))); n = 1 }

unfoldable pub start_records : ℕ → ℕ → List Record
start_records bits q = table (start_record bits q) 336

-- the main records start anew, and the flat ones stay
unfoldable pub restarted_main : ℕ → ℕ → List Record → List Record
restarted_main bits q records = table (λ j. cond (ltb (j % 56) 41) (start_record bits q j) (get_or records j no_record)) 336

-- that happens at line 0, and where a line's base is not that of the line before. A lossless block has no bases, and base 0 in each line
abbrev pub base_of : List ℕ → ℕ → ℕ
base_of bases n = get_or bases n 0

abbrev pub is_restarted : List ℕ → ℕ → Bool
is_restarted bases n = eqb n 0 || not (eqb (base_of bases n) (base_of bases (n - 1)))

-- set g among the records
unfoldable pub set_of : ℕ → List Record → List Record
set_of g records = take 112 (drop (112 * g) records)

unfoldable pub put_set : ℕ → List Record → List Record → List Record
put_set g new records = paste records (112 * g) new 112

-- what scratch holds afterwards
abbrev pub clear_record : Record
clear_record = record { sum = 0; n = 1 }

abbrev pub clear_records : List Record
clear_records = replicate 336 clear_record
