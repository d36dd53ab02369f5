-- Rules. The bits of a tight code, whether a code that was read is tight, and what a pass takes of it.
use Rattle.std.specs.Prelude.{ℕ, ◌-◌, ◌/◌, ◌%◌, ◌^◌, Bool, true, false, cond, ◌&&◌, List, ◌∷◌, ◌++◌, replicate, nat_le, nat_lt}
use Rattle.bits.specs.BitLists.{binary}
use Rattle.code.specs.declared.Code.{Code}

-- z zeros, a one, and n in as many bits as k says
abbrev pub run_then : ℕ → ℕ → ℕ → List Bool
run_then z k n = replicate z false ++ true ∷ binary k n

-- the bits of a tight code: ⌊code/2^k⌋ zeros, a one and k bits if that is below limit, else exactly limit zeros, a one and code − 1 in raw bits
unfoldable pub code_bits : ℕ → ℕ → ℕ → ℕ → List Bool
code_bits k limit raw code =
    cond (nat_lt (code / 2 ^ k) limit) (run_then (code / 2 ^ k) k (code % 2 ^ k)) (run_then limit raw (code - 1))

-- whether a code that was read is tight: below 2^bits, and minimal
unfoldable pub is_tight : ℕ → Code → Bool
is_tight M c = nat_le c.value M && c.minimal
