-- Inside. What the output holds after bits were put into it.
use Rattle.std.specs.Prelude.{Bool, List, [], ◌∷◌, ◌++◌, ℕ, ◌+◌, length, take, drop}
use Rattle.bits.specs.BitLists.{bits_of, packed}
use Rattle.bits.specs.Inside.{bytes_for}

-- the output after these bits were put into it from bit `at` on: what stood before them stays, the rest of their last byte is 0, and the bytes after
-- that one are what they were
unfoldable pub put_bits : List ℕ → ℕ → List Bool → List ℕ
put_bits out at [] = out
put_bits out at (b ∷ l) =
    let n = bytes_for (at + length (b ∷ l)) in
    packed n (take at (bits_of out) ++ b ∷ l) ++ drop n out
