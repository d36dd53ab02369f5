-- Rules. Bits as a list, in the order in which they are read: the view in which a tight block is described.
use Rattle.std.specs.Prelude.{Bool, cond, ◌&&◌, List, [], ◌∷◌, ◌++◌, ℕ, zero, suc, ◌+◌, ◌-◌, ◌*◌, ◌/◌, ◌%◌, ◌^◌, eqb, length, drop}
use Rattle.bits.specs.Bits.{bits_at}

-- the k binary digits of n, most significant first
unfoldable pub binary : ℕ → ℕ → List Bool
binary zero n = []
binary (suc k) n = eqb (n / 2 ^ k % 2) 1 ∷ binary k (n % 2 ^ k)

-- the bits of bytes
unfoldable pub bits_of : List ℕ → List Bool
bits_of [] = []
bits_of (x ∷ xs) = binary 8 x ++ bits_of xs

-- the number that the first k bits of a list make, zeros after its end
unfoldable pub number_of : ℕ → List Bool → ℕ
number_of zero l = 0
number_of (suc k) [] = 0
number_of (suc k) (b ∷ l) = cond b (2 ^ k) 0 + number_of k l

-- n bytes made of bits, zeros after their end
unfoldable pub packed : ℕ → List Bool → List ℕ
packed zero l = []
packed (suc n) l = number_of 8 l ∷ packed n (drop 8 l)

-- the bytes of a tight block with n bits: the bits rounded up to a multiple of 16 bytes
abbrev pub block_bytes : ℕ → ℕ
block_bytes n = (n + 127) / 128 * 16

-- the block of bits, with zeros as filling
unfoldable pub bytes_of : List Bool → List ℕ
bytes_of l = packed (block_bytes (length l)) l

-- the tail of a tight block that is read up to a bit: the length is the bits rounded up, and the filling is 0
unfoldable pub is_tail : List ℕ → ℕ → Bool
is_tail s at = eqb (length s) (block_bytes at) && eqb (bits_at s at (8 * length s - at)) 0
