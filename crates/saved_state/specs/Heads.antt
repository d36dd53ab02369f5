-- Rules. Numbers as bytes, the most significant first, and the head of a stored state.
use Rattle.std.specs.Prelude.{cond, List, ℕ, zero, suc, ◌+◌, ◌-◌, ◌/◌, ◌%◌, ◌^◌, ltb, get_or, set}

-- byte k of the n bytes of x
unfoldable pub be_byte : ℕ → ℕ → ℕ → ℕ
be_byte n k x = x / 256 ^ (n - 1 - k) % 256

-- the n entries from `from` on become f 0, f 1, ..; the others stay
unfoldable pub put_each : {A : Type 0} → (ℕ → A) → ℕ → ℕ → List A → List A
put_each f from zero l = l
put_each f from (suc n) l = set (put_each f from n l) (from + n) (f n)

-- bytes 0 to 26: the first 16 bytes of the stream, block, next line, bit position
unfoldable pub head_byte : List ℕ → ℕ → ℕ → ℕ → ℕ → ℕ
head_byte d block next at i =
    cond (ltb i 16) (get_or d i 0)
    (cond (ltb i 17) (be_byte 1 0 block)
    (cond (ltb i 19) (be_byte 2 (i - 17) next) (be_byte 8 (i - 19) at)))
