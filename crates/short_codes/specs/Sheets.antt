-- Rules. A sheet of short codes: every bit string up to a greatest length that is one tight lossless code, as a number.
use Rattle.std.specs.Prelude.{Bool, cond, ◌&&◌, ◌||◌, List, ◌≡◌, ℕ, ◌+◌, ◌-◌, ◌*◌, ◌^◌, min, leb, ltb, eqb, length, get_or, Err, Ok, Result}
use Rattle.bits.specs.BitLists.{number_of}
use Rattle.quantiser.specs.Quantisers.{main_of}
use Rattle.code.specs.Tight.{code_bits}
use Rattle.stream.specs.declared.header.Refusal.TheVariants.{OutsideSheet}
use Rattle.stream.specs.declared.header.Refusal.{Refusal}

-- a depth of 12, 14 or 16, a k from 0 to 15, a greatest length n from 1 to 16
unfoldable pub in_sheet : ℕ → ℕ → ℕ → Bool
in_sheet depth k n = (eqb depth 12 || eqb depth 14 || eqb depth 16) && leb k 15 && leb 1 n && leb n 16

-- the bits of a tight lossless code: those of the main quantiser with base 0
unfoldable pub string_of : ℕ → ℕ → ℕ → List Bool
string_of depth k code = code_bits k (main_of depth 0).limit (main_of depth 0).raw code

-- a bit string read as a binary number
abbrev pub value_of : List Bool → ℕ
value_of l = number_of (length l) l

-- the number that stands for it
unfoldable pub entry_of : List Bool → ℕ
entry_of l = 65536 * length l + value_of l

-- how many strings there are: one for each code below 2^depth that has at most n bits, and these are the codes from 0 on
unfoldable pub count_of : ℕ → ℕ → ℕ → ℕ
count_of depth k n = min ((n - k) * 2 ^ k) (2 ^ depth)

-- the entry with an index: the string of that code
abbrev pub entry_at : ℕ → ℕ → ℕ → ℕ
entry_at depth k i = entry_of (string_of depth k i)

-- ---- what a call gives

-- refusal 24, or the count
unfoldable pub listed_answer : ℕ → ℕ → ℕ → Result ℕ Refusal
listed_answer depth k n = cond (in_sheet depth k n) (Ok (count_of depth k n)) (Err OutsideSheet)

-- whether entry i of a list with so many entries is written: nothing is refused, the whole sheet has room, and i belongs to it
unfoldable pub is_written : ℕ → ℕ → ℕ → ℕ → ℕ → Bool
is_written depth k n room i = in_sheet depth k n && leb (count_of depth k n) room && ltb i (count_of depth k n)

-- the list after a call, entry by entry; what is not written is as it was
pub record ListAfter (depth k n : ℕ) (list list' : List ℕ) : Type 0 where
  pub as_long : length list' ≡ length list
  pub entries : (i : ℕ) → get_or list' i 0 ≡ cond (is_written depth k n (length list) i) (entry_at depth k i) (get_or list i 0)
