-- Promises. What it means that a sheet is whole: the statements that proofs/WholeLaws.antt and proofs/ReadLaws.antt prove of every depth, k and greatest length
-- that are not refused. Assumes nothing.
use Rattle.std.specs.Prelude.{Bool, true, List, ◌++◌, ◌⊎◌, ◌≡◌, ℕ, ◌+◌, ◌-◌, ◌*◌, ◌^◌, ◌≤◌, ◌<◌, length, take, drop, Option, Some}
use Rattle.bits.specs.BitLists.{bits_of}
use Rattle.quantiser.specs.Quantisers.{largest, main_of}
use Rattle.code.specs.Codes.{code_at}
use Rattle.code.specs.Tight.{is_tight}
use Rattle.code.specs.declared.Code.{Code}
use Rattle.short_codes.specs.Sheets.{in_sheet, string_of, value_of, entry_of, count_of, entry_at}

-- a bit string that is one tight lossless code: the bits of a code below 2^depth
pub record TightString (depth k : ℕ) (l : List Bool) : Type 0 where
  pub code : ℕ
  pub small : code < 2 ^ depth
  pub bits : l ≡ string_of depth k code

-- its entry stands in the sheet
pub record Stands (depth k n : ℕ) (l : List Bool) : Type 0 where
  pub index : ℕ
  pub inside : index < count_of depth k n
  pub there : entry_at depth k index ≡ entry_of l

-- entry i is that of such a string, which is not longer than n
pub record IsString (depth k n i : ℕ) : Type 0 where
  pub string : List Bool
  pub tight : TightString depth k string
  pub short : length string ≤ n
  pub there : entry_at depth k i ≡ entry_of string

pub record Whole (depth k n : ℕ) : Type 0 where
  -- every such string is there
  pub complete : (l : List Bool) → TightString depth k l → length l ≤ n → Stands depth k n l
  -- nothing else is
  pub sound : (i : ℕ) → i < count_of depth k n → IsString depth k n i
  -- each a single time, and in order
  pub rising : (i j : ℕ) → i < j → j < count_of depth k n → entry_at depth k i < entry_at depth k j
  -- the order of entries is by length and then by value
  pub ordered : (l m : List Bool) → length l ≤ n → length m ≤ n → entry_of l < entry_of m
      → (length l < length m) ⊎ ((length l ≡ length m) × (value_of l < value_of m))
  -- and an entry says its string
  pub told_apart : (l m : List Bool) → length l ≤ n → length m ≤ n → entry_of l ≡ entry_of m → l ≡ m

abbrev pub AllWhole : Type 0
AllWhole = (depth k n : ℕ) → in_sheet depth k n ≡ true → Whole depth k n

-- ---- these strings are what the reader takes for one tight code

-- the code that is read at bit p of a lossless block
abbrev pub code_there : ℕ → ℕ → List ℕ → ℕ → Option Code
code_there depth k s p = code_at s p k (main_of depth 0).limit (main_of depth 0).raw

-- a tight code is read at bit p, and it ends where the string ends
pub record IsRead (depth k : ℕ) (s : List ℕ) (p : ℕ) (l : List Bool) : Type 0 where
  pub code : Code
  pub read : code_there depth k s p ≡ Some code
  pub tight : is_tight (largest depth) code ≡ true
  pub ends : code.after.0 ≡ p + length l

pub record AsRead (depth k : ℕ) : Type 0 where
  -- wherever such a string stands, whatever follows it
  pub taken : (s : List ℕ) (p : ℕ) (l rest : List Bool) → TightString depth k l → drop p (bits_of s) ≡ l ++ rest → IsRead depth k s p l
  -- and a tight code that is read within the block's bytes stands there as such a string
  pub only : (s : List ℕ) (p : ℕ) (x : Code) → code_there depth k s p ≡ Some x → is_tight (largest depth) x ≡ true → x.after.0 ≤ 8 * length s
      → TightString depth k (take (x.after.0 - p) (drop p (bits_of s)))

abbrev pub AllAsRead : Type 0
AllAsRead = (depth k n : ℕ) → in_sheet depth k n ≡ true → AsRead depth k
