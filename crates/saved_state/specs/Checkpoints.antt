-- Rules. The state of a block after a line, as 1,707 + 12·W bytes: the header, the block, the next line and its bit position; the records; and of each
-- colour the two lines that the next line finds above it. Numbers are big-endian. Assumes nothing.
use Rattle.std.specs.Prelude.{Bool, false, cond, not, ◌&&◌, ◌||◌, List, ℕ, zero, suc, ◌+◌, ◌-◌, ◌*◌, ◌/◌, ◌%◌, ◌^◌, min, leb, ltb, eqb, length, get_or, Err, Ok, Result}
use Rattle.statistics.specs.Statistics.{largest_residual}
use Rattle.statistics.specs.declared.Record.{Record}
use Rattle.pass_steps.specs.Contexts.{no_record, sample_in}
use Rattle.colour_lines.specs.ColourLines.{guarded}
use Rattle.saved_state.specs.Heads.{be_byte, put_each, head_byte}
use Rattle.stream.specs.declared.header.Refusal.TheVariants.{BadState, OtherState}
use Rattle.stream.specs.declared.header.Refusal.{Refusal}

-- ---- bytes

-- the number that n bytes from i on make
unfoldable pub be_at : List ℕ → ℕ → ℕ → ℕ
be_at s i zero = 0
be_at s i (suc n) = be_at s i n * 256 + get_or s (i + n) 0

-- ---- storing

-- a record: its sum in 4 bytes, then its n
unfoldable pub record_byte : Record → ℕ → ℕ
record_byte r k = cond (ltb k 4) (be_byte 4 k r.sum) (be_byte 1 0 r.n)

-- of each 56 records the last 15 belong to flat quantisers
abbrev pub is_flat : ℕ → Bool
is_flat j = leb 41 (j % 56)

-- a lossless block uses no flat record
unfoldable pub stored_record : Bool → ℕ → Record → Record
stored_record lossless j r = cond (lossless && is_flat j) (record { sum = 0; n = 1 }) r

-- byte i of records that are stored one after the other
unfoldable pub records_byte : Bool → List Record → ℕ → ℕ
records_byte lossless records i = record_byte (stored_record lossless (i / 5) (get_or records (i / 5) no_record)) (i % 5)

-- the lines that the next line finds as 0, 1, 5, 6, 13, 14
unfoldable pub kept_line : ℕ → ℕ
kept_line zero = 3
kept_line (suc zero) = 4
kept_line (suc (suc zero)) = 11
kept_line (suc (suc (suc zero))) = 12
kept_line (suc (suc (suc (suc zero)))) = 16
kept_line (suc (suc (suc (suc (suc m))))) = 17

-- byte i of their samples, W of each line, two bytes for each
unfoldable pub lines_byte : ℕ → List ℕ → ℕ → ℕ
lines_byte W lines i = be_byte 2 (i % 2) (sample_in W lines (kept_line (i / 2 / W)) (i / 2 % W))

-- what is stored: after which line, where its block goes on, and what that line left
pub record Saved : Type 0 where
  pub stream : List ℕ
  pub block : ℕ
  pub line : ℕ
  pub at : ℕ
  pub records : List Record
  pub lines : List ℕ

abbrev pub first_record : ℕ
first_record = 27

abbrev pub first_sample : ℕ
first_sample = 1707

abbrev pub size_of_checkpoint : ℕ → ℕ
size_of_checkpoint W = first_sample + 12 * W

unfoldable pub checkpoint_byte : Bool → ℕ → Saved → ℕ → ℕ
checkpoint_byte lossless W z i =
    cond (ltb i first_record) (head_byte z.stream z.block (z.line + 1) z.at i)
    (cond (ltb i first_sample) (records_byte lossless z.records (i - first_record)) (lines_byte W z.lines (i - first_sample)))

-- the lent bytes after storing, and bytes that are a stored state
abbrev pub checkpoint_of : Bool → ℕ → Saved → List ℕ → List ℕ
checkpoint_of lossless W z out = put_each (checkpoint_byte lossless W z) 0 (size_of_checkpoint W) out

-- ---- what is refused

-- a test holds at a number below n
unfoldable pub any_below : ℕ → (ℕ → Bool) → Bool
any_below zero test = false
any_below (suc n) test = any_below n test || test n

abbrev pub next_line : List ℕ → ℕ
next_line s = be_at s 17 2

abbrev pub position_in : List ℕ → ℕ
position_in s = be_at s 19 8

abbrev pub sum_in : List ℕ → ℕ → ℕ
sum_in s j = be_at s (first_record + 5 * j) 4

abbrev pub n_in : List ℕ → ℕ → ℕ
n_in s j = be_at s (first_record + 5 * j + 4) 1

abbrev pub stored_sample : List ℕ → ℕ → ℕ
stored_sample s j = be_at s (first_sample + 2 * j) 2

-- sum of 2^26 or more, n outside 1 to 64
unfoldable pub bad_record : List ℕ → ℕ → Bool
bad_record s j = leb (2 ^ 26) (sum_in s j) || (ltb (n_in s j) 1 || ltb 64 (n_in s j))

-- a sample above 2^bits − 1
unfoldable pub bad_sample : ℕ → List ℕ → ℕ → Bool
bad_sample bits s j = leb (2 ^ bits) (stored_sample s j)

-- a line above lines, a bit position past 8·length + 7
unfoldable pub bad_place : ℕ → ℕ → List ℕ → Bool
bad_place lines bytes s = ltb lines (next_line s) || ltb (8 * bytes + 7) (position_in s)

-- refusal 21, by the depth and the lines of the call's header and by the length of the call's block
unfoldable pub bad_checkpoint : ℕ → ℕ → ℕ → ℕ → List ℕ → Bool
bad_checkpoint W bits lines bytes s =
    not (eqb (length s) (size_of_checkpoint W)) || (bad_place lines bytes s || (any_below 336 (bad_record s) || any_below (6 * W) (bad_sample bits s)))

-- refusal 22: another header or block
unfoldable pub other_checkpoint : List ℕ → ℕ → List ℕ → Bool
other_checkpoint d block s = any_below 16 (λ i. not (eqb (get_or s i 0) (get_or d i 0))) || not (eqb (get_or s 16 0) block)

unfoldable pub checked_of : ℕ → ℕ → ℕ → ℕ → List ℕ → ℕ → List ℕ → Result (ℕ × ℕ) Refusal
checked_of W bits lines bytes d block s =
    cond (bad_checkpoint W bits lines bytes s) (Err BadState) (cond (other_checkpoint d block s) (Err OtherState) (Ok (next_line s, position_in s)))

-- ---- loading

-- record j, where a block starts with `start`: a flat one of a lossless block is as it was at the start. A sum that no block reaches is cut
unfoldable pub loaded_record : Bool → Record → List ℕ → ℕ → Record
loaded_record lossless start s j =
    cond (lossless && is_flat j) start (record { sum = min (sum_in s j) (n_in s j * largest_residual); n = n_in s j })

-- the samples of the m-th line that was kept go where it stood
abbrev pub with_kept : ℕ → List ℕ → ℕ → List ℕ → List ℕ
with_kept W s m lines = put_each (λ p. stored_sample s (m * W + p)) (kept_line m * (W + 2) + 1) W lines

-- all six
unfoldable pub with_six : ℕ → List ℕ → List ℕ → List ℕ
with_six W s lines = with_kept W s 5 (with_kept W s 4 (with_kept W s 3 (with_kept W s 2 (with_kept W s 1 (with_kept W s 0 lines)))))

-- the guards of the nearer one of each colour
unfoldable pub with_guards : ℕ → List ℕ → List ℕ
with_guards W lines = guarded W 17 (guarded W 12 (guarded W 4 lines))

unfoldable pub loaded_lines : ℕ → List ℕ → List ℕ → List ℕ
loaded_lines W s lines = with_guards W (with_six W s lines)
