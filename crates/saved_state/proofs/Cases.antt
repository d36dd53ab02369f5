-- Worked cases of the bytes, as equations on the definitions. Assumes nothing.
use mathlib.Core.Bool.{true, false}
use mathlib.Core.List.{List, [], ◌∷◌}
use mathlib.Core.Path.{◌≡◌, refl}
use Prim.Native.Nat.{ℕ, ◌+◌, ◌*◌, ◌/◌, ◌%◌}
use lib.ListN.{replicate, set}
use Rattle.statistics.specs.declared.Record.{Record}
use Rattle.saved_state.specs.Heads.{be_byte, put_each, head_byte}
use Rattle.saved_state.specs.Checkpoints.{be_at, record_byte, stored_record, records_byte, kept_line, lines_byte, size_of_checkpoint}
use Rattle.saved_state.specs.Checkpoints.{first_record, first_sample, bad_record, any_below, loaded_record, other_checkpoint}

abbrev stat : ℕ → ℕ → Record
stat sum n = record { sum = sum; n = n }

-- 24 lines of Bayer with 14 bits, lossless
abbrev header : List ℕ
header =
    0x49 ∷ 0x53 ∷ 0x01 ∷ 0x00 ∷ 0x0e ∷ 0x00 ∷ 0x90 ∷ 0x03 ∷ 0x00 ∷ 0x03 ∷ 0x00 ∷ 0x03 ∷ 0x00 ∷ 0x01 ∷ 0x00 ∷ 0x18 ∷ []

-- the head after line 0 of block 0, which ends at bit 22,743
head_case : put_each (head_byte header 0 1 22743) 0 27 (replicate 28 0xee)
    ≡ 0x49 ∷ 0x53 ∷ 0x01 ∷ 0x00 ∷ 0x0e ∷ 0x00 ∷ 0x90 ∷ 0x03 ∷ 0x00 ∷ 0x03 ∷ 0x00 ∷ 0x03 ∷ 0x00 ∷ 0x01 ∷ 0x00 ∷ 0x18
    ∷ 0x00 ∷ 0x00 ∷ 0x01 ∷ 0x00 ∷ 0x00 ∷ 0x00 ∷ 0x00 ∷ 0x00 ∷ 0x00 ∷ 0x58 ∷ 0xd7 ∷ 0xee ∷ []
unfolding put_each head_byte be_byte
head_case = refl

-- its records 0 and 1
record_case : put_each (records_byte true (stat 164284 33 ∷ stat 256 1 ∷ [])) 0 10 (replicate 10 0xee)
    ≡ 0x00 ∷ 0x02 ∷ 0x81 ∷ 0xbc ∷ 0x21 ∷ 0x00 ∷ 0x00 ∷ 0x01 ∷ 0x00 ∷ 0x01 ∷ []
unfolding put_each records_byte stored_record record_byte be_byte
record_case = refl

-- records 41 and 55 of a lossless block are flat, 56 is not; in a lossy block all are stored
flat_cases : (stored_record true 41 (stat 256 1) ≡ stat 0 1) × (stored_record true 55 (stat 256 1) ≡ stat 0 1) × (stored_record true 56 (stat 256 1) ≡ stat 256 1)
    × (stored_record false 41 (stat 178142 34) ≡ stat 178142 34)
unfolding stored_record
flat_cases = (refl, refl, refl, refl)

-- where record 112, and each line begins, and how long a state is
places : (first_record + 5 * 112 ≡ 587) × (first_sample + 2 * (1 * 384) ≡ 2475) × (first_sample + 2 * (5 * 384) ≡ 5547) × (first_sample + 2 * (1 * 512) ≡ 2731)
    × (first_sample + 2 * (5 * 512) ≡ 6827) × (size_of_checkpoint 384 ≡ 6315) × (size_of_checkpoint 512 ≡ 7851)
places = (refl, refl, refl, refl, refl, refl, refl)

-- 18 lines of two samples with their guards: the samples of lines 3, 4, 11, 12, 16, 17 are stored, each as its line's number and 1, 2
abbrev place : ℕ → ℕ
place i = i / 4 * 256 + i % 4

line_case : put_each (lines_byte 2 (put_each place 0 72 (replicate 72 0))) 0 24 (replicate 24 0xee)
    ≡ 3 ∷ 1 ∷ 3 ∷ 2 ∷ 4 ∷ 1 ∷ 4 ∷ 2 ∷ 11 ∷ 1 ∷ 11 ∷ 2 ∷ 12 ∷ 1 ∷ 12 ∷ 2 ∷ 16 ∷ 1 ∷ 16 ∷ 2 ∷ 17 ∷ 1 ∷ 17 ∷ 2 ∷ []
unfolding put_each lines_byte kept_line be_byte
line_case = refl

-- record 0 of bytes that hold only this
abbrev bytes : ℕ → ℕ → List ℕ
bytes sum n = put_each (record_byte (stat sum n)) 27 5 (replicate 32 0)

sums : (bad_record (bytes 67108864 1) 0 ≡ true) × (bad_record (bytes 67108863 1) 0 ≡ false)
    × (loaded_record false (stat 0 1) (bytes 67108863 1) 0 ≡ stat 1032192 1)
unfolding put_each record_byte be_byte be_at bad_record loaded_record
sums = (refl, refl, refl)

ns : (bad_record (bytes 0 0) 0 ≡ true) × (bad_record (bytes 0 65) 0 ≡ true) × (bad_record (bytes 0 64) 0 ≡ false)
unfolding put_each record_byte be_byte be_at bad_record
ns = (refl, refl, refl)

-- header byte 15, and the block
others : (other_checkpoint header 0 (put_each (head_byte header 0 1 0) 0 27 (replicate 27 0)) ≡ false)
    × (other_checkpoint header 1 (put_each (head_byte header 0 1 0) 0 27 (replicate 27 0)) ≡ true)
    × (other_checkpoint (set header 15 0x17) 0 (put_each (head_byte header 0 1 0) 0 27 (replicate 27 0)) ≡ true)
unfolding put_each head_byte be_byte other_checkpoint any_below
others = (refl, refl, refl)
