-- Inside. What only our own functions say.
use Rattle.std.specs.Prelude.{ℕ}
use Rattle.bits.specs.Inside.{word_at}
use Rattle.bit_pump.specs.declared.BitPumpMsb.{BitPumpMsb}

-- the word of its next bits
abbrev pub next_word : BitPumpMsb → ℕ
next_word b = word_at b.«data».now b.at.0
