-- Promises. What a pump gives, and where it stands afterwards. A pump is the bytes of a block and a bit position.
use Rattle.std.specs.Prelude.{ℕ, min}
use Rattle.bits.specs.Bits.{bits_at}
use Rattle.bit_pump.specs.declared.BitPumpMsb.{BitPumpMsb}

-- the next n bits of a pump, where a count above 32 is taken as 32
abbrev pub next_bits : BitPumpMsb → ℕ → ℕ
next_bits b n = bits_at b.«data».now b.at.0 (min n 32)

-- a pump over the same bytes, at position p
abbrev pub moved_to : BitPumpMsb → ℕ → BitPumpMsb
moved_to b p = record { «data» = b.«data»; at = record { 0 = p } }
