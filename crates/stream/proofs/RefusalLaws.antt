-- Refusals and their numbers. Assumes nothing.
use Prim.Native.Nat.{◌≤◌}
use lib.Dec.{lit≤}
use Rattle.stream.specs.Refusals.{refusal_number}
use Rattle.stream.specs.declared.header.Refusal.{Refusal}
use Rattle.stream.specs.declared.header.Refusal.TheVariants.{ShortHeader, BadHeader, ShortSizes, ShortBases, NoBlock, WrongSize, OutsideImage, Lossy}
use Rattle.stream.specs.declared.header.Refusal.TheVariants.{WrongCount, ShortScratch, AboveLargest, NotPredicted, ShortOutput, Truncated, NotTight}
use Rattle.stream.specs.declared.header.Refusal.TheVariants.{Lossless, WrongBases, BadRecord, HeldTwice, NotHeld, BadState, OtherState, NoEntry, OutsideSheet}
use Rattle.stream.specs.declared.header.Refusal.TheVariants.{WrongLengths, LongBlock}

-- no refusal has the number 0
pub number_low : (r : Refusal) → 1 ≤ refusal_number r
number_low ShortHeader = lit≤ tt
number_low BadHeader = lit≤ tt
number_low ShortSizes = lit≤ tt
number_low (ShortBases b) = lit≤ tt
number_low NoBlock = lit≤ tt
number_low WrongSize = lit≤ tt
number_low OutsideImage = lit≤ tt
number_low Lossy = lit≤ tt
number_low WrongCount = lit≤ tt
number_low ShortScratch = lit≤ tt
number_low (AboveLargest i) = lit≤ tt
number_low (NotPredicted i) = lit≤ tt
number_low ShortOutput = lit≤ tt
number_low (Truncated b l) = lit≤ tt
number_low (NotTight l) = lit≤ tt
number_low Lossless = lit≤ tt
number_low WrongBases = lit≤ tt
number_low (BadRecord i) = lit≤ tt
number_low (HeldTwice l) = lit≤ tt
number_low (NotHeld l) = lit≤ tt
number_low BadState = lit≤ tt
number_low OtherState = lit≤ tt
number_low (NoEntry b l) = lit≤ tt
number_low OutsideSheet = lit≤ tt
number_low WrongLengths = lit≤ tt
number_low (LongBlock b) = lit≤ tt
