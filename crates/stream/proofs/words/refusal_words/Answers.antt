-- `stream::words::refusal_words` meets its contract, case by case. Assumes nothing.
use mathlib.Core.Path.{◌≡◌}
use Rattle.stream.specs.declared.header.Refusal.{Refusal}
use Rattle.stream.specs.Refusals.{refusal_words}
use Rattle.stream.proofs.words.refusal_words.Goals as goal

same : (r x : Refusal) → r ≡ x → refusal_words x ≡ refusal_words r
same r x e = rw e

pub enum_told-1 : goal.enum_told-1
enum_told-1 c = c.in-ShortHeader.in-ShortHeader-own.keys1

pub enum_told-in-BadHeader : goal.enum_told-in-BadHeader
enum_told-in-BadHeader c = c.in-BadHeader.in-BadHeader-own.keys2

pub enum_told-in-ShortSizes : goal.enum_told-in-ShortSizes
enum_told-in-ShortSizes c = c.in-ShortSizes.in-ShortSizes-own.keys3

pub returns-in-ShortHeader : goal.returns-in-ShortHeader
returns-in-ShortHeader c = same _ _ c.in-ShortHeader.is

pub returns-in-BadHeader : goal.returns-in-BadHeader
returns-in-BadHeader c = same _ _ c.in-BadHeader.is

pub returns-in-ShortSizes : goal.returns-in-ShortSizes
returns-in-ShortSizes c = same _ _ c.in-ShortSizes.is

pub returns-in-ShortBases : goal.returns-in-ShortBases
returns-in-ShortBases c = same _ _ c.in-ShortBases.is

pub returns-in-NoBlock : goal.returns-in-NoBlock
returns-in-NoBlock c = same _ _ c.in-NoBlock.is

pub returns-in-WrongSize : goal.returns-in-WrongSize
returns-in-WrongSize c = same _ _ c.in-WrongSize.is

pub returns-in-OutsideImage : goal.returns-in-OutsideImage
returns-in-OutsideImage c = same _ _ c.in-OutsideImage.is

pub returns-in-Lossy : goal.returns-in-Lossy
returns-in-Lossy c = same _ _ c.in-Lossy.is

pub returns-in-WrongCount : goal.returns-in-WrongCount
returns-in-WrongCount c = same _ _ c.in-WrongCount.is

pub returns-in-ShortScratch : goal.returns-in-ShortScratch
returns-in-ShortScratch c = same _ _ c.in-ShortScratch.is

pub returns-in-AboveLargest : goal.returns-in-AboveLargest
returns-in-AboveLargest c = same _ _ c.in-AboveLargest.is

pub returns-in-NotPredicted : goal.returns-in-NotPredicted
returns-in-NotPredicted c = same _ _ c.in-NotPredicted.is

pub returns-in-ShortOutput : goal.returns-in-ShortOutput
returns-in-ShortOutput c = same _ _ c.in-ShortOutput.is

pub returns-in-Truncated : goal.returns-in-Truncated
returns-in-Truncated c = same _ _ c.in-Truncated.is

pub returns-in-NotTight : goal.returns-in-NotTight
returns-in-NotTight c = same _ _ c.in-NotTight.is

pub returns-in-Lossless : goal.returns-in-Lossless
returns-in-Lossless c = same _ _ c.in-Lossless.is

pub returns-in-WrongBases : goal.returns-in-WrongBases
returns-in-WrongBases c = same _ _ c.in-WrongBases.is

pub returns-in-BadRecord : goal.returns-in-BadRecord
returns-in-BadRecord c = same _ _ c.in-BadRecord.is

pub returns-in-HeldTwice : goal.returns-in-HeldTwice
returns-in-HeldTwice c = same _ _ c.in-HeldTwice.is

pub returns-in-NotHeld : goal.returns-in-NotHeld
returns-in-NotHeld c = same _ _ c.in-NotHeld.is

pub returns-in-BadState : goal.returns-in-BadState
returns-in-BadState c = same _ _ c.in-BadState.is

pub returns-in-OtherState : goal.returns-in-OtherState
returns-in-OtherState c = same _ _ c.in-OtherState.is

pub returns-in-NoEntry : goal.returns-in-NoEntry
returns-in-NoEntry c = same _ _ c.in-NoEntry.is

pub returns-in-OutsideSheet : goal.returns-in-OutsideSheet
returns-in-OutsideSheet c = same _ _ c.in-OutsideSheet.is

pub returns-in-WrongLengths : goal.returns-in-WrongLengths
returns-in-WrongLengths c = same _ _ c.in-WrongLengths.is

pub returns-in-LongBlock : goal.returns-in-LongBlock
returns-in-LongBlock c = same _ _ c.in-LongBlock.is
