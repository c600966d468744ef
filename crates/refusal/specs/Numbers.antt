-- N1 to N8, C4. The refusals of document 01 and of the wishes by their numbers. Definitions only.
use Rattle.std.specs.Prelude.{ℕ, Result, Ok, Err}
use Rattle.refusal.specs.declared.Refusal.{Refusal}
use Rattle.refusal.specs.declared.Refusal.TheVariants.{Setting, Length, State, Sample, Delay, LongDelay, Rate, Full}
use Rattle.refusal.specs.declared.Refusal.TheVariants.{NotWav, CutOff, NoFormat, NoData, Kind, ShortBuffer, Misfit}
use Rattle.refusal.specs.declared.Refusal.TheVariants.{NoSlot, NotHeld, NoSizes, LongFile, NotAiff, NoFrames, AiffRate}

abbrev pub number_of : Refusal → ℕ
number_of Setting = 1
number_of Length = 2
number_of State = 3
number_of Sample = 4
number_of Delay = 5
number_of LongDelay = 6
number_of Rate = 7
number_of Full = 8
number_of NotWav = 9
number_of CutOff = 10
number_of NoFormat = 11
number_of NoData = 12
number_of Kind = 13
number_of ShortBuffer = 14
number_of Misfit = 15
number_of NoSlot = 16
number_of NotHeld = 17
number_of NoSizes = 18
number_of LongFile = 19
number_of NotAiff = 20
number_of NoFrames = 21
number_of AiffRate = 22

-- C4. The number of an answer: that of its refusal, and 0 where there is none.
abbrev pub refusal_of : {A : Type 0} → Result A Refusal → ℕ
refusal_of (Ok a) = 0
refusal_of (Err r) = number_of r
