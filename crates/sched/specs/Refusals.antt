-- 01, "Refused, and where", and 02: the returned number and the place of each refusal.
use Rattle.std.specs.Prelude.{ℕ, Result}
use Rattle.sched.specs.declared.Refusal.{Refusal}
use Rattle.sched.specs.declared.Refusal.TheVariants.{Truncated, OutOfRange, UnknownBit, Redundant, EmptySpan, LeftOver, TooShort, Unequal, BadByte, TooOften, OutOfSpan, TooRare, PastHorizon, NoVolume, PaddingBit, BadSlotByte, NoSuchRun, NoJobs}

abbrev pub number : Refusal → ℕ
number (Truncated at) = 11
number (OutOfRange at) = 12
number (UnknownBit at) = 13
number (Redundant at) = 14
number (EmptySpan at) = 15
number (LeftOver at) = 16
number (TooShort at) = 17
number (Unequal at) = 19
number (BadByte at) = 21
number (TooOften at) = 22
number (OutOfSpan at) = 23
number (TooRare at) = 24
number (PastHorizon at) = 25
number (NoVolume at) = 26
number (PaddingBit at) = 31
number (BadSlotByte at) = 32
number (NoSuchRun at) = 33
number (NoJobs at) = 34

abbrev pub place : Refusal → ℕ
place (Truncated at) = at
place (OutOfRange at) = at
place (UnknownBit at) = at
place (Redundant at) = at
place (EmptySpan at) = at
place (LeftOver at) = at
place (TooShort at) = at
place (Unequal at) = at
place (BadByte at) = at
place (TooOften at) = at
place (OutOfSpan at) = at
place (TooRare at) = at
place (PastHorizon at) = at
place (NoVolume at) = at
place (PaddingBit at) = at
place (BadSlotByte at) = at
place (NoSuchRun at) = at
place (NoJobs at) = at

-- the answer of a check: it passes, or the first fault
abbrev pub Checked : Type 0
Checked = Result (Unit {0}) Refusal
