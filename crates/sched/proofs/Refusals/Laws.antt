-- No refusal is mistaken for an accepted call, or for an overload.
use Rattle.std.specs.Prelude.{◌≡◌}
use Rattle.std.proofs.Common.{arith}
use Rattle.sched.specs.Refusals.{number}
use Rattle.sched.specs.declared.Refusal.{Refusal}
use Rattle.sched.specs.declared.Refusal.TheVariants.{Truncated, OutOfRange, UnknownBit, Redundant, EmptySpan, LeftOver, TooShort, Unequal, BadByte, TooOften, OutOfSpan, TooRare, PastHorizon, NoVolume, PaddingBit, BadSlotByte, NoSuchRun, NoJobs}

-- every refusal has a number above 0
pub refusal_number : (r : Refusal) → number r ≡ 0 → ⊥
refusal_number (Truncated at) e = omega arith
refusal_number (OutOfRange at) e = omega arith
refusal_number (UnknownBit at) e = omega arith
refusal_number (Redundant at) e = omega arith
refusal_number (EmptySpan at) e = omega arith
refusal_number (LeftOver at) e = omega arith
refusal_number (TooShort at) e = omega arith
refusal_number (Unequal at) e = omega arith
refusal_number (BadByte at) e = omega arith
refusal_number (TooOften at) e = omega arith
refusal_number (OutOfSpan at) e = omega arith
refusal_number (TooRare at) e = omega arith
refusal_number (PastHorizon at) e = omega arith
refusal_number (NoVolume at) e = omega arith
refusal_number (PaddingBit at) e = omega arith
refusal_number (BadSlotByte at) e = omega arith
refusal_number (NoSuchRun at) e = omega arith
refusal_number (NoJobs at) e = omega arith

-- none is 18, an overload's
pub refusal_not_overload : (r : Refusal) → number r ≡ 18 → ⊥
refusal_not_overload (Truncated at) e = omega arith
refusal_not_overload (OutOfRange at) e = omega arith
refusal_not_overload (UnknownBit at) e = omega arith
refusal_not_overload (Redundant at) e = omega arith
refusal_not_overload (EmptySpan at) e = omega arith
refusal_not_overload (LeftOver at) e = omega arith
refusal_not_overload (TooShort at) e = omega arith
refusal_not_overload (Unequal at) e = omega arith
refusal_not_overload (BadByte at) e = omega arith
refusal_not_overload (TooOften at) e = omega arith
refusal_not_overload (OutOfSpan at) e = omega arith
refusal_not_overload (TooRare at) e = omega arith
refusal_not_overload (PastHorizon at) e = omega arith
refusal_not_overload (NoVolume at) e = omega arith
refusal_not_overload (PaddingBit at) e = omega arith
refusal_not_overload (BadSlotByte at) e = omega arith
refusal_not_overload (NoSuchRun at) e = omega arith
refusal_not_overload (NoJobs at) e = omega arith
