-- N1, C4. A quality by its number: a number above 3 is an argument out of its range, refused by 1. Definitions only.
use Rattle.std.specs.Prelude.{ℕ, zero, suc, Result, Ok, Err}
use Rattle.refusal.specs.declared.Refusal.{Refusal}
use Rattle.refusal.specs.declared.Refusal.TheVariants.{Setting}
use Rattle.quality_mode.specs.declared.QualityMode.{QualityMode}
use Rattle.quality_mode.specs.declared.QualityMode.TheVariants.{Draft, Normal, Hq, Ultra}

abbrev pub named_of : ℕ → Result QualityMode Refusal
named_of zero = Ok Draft
named_of (suc zero) = Ok Normal
named_of (suc (suc zero)) = Ok Hq
named_of (suc (suc (suc zero))) = Ok Ultra
named_of (suc (suc (suc (suc k)))) = Err Setting
