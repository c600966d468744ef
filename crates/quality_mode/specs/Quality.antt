-- 000's QualityMode: the four qualities, its default, and the taps and phases of each one's table (01, 'Tables and the
-- bank'). Definitions only.
use Rattle.std.specs.Prelude.{ℕ, Bool, eqb}
use Rattle.quality_mode.specs.declared.QualityMode.{QualityMode}
use Rattle.quality_mode.specs.declared.QualityMode.TheVariants.{Draft, Normal, Hq, Ultra}

-- The quality that 000 marks as its default.
abbrev pub default_quality : QualityMode
default_quality = Hq

-- A quality's number is its place in 000's list, from 0.
abbrev pub code_of : QualityMode → ℕ
code_of Draft = 0
code_of Normal = 1
code_of Hq = 2
code_of Ultra = 3

abbrev pub same_q : QualityMode → QualityMode → Bool
same_q a b = eqb (code_of a) (code_of b)

-- 000's SincBankF32::for_max_rate builds a table for each quality but Draft, which reads none.
abbrev pub taps_of : QualityMode → ℕ
taps_of Draft = 0
taps_of Normal = 80
taps_of Hq = 96
taps_of Ultra = 128

abbrev pub phases_of : QualityMode → ℕ
phases_of Draft = 0
phases_of Normal = 2048
phases_of Hq = 4096
phases_of Ultra = 4096
