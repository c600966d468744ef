-- W11b, W11j. Each range at its ends, the order of the refusals, and the lengths of some histories, by computing.
-- Assumes nothing.
use mathlib.Core.Path.{◌≡◌, refl}
use mathlib.Core.Bool.{true, false}
use lib.IntN.{pos, negsuc}
use lib.Ieee.{nan, fin, of_bits, binary64, lt, eq, le}
use Rattle.constants.specs.Numbers.{zero-f, one-f}
use Rattle.filter_settings.specs.Ranges.{taps_ok, factor_ok, cutoff_ok, design_verdict}
use Rattle.filter_settings.specs.Lengths.{history_for}

-- The taps are odd and from 17 to 129; the factor is 2 or 4.
pub taps : (taps_ok 15 ≡ false) × (taps_ok 16 ≡ false) × (taps_ok 17 ≡ true) × (taps_ok 18 ≡ false)
    × (taps_ok 128 ≡ false) × (taps_ok 129 ≡ true) × (taps_ok 131 ≡ false)
taps = (refl, refl, refl, refl, refl, refl, refl)

pub factors : (factor_ok 1 ≡ false) × (factor_ok 2 ≡ true) × (factor_ok 3 ≡ false) × (factor_ok 4 ≡ true)
    × (factor_ok 8 ≡ false)
factors = (refl, refl, refl, refl, refl)

-- 1/1024 and the number below it, 1 and the number below it.
pub cutoffs : (cutoff_ok (of_bits binary64 0x3f50_0000_0000_0000) ≡ true)
    × (cutoff_ok (of_bits binary64 0x3f4f_ffff_ffff_ffff) ≡ false) × (cutoff_ok one-f ≡ false)
    × (cutoff_ok (of_bits binary64 0x3fef_ffff_ffff_ffff) ≡ true) × (cutoff_ok nan ≡ false)
unfolding of_bits lt eq le
cutoffs = (refl, refl, refl, refl, refl)

-- 20 and the number above it, 0 and what lies below it.
pub betas : (design_verdict 17 (fin false 1 (negsuc 0)) (fin false 5 (pos 2)) 17 ≡ 0)
    × (design_verdict 17 (fin false 1 (negsuc 0)) (of_bits binary64 0x4034_0000_0000_0001) 17 ≡ 1)
    × (design_verdict 17 (fin false 1 (negsuc 0)) zero-f 17 ≡ 0)
    × (design_verdict 17 (fin false 1 (negsuc 0)) (of_bits binary64 0x8000_0000_0000_0001) 17 ≡ 1)
unfolding of_bits lt eq le
betas = (refl, refl, refl, refl)

-- 1 is given before 2, and 2 for a slice that is longer or shorter by one.
pub order : (design_verdict 17 one-f zero-f 16 ≡ 1) × (design_verdict 17 (fin false 1 (negsuc 0)) zero-f 16 ≡ 2)
    × (design_verdict 17 (fin false 1 (negsuc 0)) zero-f 18 ≡ 2)
unfolding lt eq le
order = (refl, refl, refl)

-- The histories of the cascade's filters, and of the shortest and the longest filter.
pub histories : (history_for 65 2 ≡ 33) × (history_for 65 1 ≡ 65) × (history_for 129 1 ≡ 129) × (history_for 17 2 ≡ 9)
    × (history_for 17 4 ≡ 5) × (history_for 129 4 ≡ 33) × (history_for 17 3 ≡ 0) × (history_for 18 2 ≡ 0)
histories = (refl, refl, refl, refl, refl, refl, refl, refl)
