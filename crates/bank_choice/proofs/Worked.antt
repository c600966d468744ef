-- T3, T4. 01's numbers: a bank up to the rate 1.0 has one set, and one up to 1.02 has two, since 1.02 rounds upward in
-- f64. Assumes nothing.
use Rattle.std.proofs.Common.{◌≡◌, true, refl}
use lib.Ieee.{Float, binary64, add, sub, mul, div, lt, le, of_int, of_bits}
use Rattle.rounding.specs.Operations.{narrowed}
use Rattle.min_max.specs.Choice.{clamped}
use Rattle.sinc_settings.specs.Ranges.{one-f}
use Rattle.bank_choice.specs.Rates.{ceiling_of, steps_of, rate_of}
use Rattle.bank_choice.specs.Choosing.{first_from, blend_of, chosen_of}

one_set : steps_of (of_bits binary64 0x3ff0_0000_0000_0000) ≡ 1
unfolding steps_of ceiling_of sub div of_bits
one_set = refl

two-sets : steps_of (of_bits binary64 0x3ff0_51eb_851e_b852) ≡ 2
unfolding steps_of ceiling_of sub div of_bits
two-sets = refl

fifty-sets : steps_of (of_bits binary64 0x4000_0000_0000_0000) ≡ 50
unfolding steps_of ceiling_of sub div of_bits
fifty-sets = refl

-- T4. Of the two sets up to 1.03, the own rate of the first reads the second set alone.
reads_second : chosen_of (of_bits binary64 0x3ff0_7ae1_47ae_147b) (rate_of (of_bits binary64 0x3ff0_7ae1_47ae_147b) 2 1)
    ≡ record { safe = 0; tighter = 1; which = 1; blend = one-f }
unfolding chosen_of first_from blend_of steps_of ceiling_of rate_of clamped narrowed add sub mul div lt le of_int
    of_bits
reads_second = refl

-- T4. Up to 0x1.d5f4b3ac79505p+0 there are 42 sets, and by rounding the last of them is faster than the bank. All the
-- same the bank's maximum reads it alone.
abbrev past : Float
past = of_bits binary64 0x3ffd_5f4b_3ac7_9505

forty-two-sets : steps_of past ≡ 42
unfolding steps_of ceiling_of sub div of_bits
forty-two-sets = refl

last-above : lt past (rate_of past 42 42) ≡ true
unfolding rate_of add sub mul div lt of_int of_bits
last-above = refl

reads-last-alone : ((chosen_of past past).safe ≡ 41) × ((chosen_of past past).tighter ≡ 41)
    × ((chosen_of past past).which ≡ 1)
unfolding chosen_of first_from blend_of steps_of ceiling_of rate_of clamped narrowed add sub mul div lt le of_int
    of_bits
reads-last-alone = (refl, refl, refl)
