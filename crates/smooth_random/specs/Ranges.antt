-- G8, G6, N1, N3, N9. The ranges of a state and of the arguments of `next`, and the number of the refusal outside of
-- them. Definitions only.
use Rattle.std.specs.Prelude.{ℕ, Bool, not, ◌&&◌, eqb, Float, [], ◌∷◌}
use Rattle.std.specs.Float.{binary64}
use Rattle.std.specs.Float.Ieee.{of_bits, neg, lt, le}
use Rattle.refusal_order.specs.Order.{◌unless◌, first_of}
use Rattle.xorshift.specs.Draws.{zero, one}
use Rattle.smooth_random.specs.declared.SmoothRandom.{SmoothRandom}

abbrev pub within : Float → Float → Float → Bool
within low high x = le low x && le x high

-- The f64 nearest to 0.65 and to 1.35, which 1 - 0.35 and 1 + 0.35 round to.
abbrev pub slowest : Float
slowest = of_bits binary64 0x3fe4_cccc_cccc_cccd

abbrev pub fastest : Float
fastest = of_bits binary64 0x3ff5_9999_9999_999a

-- G8. The position is at least 0 and below 1, the targets from -1 to 1, the segment scale from 0.65 to 1.35, and
-- neither the generator nor the initial seed is 0.
abbrev pub position_of : SmoothRandom → Bool
position_of r = le zero r.position && lt r.position one

abbrev pub targets_of : SmoothRandom → Bool
targets_of r = within (neg one) one r.current && within (neg one) one r.next

abbrev pub pace_of : SmoothRandom → Bool
pace_of r = within slowest fastest r.segment_rate_scale

abbrev pub seeds_of : SmoothRandom → Bool
seeds_of r = not (eqb r.state 0) && not (eqb r.initial_seed 0)

unfoldable pub valid_of : SmoothRandom → Bool
valid_of r = position_of r && (targets_of r && (pace_of r && seeds_of r))

-- The ends of the ranges: 1000, 8000 and 768000.
abbrev pub most_targets : Float
most_targets = of_bits binary64 0x408f_4000_0000_0000

abbrev pub least_samples : Float
least_samples = of_bits binary64 0x40bf_4000_0000_0000

abbrev pub most_samples : Float
most_samples = of_bits binary64 0x4127_7000_0000_0000

-- G6. The sample rate is 8000 to 768000. Document 01 has no range for the rate at which targets come. 001 hands in
-- 0.025 to 3; here 0 to 1000 is served, for which the position grows by less than 1 in each step.
abbrev pub arguments_of : Float → Float → Bool
arguments_of rate-hz sample-rate = within zero most_targets rate-hz && within least_samples most_samples sample-rate

-- N1, N3, N9. 0 if the call is accepted. An argument outside its range gives 1, a state 3, and 1 if both are.
unfoldable pub verdict : SmoothRandom → Float → Float → ℕ
unfolding valid_of
verdict r rate-hz sample-rate = first_of (1 unless arguments_of rate-hz sample-rate ∷ 3 unless valid_of r ∷ [])
