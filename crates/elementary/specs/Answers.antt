-- E2 to E4. The three functions for every argument: a value, or a refusal by number. Definitions only.
use Rattle.std.specs.Prelude.{false, cond, ℕ, ◌+◌, ◌%◌, negsuc, Float, Result, Ok, Err}
use Rattle.refusal.specs.declared.Refusal.{Refusal}
use Rattle.refusal.specs.declared.Refusal.TheVariants.{Setting}
use Rattle.std.specs.Float.{fin, binary64}
use Rattle.std.specs.Float.Ieee.{neg, add, sub, mul, lt, of_bits}
pub use Rattle.constants.specs.Numbers.{one-f as one, two-f as two}
pub use Rattle.refusal.specs.Numbers.{refusal_of}
use Rattle.polynomials.specs.Horner.{sine_near, cosine_near, power_near}
use Rattle.polynomials.specs.Range.{at_most}
use Rattle.elementary.specs.Reduction.{turns, reduced, fourth, pick}

-- C4. The value of an answer; a refusal has none, and 0.0 stands for it.
abbrev pub or_zero : Result Float Refusal → Float
or_zero (Ok v) = v
or_zero (Err r) = of_bits binary64 0

unfoldable pub sine_at : Float → Float
unfolding sine_near pick fourth turns reduced
sine_at x = cond (at_most 1 x) (sine_near x) (pick (fourth (turns x)) (reduced x))

-- A cosine is the sine one quarter turn further on.
unfoldable pub cosine_at : Float → Float
unfolding cosine_near pick fourth turns reduced
cosine_at x = cond (at_most 1 x) (cosine_near x) (pick ((fourth (turns x) + 1) % 4) (reduced x))

abbrev pub half : Float
half = fin false 1 (negsuc 0)

-- The power 2 ^ x. Beyond one half x is moved by 1 towards zero, and the power doubled or halved, which is exact.
unfoldable pub power_at : Float → Float
unfolding power_near
power_at x =
    cond (lt half x) (mul binary64 two (power_near (sub binary64 x one)))
    (cond (lt x (neg half)) (mul binary64 half (power_near (add binary64 x one))) (power_near x))

unfoldable pub sine_of : Float → Result Float Refusal
unfolding sine_at
sine_of x = cond (at_most 256 x) (Ok (sine_at x)) (Err Setting)

unfoldable pub cosine_of : Float → Result Float Refusal
unfolding cosine_at
cosine_of x = cond (at_most 256 x) (Ok (cosine_at x)) (Err Setting)

unfoldable pub exp2_of : Float → Result Float Refusal
unfolding power_at
exp2_of x = cond (at_most 1 x) (Ok (power_at x)) (Err Setting)
