-- The ranges of a bank's numbers, by their ends: max - 1 lies from 0 to 1, so that (max - 1)/0.02 is at most 50 and
-- there are 1 to 50 sets. Assumes nothing.
use Rattle.std.proofs.Common.{◌≡◌, ℕ, ◌≤◌, true, false, pos, refl, zero-le, lit≤}
use native.Mathlib.Nat.{le-max_left, max-le}
use lib.Ieee.{Float, nan, inf, fin, binary64, sub, div, le, lt}
use lib.Ieee.Fits.{and_l, and_r, down_pos}
use denote.Floats.{passes}
use Rattle.magnitude.specs.Bounds.{AtMost}
use Rattle.magnitude.proofs.OrderAndBounds.{between-at-most}
use Rattle.interval.proofs.Between.{Between, between, point, difference-between}
use Rattle.interval.proofs.Products.{quotient-between}
use Rattle.integer_part.proofs.Floors.{ceiling-at-most}
use Rattle.sinc_settings.specs.Ranges.{zero-f, one-f, two-f}
use Rattle.bank_choice.specs.Rates.{bank_ok, rate_step, ceiling_of, steps_of}

pub in-range : (top : Float) → bank_ok top ≡ true → Between one-f two-f top
in-range top h =
    let t = passes (bank_ok top) h in
    between tt tt (and_l (le one-f top) (le top two-f) t) (and_r (le one-f top) (le top two-f) t)

pub span : (top : Float) → bank_ok top ≡ true → Between zero-f one-f (sub binary64 top one-f)
unfolding sub le
span top h = difference-between binary64 (in-range top h) (point one-f tt) refl refl tt tt

abbrev fifty : Float
fifty = fin false 25 (pos 1)

pub span-at-most : (top : Float) → bank_ok top ≡ true → AtMost 50 (div binary64 (sub binary64 top one-f) rate_step)
unfolding div le lt
span-at-most top h =
    let q : Between zero-f fifty (div binary64 (sub binary64 top one-f) rate_step) =
    quotient-between binary64 tt (span top h) (point rate_step tt) tt refl refl tt tt in
    between-at-most 50 zero-f (div binary64 (sub binary64 top one-f) rate_step) fifty (lit≤ tt) (lit≤ tt)
    q.above.order q.below.order

-- ---- how many sets
pub ceiling-most : (b : ℕ) (x : Float) → AtMost b x → ceiling_of x ≤ b
unfolding ceiling_of
ceiling-most b nan a = absurd a
ceiling-most b (inf s) a = absurd a
ceiling-most b (fin true m e) a = zero-le
ceiling-most b (fin false m e) a = ceiling-at-most _ _ b (down_pos e) a

pub least : (top : Float) → 1 ≤ steps_of top
unfolding steps_of
least top = le-max_left 1 _

pub most : (top : Float) → bank_ok top ≡ true → steps_of top ≤ 50
unfolding steps_of
most top h = max-le (lit≤ tt) (ceiling-most 50 _ (span-at-most top h))
