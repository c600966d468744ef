-- The value of a drift lies from -2 to 2 (`smooth_random`), so half of it, times an amount from 0 to 1, lies from -1 to
-- 1. Such an argument exp2 does not refuse. Assumes nothing.
use Prim.Native.Nat.{ℕ, zero, suc}
use lib.Count.{count_trailing_zeros}
use lib.Dec.{T, lit≤}
use lib.Ieee.{Float, binary64, size, span, climb, odd, units, round, neg, mul, lt, eq, le, of_fields, of_bits}
use lib.Ieee.Scale.{finite}
use Rattle.magnitude.specs.Bounds.{AtMost}
use Rattle.magnitude.proofs.Comparisons.{finite_number}
use Rattle.magnitude.proofs.OrderAndBounds.{between-at-most}
use Rattle.interval.proofs.Between.{Between, between}
use Rattle.min_max.specs.Choice.{clamped}
use Rattle.min_max.proofs.Clamps.{clamped-ge, clamped-le}
use Rattle.xorshift.specs.Draws.{two}
use Rattle.smooth_random.specs.Ranges.{valid_of}
use Rattle.smooth_random.specs.Drift.{value_at}
use Rattle.smooth_random.specs.declared.SmoothRandom.{SmoothRandom}
use Rattle.smooth_random.proofs.ValueRange.{value-between}
use Rattle.oscillator_ranges.specs.Constants as numbers
use Rattle.oscillator_ranges.specs.Constants.{one}
use Rattle.modulation_sample.specs.Sample.{half}
use Rattle.modulation.proofs.TermBounds.{Term, var, num, times, Ends, ends, sure, lies, lies-between}

abbrev bent : Term
bent = times (times (num half) (var 0)) (var 1)

abbrev bent-ends : ℕ → Ends
bent-ends zero = record { low = numbers.zero; high = one }
bent-ends (suc i) = record { low = neg two; high = two }

abbrev bent-of : Float → Float → ℕ → Float
bent-of amount v zero = amount
bent-of amount v (suc i) = v

pub wander-at-most : (r : SmoothRandom) (drift-amount : Float) → T (valid_of r) → T (finite drift-amount)
    → AtMost 1 (mul binary64 (mul binary64 half (clamped drift-amount numbers.zero one)) (value_at r))
unfolding lies sure ends count_trailing_zeros size span climb odd units round neg mul lt eq le of_fields of_bits
wander-at-most r drift-amount ok real =
    let number = finite_number drift-amount real in
    let a = clamped drift-amount numbers.zero one in
    let x = mul binary64 (mul binary64 half a) (value_at r) in
    let amount : Between numbers.zero one a =
    between tt tt (clamped-ge drift-amount numbers.zero one number tt)
    (clamped-le drift-amount numbers.zero one number tt) in
    let b : Between (neg one) one x = lies-between bent-ends (bent-of a (value_at r)) (inner amount) bent tt in
    between-at-most 1 (neg one) x one (lit≤ tt) (lit≤ tt) b.above.order b.below.order
  where
    inner : {amount : Float} → Between numbers.zero one amount → (i : ℕ)
        → Between (bent-ends i).low (bent-ends i).high (bent-of amount (value_at r) i)
    inner w zero = w
    inner w (suc i) = value-between r ok
