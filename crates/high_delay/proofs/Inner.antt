-- W11e. For the factors 2 and 4 the inner reader's delay lies from 0 to 2^36 at every phase, so that the inner reader
-- refuses none by 5 or 6. Assumes nothing.
use Rattle.std.proofs.Common.{◌≡◌, ℕ, ◌≤◌, T, ◌⊎◌, refl, inl, inr, arith}
use lib.Count.{count_trailing_zeros}
use lib.Ieee.{Float, binary64, size, span, climb, odd, units, round, mul, div, lt, eq, le, of_int, fits}
use lib.Ieee.Scale.{finite}
use Rattle.constants.specs.Numbers.{zero-f, one-f, limit-f}
use Rattle.interval.proofs.Between.{Between, point, whole-between, widen}
use Rattle.interval.proofs.Products.{least, most, product-between, quotient-between}
use Rattle.high_delay.specs.Between.{num, share_of, high_delay}
use Rattle.high_delay.proofs.Range.{M, in-range}

-- What is computed of a factor: the phases' fractions end at 1, and 2^34 times it is at most 2^36.
record Suits (factor : ℕ) : Type 0 where
  known : T (finite (num factor))
  positive : T (lt zero-f (num factor))
  start : num 0 ≡ zero-f
  none : div binary64 zero-f (num factor) ≡ zero-f
  whole : div binary64 (num factor) (num factor) ≡ one-f
  bottom : least binary64 zero-f M (num factor) ≡ zero-f
  top : T (finite (most binary64 zero-f M (num factor)))
  ends : T (le (most binary64 zero-f M (num factor)) limit-f)

by-factor : (factor : ℕ) → Suits factor → (previous delay : Float) (next : ℕ) → next ≤ factor
    → T (fits binary64 previous) → Between zero-f M previous → Between zero-f M delay
    → Between zero-f limit-f (high_delay previous delay next factor)
unfolding high_delay le
by-factor factor s previous delay next h f P D =
    let n : Between zero-f (num factor) (num next) =
    whole-between binary64 {k = 0} {m = factor} (omega arith) h s.start refl tt s.known in
    let share : Between zero-f one-f (share_of next factor) =
    quotient-between binary64 tt n (point (num factor) s.known) s.positive s.none s.whole tt tt in
    widen
    (product-between binary64 tt (in-range previous delay (share_of next factor) f share P D)
    (point (num factor) s.known) s.bottom refl tt s.top)
    tt tt tt s.ends

two : Suits 2
unfolding count_trailing_zeros size span climb odd units round mul div lt eq le of_int
two = record { known = tt; positive = tt; start = refl; none = refl; whole = refl; bottom = refl; top = tt; ends = tt }

four : Suits 4
unfolding count_trailing_zeros size span climb odd units round mul div lt eq le of_int
four = record { known = tt; positive = tt; start = refl; none = refl; whole = refl; bottom = refl; top = tt; ends = tt }

pub inner-range : (factor : ℕ) → (factor ≡ 2) ⊎ (factor ≡ 4) → (previous delay : Float) (next : ℕ) → next ≤ factor
    → T (fits binary64 previous) → Between zero-f M previous → Between zero-f M delay
    → Between zero-f limit-f (high_delay previous delay next factor)
inner-range factor (inl e) = by-factor factor (rw e two)
inner-range factor (inr e) = by-factor factor (rw e four)
