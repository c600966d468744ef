-- G8. Every target lies from -1 to 1 and every scale from 0.65 to 1.35. Each operation keeps the order, so it is enough
-- to compute the ends. Assumes nothing.
use mathlib.Core.Path.{refl}
use Prim.Native.Nat.{ℕ, ◌/◌, ◌^◌, ◌≤◌, zero-le}
use native.Mathlib.Omega.{arith}
use lib.Count.{count_trailing_zeros}
use lib.Ieee.{binary64, size, span, climb, odd, units, round, neg, sum, add, sub, mul, div, lt, eq, le, of_int}
use lib.Ieee.{of_fields}
use lib.Ieee.{of_bits}
use Rattle.interval.proofs.Between.{Between, point, whole-between, sum-between, difference-between}
use Rattle.interval.proofs.Products.{product-between}
use Rattle.xorshift.specs.Xorshift.{value_of}
use Rattle.xorshift.specs.Draws.{one, two, scale53, spread, bipolar_of, scale_of}
use Rattle.smooth_random.specs.Ranges.{slowest, fastest}

pub bipolar-between : (x : ℕ) → Between (neg one) one (bipolar_of x)
unfolding bipolar_of count_trailing_zeros size span climb odd units round neg sum add sub mul div lt eq le of_int
    of_fields of_bits
bipolar-between x =
    let digits : value_of x / 2 ^ 11 ≤ 2 ^ 53 = omega arith in
    let unit =
    product-between binary64 tt (whole-between binary64 {k = 0} zero-le digits refl refl tt tt)
    (point scale53 tt) refl refl tt tt in
    difference-between binary64 (product-between binary64 tt unit (point two tt) refl refl tt tt)
    (point one tt) refl refl tt tt

pub scale-between : (x : ℕ) → Between slowest fastest (scale_of x)
unfolding bipolar_of scale_of count_trailing_zeros size span climb odd units round neg sum add sub mul div lt eq le
    of_int
    of_fields of_bits
scale-between x =
    sum-between binary64 (point one tt)
    (product-between binary64 tt (point spread tt) (bipolar-between x) refl refl tt tt) refl refl tt tt
