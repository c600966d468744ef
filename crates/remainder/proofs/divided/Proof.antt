-- `remainder::divided` meets its contract: each of the numbers is its digits at a place, and a power of two common to
-- both may be taken out. Assumes nothing.
use Rattle.std.proofs.Common.{◌≡◌, ◌*◌, ◌%◌, ◌^◌, ◌<◌, ◌≤◌, false, sym, lt_trans, mod-lt, mul-pos}
use Rattle.std.proofs.Common.{le_of_mul-le-mul_right, arith, pow_pos, rules}
use denote.Floats.{passes}
use lib.Ieee.{binary64, to_bits}
use lib.Ieee.Positive.{first_pos, value_pos, values_of_le, positive-finite}
use Rattle.magnitude.proofs.Comparisons.{finite_number}
use Rattle.remainder.proofs.Division.{placed}
use Rattle.remainder.proofs.Remainders.{rem-units}
use Rattle.remainder.proofs.DigitsOfPattern.{place_of, digits_of, Taken, taken, place-order}
use Rattle.remainder.proofs.divided.Statement.{statement}
use Rattle.remainder.proofs.divided.Tie as tie

float-to-bits-u : tie.Need-float_to_bits-u
float-to-bits-u c = finite_number _ (positive-finite c.args.a c.requires.dividend)

float-to-bits-v : tie.Need-float_to_bits-v
float-to-bits-v c = finite_number _ (positive-finite c.args.b c.requires.divisor)

-- Both numbers by their patterns.
dividend : (c : tie.Start) → Taken c.args.a (to_bits binary64 c.args.a)
dividend c = taken c.args.a (passes _ c.well_formed.0.1) c.requires.dividend

divisor : (c : tie.Start) → Taken c.args.b (to_bits binary64 c.args.b)
divisor c = taken c.args.b (passes _ c.well_formed.1.0.1) c.requires.divisor

places : (c : tie.Start) → place_of (to_bits binary64 c.args.b) ≤ place_of (to_bits binary64 c.args.a)
places c =
    let u = to_bits binary64 c.args.a in
    let v = to_bits binary64 c.args.b in
    let lu = (dividend c).below in
    let lv = (divisor c).below in
    place-order (digits_of u) (place_of u) (digits_of v) (place_of v) (omega arith)
    (λ (h : 0 < place_of v). omega arith)
    (le_of_mul-le-mul_right
    (values_of_le c.args.b c.args.a _ _ _ _ c.requires.divisor c.requires.dividend (divisor c).value
    (dividend c).value c.requires.order) (pow_pos 1074))

some : (c : tie.Start) → 0 < digits_of (to_bits binary64 c.args.b)
some c = first_pos _ _ (value_pos c.args.b _ _ c.requires.divisor (pow_pos 1074) (divisor c).value)

sub-long-division-2 : tie.Need-overflow_sub-i
sub-long-division-2 c = rw (c.place-j.ensures, c.before.place-i.ensures) (places c.before.before)

long-division-requires : tie.Need-long_division-r-requires
long-division-requires c κs =
    let l = (divisor c.before.before).below in
    let s = some c.before.before in
    let e = c.place-j.ensures in
    (omega arith, omega arith)

scaled-requires : tie.Need-scaled-requires
scaled-requires c κs =
    let s = c.before.before.before in
    let l = (divisor s).below in
    let e = c.before.place-j.ensures in
    let above = long-division-requires c.before κs in
    (lt_trans (rw c.long_division-r.ensures (mod-lt _ above.0)) above.1, omega arith)

returns : tie.Need-returns
returns c =
    let s = c.before.before.before.before in
    let u = to_bits binary64 s.args.a in
    let v = to_bits binary64 s.args.b in
    let lu = (dividend s).below in
    let lv = (divisor s).below in
    let at-u : place_of u * 2 ^ 52 % 2 ^ 64 ≡ place_of u * 2 ^ 52 = omega arith in
    let at-v : place_of v * 2 ^ 52 % 2 ^ 64 ≡ place_of v * 2 ^ 52 = omega arith in
    rw (
      c.scaled.ensures,
      c.before.long_division-r.ensures,
      c.before.before.place-j.ensures,
      c.before.before.before.place-i.ensures,
      at-u,
      at-v,
      placed (digits_of u) (digits_of v) (place_of u) (place_of v) (some s) (places s),
    )
    (sym (rem-units binary64 s.args.a s.args.b false false _ _ _ (pow_pos 1074)
    (mul-pos (some s) (pow_pos (place_of v))) (dividend s).value (divisor s).value))

pub divided_spec : {M : Type 1} → statement M
divided_spec =
    tie.close (tie.spec float-to-bits-u float-to-bits-v (λ c κs. search rules) (λ c κs. search rules)
    (λ c. search rules) sub-long-division-2 (λ c. search rules) long-division-requires scaled-requires returns)
