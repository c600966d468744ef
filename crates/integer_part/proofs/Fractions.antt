-- The fraction of a number of magnitude at most 2 ^ 52 lies from 0 to 1, both included. The floor is exact as a float,
-- the exact difference lies from 0 to 1, and rounding keeps the order. Assumes nothing.
use Rattle.std.proofs.Common.{◌≡◌, ℕ, suc, ◌+◌, ◌*◌, ◌^◌, ◌<◌, ◌≤◌, true, false, not, T, ℤ, pos, negsuc, nat_abs, sym}
use Rattle.std.proofs.Common.{refl, ◌∙◌, true≢false, le_trans, le_of_lt, mul-le-mul_right, suc-mul, mul-pos, zero-mul}
use Rattle.std.proofs.Common.{mul-one, arith, lit<, lit≤}
use lib.Signed.{non_neg}
use lib.Ieee.{Float, nan, inf, fin, binary64, up, down, le, round, sub, neg, of_int, of_bits}
use lib.Ieee.Exact.{HasValue}
use lib.Ieee.Positive.{den, den_pos}
use lib.Ieee.Scale.{finite}
use Rattle.magnitude.specs.Bounds.{AtMost}
use Rattle.magnitude.proofs.OrderAndBounds.{at-most-finite, between-at-most}
use Rattle.magnitude.proofs.WholeFloats.{whole-value}
use Rattle.interval.proofs.Signed.{ring, gain, loss}
use Rattle.interval.proofs.Operations.{Rounds, in_order, added}
use Rattle.integer_part.specs.Parts.{floor_of, fraction_of}
use Rattle.integer_part.proofs.Floors.{pos_part, neg_part, floor-at-most, floor-around}

-- x lies from 0.0 to 1.0.
abbrev pub Unit : Float → Type 0
Unit x = T (le (of_bits binary64 0) x) × T (le x (of_bits binary64 0x3ff0_0000_0000_0000))

zero-rounds : Rounds binary64 (of_bits binary64 0) 0 0 1
unfolding round of_bits
zero-rounds = record { sign = false; size = 0; is = refl; same = refl }

one-rounds : Rounds binary64 (of_bits binary64 0x3ff0_0000_0000_0000) 1 0 1
unfolding round of_bits
one-rounds = record { sign = false; size = 1; is = refl; same = refl }

-- A whole number is taken off: y is -z.
record Opposite (y : Float) (z : ℤ) : Type 0 where
  number : T (finite y)
  gains : gain y ≡ neg_part z * den y
  loses : loss y ≡ pos_part z * den y

opposite : (y : Float) (z : ℤ) → HasValue y (not (non_neg z)) (nat_abs z) 1 → Opposite (neg y) z
unfolding neg
opposite nan z v = absurd v
opposite (inf s) z v = absurd v
opposite (fin true n d) (pos k) v = absurd (true≢false v.0)
opposite (fin false n d) (pos k) v =
    record { number = tt; gains = sym (zero-mul (down d)); loses = sym (mul-one (n * up d)) ∙ v.1 }
opposite (fin true n d) (negsuc k) v =
    record { number = tt; gains = sym (mul-one (n * up d)) ∙ v.1; loses = sym (zero-mul (down d)) }
opposite (fin false n d) (negsuc k) v = absurd (true≢false (sym v.0))

-- (g - l) / c less z, over one denominator.
apart : (g l c g' l' c' : ℕ) (z : ℤ) → g' ≡ neg_part z * c' → l' ≡ pos_part z * c'
    → (pos_part z * c + l ≤ neg_part z * c + g) × (neg_part z * c + g < suc (pos_part z) * c + l)
    → (0 * (c * c') + (l * c' + l' * c) * 1 ≤ (g * c' + g' * c) * 1 + 0 * (c * c'))
    × ((g * c' + g' * c) * 1 + 0 * (c * c') ≤ 1 * (c * c') + (l * c' + l' * c) * 1)
apart g l c g' l' c' z p q a =
    let low = mul-le-mul_right c' a.0 in
    let high = mul-le-mul_right c' (le_of_lt a.1) in
    rw (p, q) (simp ring (omega (arith, simp ring at low)), simp ring (omega (arith, simp (suc-mul, ring) at high)))

pub fraction-unit : (x : Float) → AtMost (2 ^ 52) x → Unit (fraction_of x)
unfolding fraction_of sub
fraction-unit x h =
    let z = floor_of x in
    let y = neg (of_int binary64 z) in
    let o =
    opposite (of_int binary64 z) z
    (whole-value binary64 z (le_trans (floor-at-most (2 ^ 52) x (lit< tt) h) (lit≤ tt))) in
    let r = added binary64 x y (at-most-finite (2 ^ 52) x h) o.number in
    let u =
    apart (gain x) (loss x) (den x) (gain y) (loss y) (den y) z o.gains o.loses
    (floor-around (2 ^ 52) x (lit< tt) h) in
    let c = mul-pos (den_pos x) (den_pos y) in (
      in_order binary64 0 0 1 _ _ _ (lit< tt) c zero-rounds r u.0,
      in_order binary64 _ _ _ 1 0 1 c (lit< tt) r one-rounds u.1,
    )

pub fraction-at-most : (x : Float) → AtMost (2 ^ 52) x → AtMost 1 (fraction_of x)
unfolding of_bits
fraction-at-most x h =
    let u = fraction-unit x h in
    between-at-most 1 (of_bits binary64 0) (fraction_of x) (of_bits binary64 0x3ff0_0000_0000_0000) (lit≤ tt) (lit≤ tt)
    u.0 u.1
