-- T4. A quotient that is nearly 1 still counts as 1 when it is rounded to f64 and then to f32: each rounding keeps the
-- order, and 1 less f32's epsilon is a value of both formats. Assumes nothing.
use Rattle.std.proofs.Common.{
  ◌≡◌,
  ℕ,
  ◌+◌,
  ◌*◌,
  ◌<◌,
  ◌≤◌,
  true,
  false,
  T,
  negsuc,
  refl,
  mul-le-mul_right,
  mul-pos,
  le_of_mul-le-mul_right,
  arith,
  lit<,
}
use lib.Ieee.{Float, nan, inf, fin, binary32, binary64, up, down, round, div, le}
use lib.Ieee.Fits.{down_pos}
use lib.Ieee.Order.{round_mono}
use lib.Ieee.Positive.{den, den_pos}
use lib.Ieee.Scale.{finite}
use Rattle.rounding.specs.Operations.{narrowed}
use Rattle.interval.proofs.Signed.{ring, gain, loss, under}
use Rattle.interval.proofs.Operations.{Rounds, in_order, divided}
use Rattle.bank_choice.proofs.CoarseSteps.{unit}

-- 1 less f32's epsilon. From there on the blend counts as 1.
abbrev pub high : Float
high = fin false 8388607 (negsuc 22)

-- ---- a quotient from that number on is not below it as an f32
single : round binary32 false 8388607 8388608 ≡ high
unfolding round
single = refl

pub narrow_high : (z : Float) → T (le high z) → T (le high (narrowed z))
unfolding narrowed le
narrow_high nan h = h
narrow_high (inf s) h = h
narrow_high (fin true m e) h = absurd (omega (arith, under high (fin true m e) tt tt h, down_pos e))
narrow_high (fin false m e) h =
    rw (← single)
    (round_mono binary32 8388607 8388608 (m * up e) (down e) (lit< tt) (down_pos e)
    (omega (arith, under high (fin false m e) tt tt h)))

double : Rounds binary64 high 8388607 0 8388608
unfolding round
double = record { sign = false; size = 8388607; is = refl; same = refl }

-- x is at least a steps, and y at most a + 2.
pub quotient-high : (a : ℕ) (x y : Float) → T (finite x) → T (finite y) → loss x ≡ 0 → 0 < gain y → 268435456 ≤ a + 1
    → a * den x ≤ gain x * unit → gain y * unit ≤ (a + 2) * den y → T (le high (div binary64 x y))
quotient-high a x y p q z g large hx hy =
    let close : 8388607 * (a + 2) ≤ 8388608 * a = omega arith in
    in_order binary64 8388607 0 8388608 _ _ _ (lit< tt) (mul-pos g (den_pos x)) double (divided binary64 x y p q g)
    (le_of_mul-le-mul_right {k = unit}
    (rw z
    (simp ring (omega (
      arith,
      simp ring at (mul-le-mul_right (den x) hy),
      simp ring at (mul-le-mul_right (den x * den y) close),
      simp ring at (mul-le-mul_right (den y) hx),
    ))))
    (lit< tt))
