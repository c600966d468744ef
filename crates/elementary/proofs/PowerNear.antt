-- E4. The polynomial of 2 ^ x is within 53 units of 2 ^ -54 of the exponential fraction through the 16th power of L *
-- x, for |x| ≤ 1/2. There are thirteen steps of Horner's rule, each of which halves what the omitted terms weigh. The
-- fraction lies within 7/10 of 1, so the error is within 2 ^ -45 of it. Assumes nothing.
use mathlib.Core.Path.{◌≡◌}
use Prim.Native.Nat.{ℕ, suc, ◌+◌, ◌*◌, ◌^◌, ◌≤◌}
use native.Mathlib.Nat.{mul-pos}
use native.Mathlib.Omega.{arith}
use lib.Dec.{lit≤, lit<}
use lib.Ieee.{Float, binary64, mul}
use Rattle.rounding_error.specs.Fraction.{Frac, frac, nil, times, Same, Within, Mag}
use Rattle.rounding_error.specs.Value.{val, Is, Rounds}
use Rattle.rounding_error.proofs.Same.{same_refl, same-trans}
use Rattle.rounding_error.proofs.Within.{from, to, rescale, beside}
use Rattle.rounding_error.proofs.ProductErrors.{mag-times}
use Rattle.rounding_error.proofs.Value.{is-near}
use Rattle.rounding_error.proofs.OperandErrors.{mul-approx}
use Rattle.polynomials.specs.Taylor.{factorial, power}
use Rattle.polynomials.specs.Horner.{ln2, power_steps, power_near}
use Rattle.elementary.specs.Answers.{two, half}
use Rattle.elementary.specs.Close.{Part, power_fraction}
use Rattle.polynomials.proofs.Nested.{nested, rises}
use Rattle.polynomials.proofs.Horner.{g, cost, last, horner-near, nested-mag}
use Rattle.polynomials.proofs.CosineNear.{once}

one_on : (n : ℕ) → 2 * factorial n ≤ factorial (1 + n) * 2
unfolding factorial
one_on n = let e : 1 + n ≡ suc n = omega arith in rw e (omega arith)

-- The error is 53 units, from a number within 7/10 of 1.
pub record Tight (v : Float) (f : Frac) : Type 0 where
  pub near : Rounds g 53 v f
  pub about : Within 10 7 f (frac 1 0 1)

module _ (x : Float) (X : Frac) (x-is : Is x X) (half : Within 2 1 X nil) where
  Y : Frac
  Y = times (val ln2) X

  Y-mag : Within 20 7 Y nil
  unfolding Y
  Y-mag =
      record {
        left = mul-pos (lit< tt) half.left;
        right = lit< tt;
        above = omega (arith, half.above);
        below = omega (arith, half.below);
      }

  Y-half : Within 2 1 Y nil
  Y-half = rescale (lit< tt) (lit≤ tt) Y-mag

  Y-near : Rounds g 1 (mul binary64 ln2 x) Y
  unfolding Y
  Y-near =
      let m : Within g g (times (val ln2) X) nil = rescale (lit< tt) (lit≤ tt) Y-mag in
      mul-approx binary64 1 0 0 tt (record { real = tt; same = omega arith }) one-mag (is-near g x-is)
      (same_refl m.left) m (lit≤ tt)
    where
      one-mag : Mag 1 (val ln2)
      one-mag = omega arith

  fraction-is : Same (nested 1 Y 0 16) (power_fraction X)
  unfolding Y power
  fraction-is =
      same-trans
      (once (nested 1 Y 0 16) (nested-mag 1 2 (lit< tt) one_on (mul binary64 ln2 x) Y Y-half Y-near 0 16).left)
      (rises Y 0 16 Y-half.left)

  nest-about : Within 10 7 (nested 1 Y 0 16) (frac 1 0 1)
  unfolding nested factorial
  nest-about =
      beside (frac 1 0 1) (lit< tt) (rescale (lit< tt) (lit≤ tt)
      (mag-times Y-mag (nested-mag 1 2 (lit< tt) one_on (mul binary64 ln2 x) Y Y-half Y-near 1 15)))

  pub power-tight : Tight (power_near x) (power_fraction X)
  unfolding power_near cost last factorial
  power-tight =
      let w =
      horner-near 1 2 (lit< tt) one_on (mul binary64 ln2 x) Y Y-half Y-near 0 power_steps 16 (2 ^ 18) (lit< tt)
      (lit≤ tt) (lit≤ tt) (lit≤ tt) in
      record { near = record { real = w.real; near = to fraction-is w.near }; about = from fraction-is nest-about }

-- ---- u units are 2 ^ -45 of a fraction that is at least u / 512; as it is, doubled, and halved
part : (u : ℕ) {v : Float} {f : Frac} → f.n * 512 + u * f.d ≤ f.p * 512 → Rounds g u v f → Part v f
part u {f = f} h w = record { real = w.real; near = rescale (lit< tt) (omega arith) w.near }

pub as-it-is : {v : Float} {f : Frac} → Tight v f → Part v f
as-it-is t = part 53 (omega (arith, t.about.below)) t.near

pub doubled : {v : Float} {f : Frac} → Tight v f → Part (mul binary64 two v) (times (frac 2 0 1) f)
doubled {f = f} t =
    let m : Within g (4 * g) (times (frac 2 0 1) f) nil =
    record {
      left = omega (arith, t.about.left);
      right = lit< tt;
      above = omega (arith, t.about.above);
      below = omega (arith, t.about.below);
    } in
    part 114 (omega (arith, t.about.below))
    (mul-approx binary64 8 0 3 tt (record { real = tt; same = omega arith }) mag-two t.near
    (same_refl m.left) m (lit≤ tt))
  where
    mag-two : Mag 2 (frac 2 0 1)
    mag-two = omega arith

pub halved : {v : Float} {f : Frac} → Tight v f → Part (mul binary64 half v) (times (frac 1 0 2) f)
halved {f = f} t =
    let m : Within g g (times (frac 1 0 2) f) nil =
    record {
      left = omega (arith, t.about.left);
      right = lit< tt;
      above = omega (arith, t.about.above);
      below = omega (arith, t.about.below);
    } in
    part 55 (omega (arith, t.about.below))
    (mul-approx binary64 2 0 1 tt (record { real = tt; same = omega arith }) mag-half t.near
    (same_refl m.left) m (lit≤ tt))
  where
    mag-half : Mag 1 (frac 1 0 2)
    mag-half = omega arith
