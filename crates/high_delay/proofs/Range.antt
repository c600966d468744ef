-- W11e. Between two delays from 0 to 2^34 every phase's delay lies from 0 to 2^34, so that 4 times it is at most 2^36.
-- The lower end follows from the order alone. For the upper end, the difference is off by at most 2^-20, and 2^34 +
-- 2^-20 rounds to 2^34. Assumes nothing.
use Rattle.std.proofs.Common.{◌≡◌, ℕ, ◌+◌, ◌*◌, ◌^◌, ◌<◌, ◌≤◌, true, false, T, pos, refl, ◌∙◌, inl, inr}
use Rattle.std.proofs.Common.{mul-le-mul_right, mul-le-mul_left, mul-pos, le_of_mul-le-mul_right, arith, lit<, lit≤}
use lib.Ieee.{Float, fin, binary64, round, neg, add, sub, mul, lt, le, fits}
use lib.Ieee.Fits.{neg-fits, add-fits}
use lib.Ieee.Positive.{den, den_pos}
use lib.Ieee.Scale.{finite}
use Rattle.constants.specs.Numbers.{zero-f, one-f}
use Rattle.rounding_error.specs.Fraction.{Within}
use Rattle.rounding_error.specs.Value.{val, signed}
use Rattle.rounding_error.proofs.OneRounding.{round-absolute}
use Rattle.interval.proofs.Signed.{ring, plus, less, gain, loss, Ordered, bound, le-le}
use Rattle.interval.proofs.Operations.{Rounds, in_order, added, multiplied}
use Rattle.interval.proofs.Between.{Between, between, point, sum-between, difference-between}
use Rattle.interval.proofs.MonotoneOperations.{sum-grows}
use Rattle.interval.proofs.Products.{rises, product-between}
use Rattle.high_delay.specs.Between.{delay_at}
use Rattle.high_delay.proofs.Parts.{own, turned, neg-finite, sided, valued, split, part, scaled}

-- 2^34, the largest delay of an oversampled reader.
abbrev pub M : Float
M = fin false 1 (pos 34)

abbrev less-M : Float
less-M = fin true 1 (pos 34)

module _ (c p d : Float) (fp : T (fits binary64 p)) (C : Between zero-f one-f c) (P : Between zero-f M p)
    (D : Between zero-f M d) where
  abbrev n : Float
  n = neg p

  abbrev e : Float
  e = add binary64 d n

  abbrev x : Float
  x = mul binary64 c e

  np : T (finite n)
  np = neg-finite p P.above.second

  E : Between less-M M e
  unfolding sub add neg
  E = difference-between binary64 D P refl refl tt tt

  X : Between less-M M x
  unfolding mul le lt
  X = product-between binary64 tt C E refl refl tt tt

  loss-c : loss c ≡ 0
  loss-c = rises C.above refl

  loss-p : loss p ≡ 0
  loss-p = rises P.above refl

  loss-d : loss d ≡ 0
  loss-d = rises D.above refl

  gain-n : gain n ≡ 0
  gain-n = (turned p).0 ∙ loss-p

  c-below : gain c ≤ den c
  c-below = omega (arith, bound C.below, loss-c)

  -- The rounded difference, product and sum, each as one rounding of its exact value.
  difference : Rounds binary64 e (gain d * den n + gain n * den d) (loss d * den n + loss n * den d) (den d * den n)
  difference = added binary64 d n D.above.second np

  product : Rounds binary64 x (gain c * gain e + loss c * loss e) (gain c * loss e + loss c * gain e) (den c * den e)
  product = multiplied binary64 c e C.above.second E.above.second

  sum : Rounds binary64 (add binary64 p x) (gain p * den x + gain x * den p) (loss p * den x + loss x * den p)
      (den p * den x)
  sum = added binary64 p x P.above.second X.above.second

  own-n : Rounds binary64 n (gain n) (loss n) (den n)
  own-n = own binary64 n (neg-fits binary64 p fp) np

  nought : Rounds binary64 zero-f 0 0 1
  unfolding round
  nought = record { sign = false; size = 0; is = refl; same = refl }

  -- ---- the lower end
  lower-e : Ordered n e
  lower-e = record {
    first = np;
    second = E.above.second;
    order =
        in_order binary64 _ _ (den n) _ _ (den d * den n) (den_pos n) (mul-pos (den_pos d) (den_pos n)) own-n difference
        (rw loss-d (simp ring (omega arith)));
  }

  lower-x : Ordered n x
  lower-x = record {
    first = np;
    second = X.above.second;
    order =
        in_order binary64 _ _ (den n) _ _ (den c * den e) (den_pos n) (mul-pos (den_pos c) (den_pos e)) own-n product
        (rw (loss-c, gain-n)
        (simp ring (omega (
          arith,
          simp ring at (mul-le-mul_left (gain c) (rw gain-n at (bound lower-e))),
          mul-le-mul_right (loss n * den e) c-below,
        ))));
  }

  pub not-below : T (le zero-f (add binary64 p x))
  not-below =
      let t = turned p in
      in_order binary64 0 0 1 _ _ (den p * den x) (lit< tt) (mul-pos (den_pos p) (den_pos x)) nought sum
      (rw loss-p (simp ring (omega (arith, simp ring at (rw (gain-n, t.1, t.2) at (bound lower-x))))))

  -- ---- the upper end: the difference is at most delay - previous + 2^-20
  p-below : gain p ≤ 17179869184 * den p
  p-below = omega (arith, bound P.below, loss-p)

  d-below : gain d ≤ 17179869184 * den d
  d-below = omega (arith, bound D.below, loss-d)

  cc : ℕ
  cc = den d * den n

  few : difference.size ≤ cc * 2 ^ 34
  unfolding cc
  few =
      let t = turned p in
      part difference.sign (gain d * den n + gain n * den d) (loss d * den n + loss n * den d) difference.size
      (cc * 2 ^ 34) difference.same
      (rw gain-n (simp ring (omega (arith, simp ring at (mul-le-mul_right (den n) d-below)))))
      (rw (loss-d, t.1, t.2) (simp ring (omega (arith, simp ring at (mul-le-mul_right (den d) p-below)))))

  cc-pos : 0 < cc
  unfolding cc
  cc-pos = mul-pos (den_pos d) (den_pos n)

  off : Within (2 ^ 53 * 2) (2 ^ 34) (val e) (signed difference.sign difference.size cc)
  unfolding cc
  off =
      rw (← difference.is) at
      (round-absolute binary64 difference.sign difference.size cc 0 34 cc-pos (lit≤ tt) (lit≤ tt)
      (omega (arith, few))).near

  -- e - (d - p) ≤ 2^-20
  above : 1048576 * (gain e * cc + gain p * (den d * den e))
      ≤ 1048576 * (gain d * (den p * den e) + loss e * cc) + den e * cc
  above =
      let t = turned p in
      let v = valued e E.above.second in
      let w = split difference.sign difference.size cc in
      scaled (gain e) (loss e) (den e) cc (less difference.sign difference.size)
      (plus difference.sign difference.size) (gain d) (den p) (gain p) (den d)
      (rw (v.0, v.1, v.2, w.0, w.1, w.2) at off.above) (rw (gain-n, loss-d, t.1, t.2) at difference.same)

  -- 2^34 is what 2^34 + 2^-20 rounds to.
  top : Rounds binary64 M 18014398509481985 0 1048576
  unfolding round
  top = record { sign = false; size = 18014398509481985; is = refl; same = refl }

  -- p + e, if e is not below zero
  sum_top : loss e ≡ 0 → T (le (add binary64 p e) M)
  unfolding cc
  sum_top z =
      let t = turned p in
      in_order binary64 _ _ (den p * den e) 18014398509481985 0 1048576 (mul-pos (den_pos p) (den_pos e)) (lit< tt)
      (added binary64 p e P.above.second E.above.second) top
      (le_of_mul-le-mul_right
      (rw (loss-p, z)
      (simp ring (omega (
        arith,
        simp ring at (rw (z, t.2) at above),
        simp ring at (mul-le-mul_right (den p * den e) d-below),
      ))))
      (den_pos d))

  x-under : loss e ≡ 0 → Ordered x e
  x-under z = record {
    first = X.above.second;
    second = E.above.second;
    order =
        in_order binary64 _ _ (den c * den e) _ _ (den e) (mul-pos (den_pos c) (den_pos e)) (den_pos e) product
        (own binary64 e (add-fits binary64 d n) E.above.second)
        (rw (loss-c, z) (simp ring (omega (arith, simp ring at (mul-le-mul_right (gain e * den e) c-below)))));
  }

  x-none : gain e ≡ 0 → T (le x zero-f)
  x-none z =
      in_order binary64 _ _ (den c * den e) 0 0 1 (mul-pos (den_pos c) (den_pos e)) (lit< tt) product nought
      (rw (loss-c, z) (simp ring (omega arith)))

  itself : Ordered p p
  itself = (point p P.above.second).above

  whole : Rounds binary64 M 17179869184 0 1
  unfolding round
  whole = record { sign = false; size = 17179869184; is = refl; same = refl }

  finite-sum : (y : Float) → Between less-M M y → T (finite (add binary64 p y))
  unfolding add
  finite-sum y b =
      let w : Between less-M (fin false 1 (pos 35)) (add binary64 p y) = sum-between binary64 P b refl refl tt tt in
      w.above.second

  x-no-gain : gain e ≡ 0 → gain x ≤ loss x
  x-no-gain z =
      let o : Ordered x zero-f = record { first = X.above.second; second = tt; order = x-none z } in
      omega (arith, bound o)

  pub not-above : T (le (add binary64 p x) M)
  not-above = elim (sided e) [
    | inl z ↦
        le-le (add binary64 p x) (add binary64 p e) M (finite-sum x X) (finite-sum e E) tt
        (sum-grows binary64 itself (x-under z)) (sum_top z)
    | inr z ↦
        in_order binary64 _ _ (den p * den x) 17179869184 0 1 (mul-pos (den_pos p) (den_pos x)) (lit< tt) sum whole
        (rw loss-p
        (simp ring (omega (
          arith,
          simp ring at (mul-le-mul_right (den x) p-below),
          mul-le-mul_left (den p) (x-no-gain z),
        ))))
  ]

-- The delay of a phase, whose fraction lies from 0 to 1, lies from 0 to 2^34.
pub in-range : (previous delay fraction : Float) → T (fits binary64 previous) → Between zero-f one-f fraction
    → Between zero-f M previous → Between zero-f M delay → Between zero-f M (delay_at previous delay fraction)
unfolding sub
in-range p d c fp C P D = between tt tt (not-below c p d fp C P D) (not-above c p d fp C P D)
