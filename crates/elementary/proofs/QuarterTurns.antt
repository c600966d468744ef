-- E2. The k of the definition, the floor of x / H + 1/2, is j - 256 if -H / 2 ≤ x - (j - 256) * H < H / 2. So k modulo
-- 4 is j modulo 4, and x - k * H is the rest. These are inequalities between cross products, with a common denominator
-- cancelled. Assumes nothing.
use mathlib.Core.Path.{◌≡◌, sym, ap, ◌∙◌, subst}
use mathlib.Core.Bool.{Bool, true, false, not, cond}
use Prim.Native.Nat.{ℕ, suc, ◌+◌, ◌-◌, ◌*◌, ◌/◌, ◌%◌, ◌^◌, ◌≤◌, ◌<◌}
use native.Mathlib.Nat.{le_of_lt, le_of_mul-le-mul_right, lt_of_mul-lt-mul_right, mul-le-mul_right, add-mul, suc-mul}
use native.Mathlib.Nat.{mul-pos, div-eq_of_lt-le}
use native.Mathlib.Omega.{arith}
use lib.IntN.{ℤ, pos, negsuc, neg_ℤ, sub_ℕ}
use lib.Dec.{T, leb, ltb, leb→le, le→leb, nleb→lt, ltb→lt, nltb→le, lit<}
use lib.Ieee.{Float, nan, inf, fin, binary64, up, down}
use Rattle.rounding_error.specs.Fraction.{Frac, frac, plus, times, opp, over, whole, zp, zn, Same}
use Rattle.rounding_error.specs.Value.{val, Is, nearest_to}
use Rattle.rounding_error.proofs.Same.{same-sym, same-trans}
use Rattle.rounding_error.proofs.Value.{val_pos}
use Rattle.rounding.proofs.NumberOrders.{less}
use Rattle.rounding_error.proofs.Nearest.{nearest-same}
use Rattle.rounding_error.proofs.WholeDifferences.{rep-less}
use Rattle.elementary.specs.Reduction.{H, floor_of, turns, remainder, reduced, fourth}
use Rattle.polynomials.specs.Range.{at_most}
use Rattle.elementary.specs.Steps.{left, Rest, Settled}

-- ---- a floor: (p - n) / d + 256 lies from j to j + 1
floor-is : (q : Frac) (j : ℕ) → 0 < q.d → j * q.d + q.n ≤ q.p + 256 * q.d
    → q.p + 256 * q.d < (j + 1) * q.d + q.n → floor_of q ≡ sub_ℕ j 256
unfolding floor_of
floor-is q j D l u =
    go (leb q.n q.p) (ltb j 256) (leb→le q.n q.p) (nleb→lt q.n q.p) (ltb→lt j 256) (nltb→le j 256)
  where
    go : (a b : Bool) → (T a → q.n ≤ q.p) → (T (not a) → q.p < q.n) → (T b → j < 256) → (T (not b) → 256 ≤ j)
        → cond a (pos ((q.p - q.n) / q.d)) (neg_ℤ (pos ((q.n - q.p + (q.d - 1)) / q.d)))
        ≡ cond b (negsuc (256 - suc j)) (pos (j - 256))
    go true true a b c d = absurd (clash (a tt) (mul-le-mul_right q.d (up_one (c tt))))
      where
        up_one : j < 256 → j + 1 ≤ 256
        up_one h = omega arith

        clash : q.n ≤ q.p → (j + 1) * q.d ≤ 256 * q.d → ⊥
        clash h k = omega arith
    go true false a b c d =
        let e = less 256 j q.d (d tt) in
        let f = a tt in
        ap pos (div-eq_of_lt-le q.d (omega arith) (rw (add-mul (j - 256) 1 q.d) (omega arith)))
    go false true a b c d =
        let f = b tt in
        let e = less (suc j) 256 q.d (c tt) in
        let s = suc-mul (256 - suc j) q.d in
        let t = suc-mul j q.d in
        ap (λ (z : ℕ). neg_ℤ (pos z))
        (div-eq_of_lt-le {k = suc (256 - suc j)} q.d (omega arith)
        (rw (add-mul (suc (256 - suc j)) 1 q.d) (omega arith)))
    go false false a b c d = absurd (clash (b tt) (mul-le-mul_right q.d (d tt)))
      where
        clash : q.p < q.n → 256 * q.d ≤ j * q.d → ⊥
        clash h k = omega arith

fourth-of : (j : ℕ) → fourth (sub_ℕ j 256) ≡ j % 4
unfolding fourth
fourth-of j = go (ltb j 256) (ltb→lt j 256) (nltb→le j 256)
  where
    go : (b : Bool) → (T b → j < 256) → (T (not b) → 256 ≤ j)
        → fourth (cond b (negsuc (256 - suc j)) (pos (j - 256))) ≡ j % 4
    go true h k = let l = h tt in omega arith
    go false h k = let l = k tt in omega arith

pub fourth-small : (z : ℤ) → fourth z < 4
unfolding fourth
fourth-small (pos k) = omega arith
fourth-small (negsuc k) = omega arith

-- ---- -H / 2 ≤ q < H / 2
pub record Halves (q : Frac) : Type 0 where
  pub low : q.n * 2 ^ 50 ≤ q.p * 2 ^ 50 + 884279719003555 * q.d
  pub high : q.p * 2 ^ 50 < q.n * 2 ^ 50 + 884279719003555 * q.d

-- x - (j - 256) * H over xd * t, where H is h / t.
abbrev pub left_p : ℕ → ℕ → ℕ → ℕ → ℕ → ℕ
left_p xp xd j h t = xp * (1 * t) + (j * 0 + 256 * h) * xd

abbrev pub left_n : ℕ → ℕ → ℕ → ℕ → ℕ → ℕ
left_n xn xd j h t = xn * (1 * t) + (j * h + 256 * 0) * xd

low_half : (xp xn xd j h t : ℕ) → 0 < t → left_n xn xd j h t * (t * 2)
    ≤ left_p xp xd j h t * (t * 2) + h * (xd * (1 * t))
    → j * (xd * h * 2) + (xn * t * 2 + 0 * (xd * h)) ≤ xp * t * 2 + 1 * (xd * h) + 256 * (xd * h * 2)
low_half xp xn xd j h t P k = le_of_mul-le-mul_right {k = t} (omega arith) P

high_half : (xp xn xd j h t : ℕ) → left_p xp xd j h t * (t * 2) < left_n xn xd j h t * (t * 2) + h * (xd * (1 * t))
    → xp * t * 2 + 1 * (xd * h) + 256 * (xd * h * 2) < (j + 1) * (xd * h * 2) + (xn * t * 2 + 0 * (xd * h))
high_half xp xn xd j h t k = lt_of_mul-lt-mul_right t (omega arith)

rep-core : (zp zn j xp xn xd h t : ℕ) → zp + 256 ≡ j + zn
    → (xp * (1 * t) + (zp * 0 + zn * h) * xd) * (xd * (1 * t))
    + (xn * (1 * t) + (j * h + 256 * 0) * xd) * (xd * (1 * t))
    ≡ (xp * (1 * t) + (j * 0 + 256 * h) * xd) * (xd * (1 * t))
    + (xn * (1 * t) + (zp * h + zn * 0) * xd) * (xd * (1 * t))
rep-core zp zn j xp xn xd h t e = omega (arith, ap (λ (z : ℕ). z * (h * xd * (xd * t))) e)

module _ (x : Float) (j : ℕ) (w : Halves (left x j)) where
  turns-is : turns x ≡ sub_ℕ j 256
  unfolding turns
  turns-is =
      let X = val x in
      floor-is (plus (over X H.p H.d) (frac 1 0 2)) j
      (mul-pos (mul-pos (val_pos x) (lit< {m = 0} {n = 884279719003555} tt)) (lit< {m = 0} {n = 2} tt))
      (low_half X.p X.n X.d j H.p H.d (lit< tt) w.low)
      (high_half X.p X.n X.d j H.p H.d w.high)

  remainder_is : Same (remainder x) (left x j)
  unfolding remainder
  remainder_is =
      let X = val x in
      let D = mul-pos (val_pos x) (lit< {m = 0} {n = 2 ^ 49} tt) in
      subst (λ (k : ℤ). Same (plus X (opp (times (whole k 1) H))) (left x j)) (sym turns-is)
      (record {
        left = D;
        right = D;
        cross =
            rep-core (zp (sub_ℕ j 256)) (zn (sub_ℕ j 256)) j X.p X.n X.d H.p H.d (rep-less j 256).is;
      })

  reduced-is : nearest_to binary64 (left x j) ≡ reduced x
  unfolding reduced
  reduced-is = sym (nearest-same binary64 remainder_is)

-- |r| ≤ H / 2 < 1.
within-one : (r : Float) (q : Frac) → Is r q → Halves q → T (at_most 1 r)
within-one nan q i w = absurd i.real
within-one (inf s) q i w = absurd i.real
within-one (fin false m e) q i w =
    le→leb (m * up e) (1 * down e)
    (le_of_mul-le-mul_right {k = q.d} (omega (arith, i.same.cross, mul-le-mul_right (down e) (le_of_lt w.high)))
    i.same.right)
within-one (fin true m e) q i w =
    le→leb (m * up e) (1 * down e)
    (le_of_mul-le-mul_right {k = q.d} (omega (arith, i.same.cross, mul-le-mul_right (down e) w.low))
    i.same.right)

pub settle : (x r : Float) (j : ℕ) → Rest x j r → Halves (left x j) → Settled x (j % 4) r
settle x r j w h =
    let e : r ≡ reduced x = w.once ∙ reduced-is x j h in
    record {
      quarter = sym (fourth-of j) ∙ ap fourth (sym (turns-is x j h));
      rest = e;
      exact =
          subst (λ (z : Float). Is z (remainder x)) e
          (record { real = w.is.real; same = same-trans w.is.same (same-sym (remainder_is x j h)) });
      small = subst (λ (z : Float). T (at_most 1 z)) e (within-one r (left x j) w.is h);
    }
