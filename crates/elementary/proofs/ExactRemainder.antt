-- E2. x - k * H in four exact steps, for 1 < |x| ≤ 256 and a guess k = j - 256. H is 26353589 / 2 ^ 24 + 8947107 / 2 ^
-- 49, so k times either part has few digits. x is a whole number of 2 ^ -52, as k * H is, and both differences are at
-- most about 1 in magnitude. So the last step rounds x - k * H itself. Assumes nothing.
use mathlib.Core.Path.{◌≡◌, refl, ap, ◌∙◌, subst}
use mathlib.Core.Logic.{◌⊎◌, inl, inr}
use mathlib.Core.Bool.{Bool, true, false, not}
use Prim.Native.Nat.{ℕ, zero, suc, ◌+◌, ◌*◌, ◌^◌, ◌≤◌, ◌<◌}
use native.Mathlib.Nat.{le_trans, lt_of_mul-lt-mul_right, mul-lt-mul_of_pos_right, mul-one, mul-pos}
use native.Mathlib.Omega.{arith}
use lib.IntN.{pos}
use lib.Dec.{T, nleb→lt, lit≤, lit<}
use lib.Ieee.{Float, nan, inf, fin, binary64, up, down, round, neg, sub, mul, fits, of_int}
use lib.Ieee.Back.{round_whole}
use Rattle.rounding.proofs.Values.{fits-parts}
use Rattle.rounding_error.specs.Fraction.{Frac, frac, plus, times, opp, Same, Within}
use Rattle.rounding_error.specs.Value.{signed, val, Is, nearest_to}
use Rattle.rounding_error.proofs.Same.{sums, same_refl, same-sym, same-trans, plus-same, opp-same}
use Rattle.rounding_error.proofs.Within.{from}
use Rattle.rounding_error.proofs.Value.{val_pos, is-val, value-is, neg-val, neg-finite}
use Rattle.rounding_error.proofs.Exact.{sub_is, mul_is}
use Rattle.rounding_error.proofs.Nearest.{nearest-same, add-nearest}
use Rattle.rounding_error.proofs.Grid.{grid-of}
use Rattle.elementary.specs.Reduction.{H}
use Rattle.polynomials.specs.Range.{at_most}
use Rattle.elementary.specs.Steps.{high_part, low_part, Guess, left, Rest}

abbrev pub count : ℕ → Float
count j = sub binary64 (of_int binary64 (pos j)) (fin false 1 (pos 8))

abbrev pub minus_turns : Float → Float → Float
minus_turns x k = sub binary64 (sub binary64 x (mul binary64 k high_part)) (mul binary64 k low_part)

count-is : (j : ℕ) → j ≤ 511 → Is (count j) (frac j 256 1)
unfolding of_int
count-is j h =
    sub_is {t = 0}
    (value-is (round binary64 false j 1) false j 1 (lit< tt) (round_whole binary64 false j (le_trans h (lit≤ tt))))
    (is-val (fin false 1 (pos 8)) tt) (omega arith) (omega arith)

-- (p - n) / F - (a - b) / D, where F is E * D.
less-core : (p n a b D E : ℕ)
    → (p * D + b * (E * D)) * (E * D) + (n + a * E) * (E * D * D)
    ≡ (p + b * E) * (E * D * D) + (n * D + a * (E * D)) * (E * D)
less-core p n a b D E = simp sums

less-same : (p n a b D E F : ℕ) → E * D ≡ F → 0 < D → 0 < F
    → Same (plus (frac p n F) (opp (frac a b D))) (frac (p + b * E) (n + a * E) F)
less-same p n a b D E F e P Q =
    record {
      left = mul-pos Q P;
      right = Q;
      cross =
          subst (λ (F : ℕ). (p * D + b * F) * F + (n + a * E) * (F * D) ≡ (p + b * E) * (F * D) + (n * D + a * F) * F) e
          (less-core p n a b D E);
    }

module _ (x : Float) (j p n : ℕ) (k : Float) (x-is : Is x (frac p n (2 ^ 52))) (k-is : Is k (frac j 256 1))
    (high : j ≤ 511) (near : Within 10 8 (frac p n (2 ^ 52)) (times (frac j 256 1) H)) where
  k-hi : Is (mul binary64 k high_part) (frac (j * 26353589) (256 * 26353589) (2 ^ 24))
  k-hi = mul_is {t = 24} k-is (is-val high_part tt) (omega arith) (omega arith)

  k-lo : Is (mul binary64 k low_part) (frac (j * 8947107) (256 * 8947107) (2 ^ 49))
  k-lo = mul_is {t = 49} k-is (is-val low_part tt) (omega arith) (omega arith)

  -- x less the high part, over 2 ^ 52.
  P : ℕ
  P = p + 256 * 26353589 * 2 ^ 28

  N : ℕ
  N = n + j * 26353589 * 2 ^ 28

  x-hi : Is (sub binary64 x (mul binary64 k high_part)) (frac P N (2 ^ 52))
  unfolding P N
  x-hi =
      sub_is {t = 52} x-is k-hi
      (less-same p n (j * 26353589) (256 * 26353589) (2 ^ 24) (2 ^ 28) (2 ^ 52) refl (lit< tt) (lit< tt))
      (record {
        hi = omega (arith, near.above, near.below);
        lo = omega (arith, near.above, near.below);
        deep = lit≤ tt;
      })

  last-same : Same (plus (frac P N (2 ^ 52)) (opp (frac (j * 8947107) (256 * 8947107) (2 ^ 49))))
      (frac (P + 256 * 8947107 * 2 ^ 3) (N + j * 8947107 * 2 ^ 3) (2 ^ 52))
  last-same = less-same P N (j * 8947107) (256 * 8947107) (2 ^ 49) (2 ^ 3) (2 ^ 52) refl (lit< tt) (lit< tt)

  -- Less the low part too it is x - k * H.
  x-left : Same (frac (P + 256 * 8947107 * 2 ^ 3) (N + j * 8947107 * 2 ^ 3) (2 ^ 52)) (left x j)
  unfolding P N
  x-left =
      let J = times (frac j 256 1) H in
      same-trans (same-trans (omega arith)
      (same-sym (less-same p n (j * 884279719003555 + 256 * 0) (j * 0 + 256 * 884279719003555) (2 ^ 49) (2 ^ 3)
      (2 ^ 52) refl (lit< tt) (lit< tt))))
      (plus-same (same-sym x-is.same) (same_refl {x = opp J} (lit< tt)))

  rest-is : Is (minus_turns x k) (left x j)
  unfolding P N
  rest-is =
      let i =
      sub_is {f = binary64} {t = 52} x-hi k-lo last-same
      (record {
        hi = omega (arith, near.above, near.below);
        lo = omega (arith, near.above, near.below);
        deep = lit≤ tt;
      }) in
      record { real = i.real; same = same-trans i.same x-left }

  -- The last step rounds that number itself, and its second operand is not zero.
  rest-once : (j < 256) ⊎ (256 < j) → minus_turns x k ≡ nearest_to binary64 (left x j)
  unfolding sub
  rest-once away =
      let d = sub binary64 x (mul binary64 k high_part) in
      let l = mul binary64 k low_part in
      add-nearest binary64 d (neg l) x-hi.real (neg-finite l k-lo.real)
      (rw (neg-val l) (some (val l).p (val l).n (val l).d (val_pos l) k-lo.same.cross away))
      ∙ ap (λ (q : Frac). nearest_to binary64 (plus (val d) q)) (neg-val l)
      ∙ nearest-same binary64 (same-trans (plus-same x-hi.same (opp-same k-lo.same))
      (same-trans last-same x-left))
    where
      some : (u v w : ℕ) → 0 < w → u * 2 ^ 49 + 256 * 8947107 * w ≡ j * 8947107 * w + v * 2 ^ 49 → (j < 256) ⊎ (256 < j)
          → 0 < v + u
      some zero zero w W e (inl h) = omega (arith, mul-lt-mul_of_pos_right h W)
      some zero zero w W e (inr h) = omega (arith, mul-lt-mul_of_pos_right h W)
      some zero (suc v) w W e away = omega arith
      some (suc u) v w W e away = omega arith

-- ---- x is a whole number of 2 ^ -52, and k is not zero
apart : (s : Bool) (N j : ℕ) → 2 ^ 52 < N → Within 10 8 (signed s N (2 ^ 52)) (times (frac j 256 1) H)
    → (j < 256) ⊎ (256 < j)
apart false N j h w = inr (omega (arith, w.above))
apart true N j h w = inl (omega (arith, w.below))

bigger : (s : Bool) (A C N D : ℕ) → 0 < D → C < A → Same (signed s A C) (signed s N D) → D < N
bigger false A C N D Z h e = lt_of_mul-lt-mul_right C (omega (arith, e.cross, mul-lt-mul_of_pos_right h Z))
bigger true A C N D Z h e = lt_of_mul-lt-mul_right C (omega (arith, e.cross, mul-lt-mul_of_pos_right h Z))

pub rest-law : (x : Float) (j : ℕ) → T (fits binary64 x) → T (not (at_most 1 x)) → T (at_most 256 x) → Guess x j
    → Rest x j (minus_turns x (count j))
rest-law nan j f a b g = absurd b
rest-law (inf s) j f a b g = absurd b
rest-law (fin s m e) j f a b g =
    let above : 1 * down e < m * up e = nleb→lt (m * up e) (1 * down e) a in
    let u =
    grid-of binary64 s m e 0 52 (fits-parts binary64 s m e f).0 (lit≤ tt)
    (rw (mul-one (m * up e)) (omega arith)) in
    go s u.N u.is (bigger s (m * up e) (down e) u.N (2 ^ 52) (lit< tt) (omega arith) u.is.same)
    (from u.is.same g.near)
  where
    go : (t : Bool) (N : ℕ) → Is (fin s m e) (signed t N (2 ^ 52)) → 2 ^ 52 < N
        → Within 10 8 (signed t N (2 ^ 52)) (times (frac j 256 1) H)
        → Rest (fin s m e) j (minus_turns (fin s m e) (count j))
    go false N i h w =
        let c = count-is j g.high in
        record {
          is = rest-is (fin s m e) j N 0 (count j) i c g.high w;
          once = rest-once (fin s m e) j N 0 (count j) i c g.high w (apart false N j h w);
        }
    go true N i h w =
        let c = count-is j g.high in
        record {
          is = rest-is (fin s m e) j 0 N (count j) i c g.high w;
          once = rest-once (fin s m e) j 0 N (count j) i c g.high w (apart true N j h w);
        }
