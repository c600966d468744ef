-- An f64 sum between two ends is finite and has their sign; and since the ends are f64, the exact sum lies between them
-- too. Assumes nothing.
use mathlib.Core.Path.{◌≡◌, refl, sym, ap, ◌∙◌, subst}
use mathlib.Core.Logic.{inl, inr}
use mathlib.Core.Bool.{Bool, true, false, ◌||◌, ◌&&◌, cond, false≢true}
use Prim.Native.Nat.{ℕ, suc, ◌+◌, ◌-◌, ◌*◌, ◌^◌, ◌≤◌, ◌<◌}
use native.Mathlib.Nat.{le_of_eq, le_of_lt, mul-le-mul_right}
use native.Mathlib.Omega.{arith}
use lib.Dec.{T, ltb, eqb, lit<, ltb→lt, eqb→eq}
use lib.Pow.{pow_pos}
use lib.Ieee.{Float, nan, inf, fin, binary64, round, lt, eq, le, below}
use lib.Ieee.Exact.{HasValue}
use lib.Ieee.Order.{round_mono}
use lib.Ieee.Scale.{finite}
use borrow.Author.Tests.{ltb-true}
use Rattle.rounding.proofs.Comparing.{lt-units, eq-units}
use Rattle.rounding.proofs.NumberOrders.{lt-or-ge, clash}
use Rattle.rounding.proofs.Values.{value-finite}
use Rattle.rounding.proofs.WholeUnits.{near, places}
use Rattle.fused32.proofs.Infinite.{under_top}
use Rattle.fused32.proofs.Neighbours.{rounds}
use Rattle.biased_sum.specs.Biased.{near_of, far-of, Frame}
use Rattle.biased_sum.proofs.Grid.{L}
use Rattle.biased_sum.proofs.ExactFrames.{own, far-even}

-- ---- rounding keeps the order of sizes
le-sizes : (x y : Float) (a b : ℕ) → HasValue x false a L → HasValue y false b L → T (le x y) → a ≤ b
unfolding le
le-sizes x y a b h k l =
    go (ltb a b) (ltb→lt a b) (eqb a b) (eqb→eq a b) (subst T
    (ap (λ (z : Bool). z || eq x y) (lt-units x y false false a b L (pow_pos 1074) h k)
    ∙ ap (λ (z : Bool). ltb a b || z) (eq-units x y false false a b L (pow_pos 1074) h k)) l)
  where
    go : (p : Bool) → (T p → a < b) → (q : Bool) → (T q → a ≡ b) → T (p || (q && true)) → a ≤ b
    go true f q g t = le_of_lt (f tt)
    go false f true g t = le_of_eq (g tt)
    go false f false g t = absurd t

module _ (v : ℕ) (bound : near binary64 v * 2 ^ places binary64 v < 2 ^ (1074 + 1024)) (q j : ℕ) (few : q < 2 ^ 53)
    (J : j ≤ 1200) where
  abbrev G : ℕ
  G = near binary64 v * 2 ^ places binary64 v

  not-above : v ≤ q * 2 ^ j → G ≤ q * 2 ^ j
  not-above h =
      le-sizes (round binary64 false v L) (round binary64 false (q * 2 ^ j) L) G (q * 2 ^ j) (rounds v bound false)
      (own false q j few J) (round_mono binary64 v L (q * 2 ^ j) L (pow_pos 1074) (pow_pos 1074) (mul-le-mul_right L h))

  not-below : q * 2 ^ j ≤ v → q * 2 ^ j ≤ G
  not-below h =
      le-sizes (round binary64 false (q * 2 ^ j) L) (round binary64 false v L) (q * 2 ^ j) G (own false q j few J)
      (rounds v bound false)
      (round_mono binary64 (q * 2 ^ j) L v L (pow_pos 1074) (pow_pos 1074) (mul-le-mul_right L h))

-- ---- what lies between two finite values is finite
pub between-finite : (x y z : Float) → T (finite x) → T (finite z) → lt x y ≡ true → lt y z ≡ true → T (finite y)
unfolding lt
between-finite nan y z f g h k = absurd f
between-finite (inf s) y z f g h k = absurd f
between-finite (fin s m e) y nan f g h k = absurd g
between-finite (fin s m e) y (inf u) f g h k = absurd g
between-finite (fin s m e) nan (fin u n d) f g h k = absurd (false≢true h)
between-finite (fin s m e) (inf true) (fin u n d) f g h k = absurd (false≢true h)
between-finite (fin s m e) (inf false) (fin u n d) f g h k = absurd (false≢true k)
between-finite (fin s m e) (fin t o c) (fin u n d) f g h k = tt

-- ---- the ends
between : (s S : Bool) (l h G : ℕ) → below s (cond s h l) S G ≡ true → below S G s (cond s l h) ≡ true
    → (S ≡ s) × (l < G) × (G < h)
between false false l h G a b = (refl, ltb-true l G a, ltb-true G h b)
between false true l h G a b = absurd (false≢true a)
between true false l h G a b = absurd (false≢true b)
between true true l h G a b = (refl, ltb-true l G b, ltb-true G h a)

pub record Lies (s S : Bool) (k v : ℕ) : Type 0 where
  pub sign : S ≡ s
  pub from : near_of k ≤ v
  pub to : v < far-of k

module _ (s S : Bool) (k v : ℕ) (m low high x : Float) (F : Frame s k m low high)
    (is : x ≡ round binary64 S v (2 ^ 1074)) (a : lt low x ≡ true) (b : lt x high ≡ true) where
  bound : near binary64 v * 2 ^ places binary64 v < 2 ^ (1074 + 1024)
  bound =
      under_top v S (subst (λ (z : Float). T (finite z)) is
      (between-finite low x high (value-finite low s _ L F.lower) (value-finite high s _ L F.upper) a b))

  pub inside : Lies s S k v
  inside =
      let K : 925 + k ≤ 1200 = omega (arith, F.small) in
      let g = near binary64 v * 2 ^ places binary64 v in
      let w : HasValue x S g L = subst (λ (z : Float). HasValue z S g L) (sym is) (rounds v bound S) in
      let (same, lo, hi) =
      between s S (near_of k) (far-of k) g
      (sym (lt-units low x s S (cond s (far-of k) (near_of k)) g L (pow_pos 1074) F.lower w) ∙ a)
      (sym (lt-units x high S s g (cond s (near_of k) (far-of k)) L (pow_pos 1074) w F.upper) ∙ b) in
      record {
        sign = same;
        from = elim (lt-or-ge v (near_of k)) [
          | inl l ↦ absurd (clash (near_of k) g lo
              (not-above v bound (2 ^ 53 - 2 ^ 23) (925 + k) (lit< tt) K (le_of_lt l)))
          | inr l ↦ l
        ];
        to = elim (lt-or-ge v (far-of k)) [
          | inl l ↦ l
          | inr l ↦ absurd (clash g (far-of k) hi (top l))
        ];
      }
    where
      top : far-of k ≤ v → far-of k ≤ near binary64 v * 2 ^ places binary64 v
      top l =
          let J : suc (925 + k) ≤ 1200 = omega (arith, F.small) in
          subst (λ (z : ℕ). z ≤ near binary64 v * 2 ^ places binary64 v) (far-even k)
          (not-below v bound (2 ^ 52 + 2 ^ 23) (suc (925 + k)) (lit< tt) J
          (subst (λ (z : ℕ). z ≤ v) (sym (far-even k)) l))
