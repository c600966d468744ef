-- The rounded sum of two values of 53 digits, less the larger of them, has 53 digits too. Either nothing was rounded,
-- and the smaller is left; or the unit that was rounded to divides the larger, or is twice its last place. Units are 2
-- ^ -1074. Assumes nothing.
use mathlib.Core.Path.{◌≡◌, sym, ap, ◌∙◌}
use mathlib.Core.Logic.{inl, inr}
use Prim.Native.Nat.{ℕ, suc, ◌+◌, ◌-◌, ◌*◌, ◌^◌, ◌≤◌, ◌<◌}
use native.Mathlib.Nat.{le_trans, le_of_eq, lt_of_lt_of_le, suc-mul, mul-le-mul_right, mul-lt-mul_of_pos_right, pow-suc}
use native.Mathlib.Omega.{arith}
use lib.Pow.{pow-add, pow_pos, pow_mono}
use lib.Ieee.{binary64}
use Rattle.rounding.proofs.NearestWhole.{closest-ge}
use Rattle.rounding.proofs.NumberOrders.{lt-or-ge, pow_lt_back, sub-mul}
use Rattle.rounding.proofs.WholeUnits.{exact-multiple, near, places, v-ge}
use Rattle.rounding.proofs.WithinHalfDivisor.{closest-most}
use Rattle.near_fused.proofs.RoundTo53.{Few, rounded, whole, lower, few-of, near-lo, near-hi}

module _ (m a n b : ℕ) (M : m < 2 ^ 53) (N : n < 2 ^ 53) (o : n * 2 ^ b ≤ m * 2 ^ a) where
  abbrev X : ℕ
  X = m * 2 ^ a

  abbrev Y : ℕ
  Y = n * 2 ^ b

  -- What is left if it is d of the unit, and that lies above the smaller's last place.
  rest : (d j : ℕ) → b < j → d * 2 ^ j * 2 ≤ Y * 2 + 2 ^ j → Few (d * 2 ^ j)
  rest d j l h =
      let c : Y < 2 ^ 53 * 2 ^ b = mul-lt-mul_of_pos_right N (pow_pos b) in
      let e : 2 ^ b * 2 ≤ 2 ^ j = le_trans (le_of_eq (sym (pow-suc 2 b))) (pow_mono l) in
      lower-few (omega (arith, pow_pos j))
    where
      lower-few : d * 2 ^ j < suc (2 ^ 53) * 2 ^ j → Few (d * 2 ^ j)
      lower-few h = few-of d j (lower d (2 ^ 53) (2 ^ j) h)

  module _ (v : ℕ) where
    abbrev j : ℕ
    j = places binary64 v

    abbrev u : ℕ
    u = 2 ^ j

    pub left-of-sum : v ≡ X + Y → (D : ℕ) × (rounded v ≡ X + D) × Few D
    left-of-sum e = elim (lt-or-ge a j) [
      | inl l ↦
          let c : 2 ^ a * 2 ≤ u = le_trans (le_of_eq (sym (pow-suc 2 a))) (pow_mono l) in
          let g : 2 ^ 52 * u ≤ v = v-ge binary64 v (omega arith) in
          let h : X + 2 ^ a ≤ 2 ^ 53 * 2 ^ a =
          le_trans (le_of_eq (sym (suc-mul m (2 ^ a)))) (mul-le-mul_right (2 ^ a) M) in
          let t : 2 ^ (52 + j) < 2 ^ (54 + a) = omega (arith, pow-add 2 52 j, pow-add 2 54 a, pow_pos a) in
          let k : j ≡ suc a = omega (arith, pow_lt_back (52 + j) (54 + a) t) in
          let w : u ≡ 2 ^ a * 2 = ap (λ (z : ℕ). 2 ^ z) k ∙ pow-suc 2 a in
          let p = near binary64 v * 2 in
          let r : rounded v ≡ p * 2 ^ a = ap (λ (z : ℕ). near binary64 v * z) w ∙ omega arith in
          let y : X < v = lt_of_lt_of_le (mul-lt-mul_of_pos_right M (pow_pos a)) (twice (2 ^ a) u v c g) in
          let q : m ≤ p = lower m p (2 ^ a) (reach X v (rounded v) (2 ^ a) u p w r y (near-hi v)) in
          let f : (p - m) * 2 ^ a ≡ p * 2 ^ a - X = sub-mul p m (2 ^ a) in
          let x : p - m ≤ 2 ^ 53 =
          lower (p - m) (2 ^ 53) (2 ^ a)
          (short X Y v (rounded v) (2 ^ a) u (p * 2 ^ a) ((p - m) * 2 ^ a) (pow_pos a) w r e f h o (near-lo v)) in (
            (p - m) * 2 ^ a,
            r ∙ joined X (p * 2 ^ a) ((p - m) * 2 ^ a) (mul-le-mul_right (2 ^ a) q) f,
            few-of (p - m) a x,
          )
      | inr g ↦ elim (lt-or-ge b j) [
        | inl l ↦
            let w = m * 2 ^ (a - j) in
            let i : X ≡ w * u = whole m a j g in
            let q : w ≤ near binary64 v = closest-ge v u w (pow_pos j) (omega arith) in
            let f : (near binary64 v - w) * u ≡ rounded v - w * u = sub-mul (near binary64 v) w u in (
              (near binary64 v - w) * u,
              omega (arith, mul-le-mul_right u q),
              rest (near binary64 v - w) j l (omega (arith, near-lo v, mul-le-mul_right u q)),
            )
        | inr k ↦ (
          Y,
          exact-multiple binary64 v (m * 2 ^ (a - j) + n * 2 ^ (b - j))
              (e ∙ omega (arith, whole m a j g, whole n b j k))
              ∙ e,
          (n, b, ap (λ (z : ℕ). n * 2 ^ z) (omega arith), N),
        )
      ]
    ]
      where
        twice : (t u v : ℕ) → t * 2 ≤ u → 2 ^ 52 * u ≤ v → 2 ^ 53 * t ≤ v
        twice t u v h k = omega arith

        reach : (X v G t u p : ℕ) → u ≡ t * 2 → G ≡ p * t → X < v → v * 2 ≤ G * 2 + u → X < suc p * t
        reach X v G t u p a b c d = omega arith

        short : (X Y v G t u P D : ℕ) → 0 < t → u ≡ t * 2 → G ≡ P → v ≡ X + Y → D ≡ P - X → X + t ≤ 2 ^ 53 * t → Y ≤ X
            → G * 2 ≤ v * 2 + u → D < suc (2 ^ 53) * t
        short X Y v G t u P D a b c d e f g h = omega arith

        joined : (X P D : ℕ) → X ≤ P → D ≡ P - X → P ≡ X + D
        joined X P D h e = omega arith

    pub left-of-difference : v ≡ X - Y → (D : ℕ) × (X ≡ rounded v + D) × Few D
    left-of-difference e = elim (lt-or-ge a j) [
      | inl l ↦
          let c : 2 ^ a * 2 ≤ u = le_trans (le_of_eq (sym (pow-suc 2 a))) (pow_mono l) in
          let g : 2 ^ 52 * u ≤ v = v-ge binary64 v (omega arith) in
          let h : X < 2 ^ 53 * 2 ^ a = mul-lt-mul_of_pos_right M (pow_pos a) in
          absurd (omega arith)
      | inr g ↦ elim (lt-or-ge b j) [
        | inl l ↦
            let w = m * 2 ^ (a - j) in
            let i : X ≡ w * u = whole m a j g in
            let q : near binary64 v ≤ w = closest-most v u w (pow_pos j) (omega arith) in
            let f : (w - near binary64 v) * u ≡ w * u - rounded v = sub-mul w (near binary64 v) u in (
              (w - near binary64 v) * u,
              omega (arith, mul-le-mul_right u q),
              rest (w - near binary64 v) j l (omega (arith, near-hi v, mul-le-mul_right u q)),
            )
        | inr k ↦
            let x : rounded v ≡ v =
            exact-multiple binary64 v (m * 2 ^ (a - j) - n * 2 ^ (b - j))
            (e ∙ ap (λ (z : ℕ). z - Y) (whole m a j g) ∙ ap (λ (z : ℕ). m * 2 ^ (a - j) * u - z)
            (whole n b j k) ∙ sym (sub-mul (m * 2 ^ (a - j)) (n * 2 ^ (b - j)) u)) in
            (Y, omega arith, (n, b, ap (λ (z : ℕ). n * 2 ^ z) (omega arith), N))
      ]
    ]
