-- The f64 sum of two f64, less the larger of them, has no more digits than an f64, so that this difference is exact.
-- Either nothing was rounded, and the smaller is left; or the unit that was rounded to, or half of it, divides the
-- larger and so also what is left, which is at most the smaller plus half that unit. Assumes nothing.
use Rattle.std.proofs.Common.{◌≡◌, ℕ, suc, ◌+◌, ◌-◌, ◌*◌, ◌^◌, ◌<◌, ◌≤◌, ◌⊎◌, sym, ap, ◌∙◌, inl, inr, le_trans}
use Rattle.std.proofs.Common.{le_of_eq, mul-le-mul_right, lt_of_mul-lt-mul_right, eq-or-lt_of_le, mul-le-mul_left}
use Rattle.std.proofs.Common.{mul-lt-mul_of_pos_right, mul-add, le_of_mul-le-mul_right, arith, lit<, pow_pos, pow_mono}
use lib.Ieee.{Float, binary64}
use Rattle.fused32.specs.Parts.{Short, amount}
use Rattle.fused32.proofs.SumUnit.{Divides, room, twice, which}
use Rattle.rounding.proofs.NearestWhole.{closest-ge}
use Rattle.rounding.proofs.NumberOrders.{sub-mul}
use Rattle.rounding.proofs.Units.{up-hid}
use Rattle.rounding.proofs.WholeUnits.{near, places}
use Rattle.rounding.proofs.WithinHalfDivisor.{closest-most, closest-near}

-- D has no more digits than an f64.
abbrev pub Few : ℕ → Type 0
Few D = (q : ℕ) × (i : ℕ) × (D ≡ q * 2 ^ i) × (q < 2 ^ 53)

few-of : (D d i : ℕ) → D ≡ d * 2 ^ i → d ≤ 2 ^ 53 → Few D
few-of D d i e h = elim (eq-or-lt_of_le h) [
  | inl f ↦ (2 ^ 52, suc i, e ∙ ap (λ (z : ℕ). z * 2 ^ i) f ∙ sym (up-hid binary64 i), lit< tt)
  | inr l ↦ (d, i, e, l)
]

module _ {x y : Float} (p : Short x) (q : Short y) (o : amount q ≤ amount p) where
  abbrev X : ℕ
  X = amount p

  abbrev Y : ℕ
  Y = amount q

  abbrev t : ℕ
  t = 2 ^ p.places

  -- What is left is the smaller number, with its own digits.
  own : (D : ℕ) → D ≡ Y → Few D
  own D e = (q.digits, q.places, e, q.few)

  module _ (v : ℕ) (le : v ≤ X + X) (mult : (j : ℕ) → j ≤ p.places → j ≤ q.places → (w : ℕ) × (v ≡ w * 2 ^ j)) where
    abbrev j : ℕ
    j = places binary64 v

    abbrev u : ℕ
    u = 2 ^ j

    abbrev n : ℕ
    n = near binary64 v

    abbrev G : ℕ
    G = n * u

    abbrev Aligned : Type 0
    Aligned = (G ≡ v) ⊎ (Divides p q v le mult ⊎ (j ≡ suc p.places))

    -- What is left is D, which is d of the unit.
    rest : (D d : ℕ) → q.places < j → D ≡ d * u → D * 2 ≤ Y * 2 + u → Few D
    rest D d l e h =
        let a : Y < 2 ^ 53 * 2 ^ q.places = mul-lt-mul_of_pos_right q.few (pow_pos q.places) in
        let b : 2 ^ 53 * 2 ^ q.places ≤ 2 ^ 52 * u =
        le_trans (le_of_eq (sym (up-hid binary64 q.places))) (mul-le-mul_left (2 ^ 52) (pow_mono l)) in
        (d, j, e, lt_of_mul-lt-mul_right u (small D (d * u) Y (2 ^ 53 * 2 ^ q.places) u e h a b (pow_pos j)))
      where
        small : (D E Y Z u : ℕ) → D ≡ E → D * 2 ≤ Y * 2 + u → Y < Z → Z ≤ 2 ^ 52 * u → 0 < u → E < 2 ^ 53 * u
        small D E Y Z u a b c d e = omega arith

    near-lo : G * 2 ≤ v * 2 + u
    near-lo = (closest-near v u (pow_pos j)).0

    near-hi : v * 2 ≤ G * 2 + u
    near-hi = (closest-near v u (pow_pos j)).1

    pub left-of-sum : v ≡ X + Y → (X ≤ G) × Few (G - X)
    left-of-sum e = go (which p q v le mult)
      where
        go : Aligned → (X ≤ G) × Few (G - X)
        go (inl i) = (omega arith, own (G - X) (omega arith))
        go (inr (inl (w, i, l))) =
            let m : w ≤ n = closest-ge v u w (pow_pos j) (omega arith) in
            let g : X ≤ G = le_trans (le_of_eq i) (mul-le-mul_right u m) in
            (g, rest (G - X) (n - w) l (ap (λ (z : ℕ). G - z) i ∙ sym (sub-mul n w u)) (omega (arith, near-lo)))
        go (inr (inr i)) =
            let (d, c) = twice p q v le mult i in
            let g : G ≡ n * 2 * t = ap (λ (z : ℕ). n * z) d ∙ mul-add n t t ∙ omega arith in
            let f : G - X ≡ (n * 2 - p.digits) * t = ap (λ (z : ℕ). z - X) g ∙ sym (sub-mul (n * 2) p.digits t) in
            let b : (n * 2 - p.digits) * t ≤ 2 ^ 53 * t =
            le_trans (le_of_eq (sym f)) (omega (arith, room p q, near-lo)) in (
              omega (arith, near-hi),
              few-of (G - X) (n * 2 - p.digits) p.places f (le_of_mul-le-mul_right b (pow_pos p.places)),
            )

    pub left-of-difference : v ≡ X - Y → (G ≤ X) × Few (X - G)
    left-of-difference e = go (which p q v le mult)
      where
        go : Aligned → (G ≤ X) × Few (X - G)
        go (inl i) = (omega arith, own (X - G) (omega arith))
        go (inr (inl (w, i, l))) =
            let m : n ≤ w = closest-most v u w (pow_pos j) (omega arith) in
            let g : G ≤ X = le_trans (mul-le-mul_right u m) (le_of_eq (sym i)) in
            (g, rest (X - G) (w - n) l (ap (λ (z : ℕ). z - G) i ∙ sym (sub-mul w n u)) (omega (arith, near-hi)))
        go (inr (inr i)) = let b : 0 < t = pow_pos p.places in absurd (omega (arith, (twice p q v le mult i).1))
