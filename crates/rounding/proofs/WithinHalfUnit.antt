-- `round` gives what is near: q * 2 ^ k units within half a unit of the fraction. If q is the least with a leading
-- digit, the half below it is that of the unit below, half as large. Assumes nothing.
use mathlib.Core.Path.{◌≡◌, sym, ap, ◌∙◌, subst}
use mathlib.Core.Logic.{inl, inr}
use mathlib.Core.Bool.{Bool}
use Prim.Native.Nat.{ℕ, zero, suc, ◌+◌, ◌-◌, ◌*◌, ◌^◌, ◌≤◌, ◌<◌}
use native.Mathlib.Nat.{le_trans, le_of_eq, zero-lt-suc, one-mul, mul_left_comm, mul-pos, mul-le-mul_right}
use native.Mathlib.Nat.{lt_of_mul-lt-mul_right, add-mul, two-pow-succ, mul-add, le_of_suc-le-suc, lt_irrefl, suc-mul}
use native.Mathlib.Nat.{le_antisymm}
use native.Mathlib.Omega.{arith}
use lib.Pow.{pow_pos}
use lib.Ieee.{Format, units, round, prec, low, hid}
use Rattle.rounding.proofs.DroppedDigits.{prec-pos, round-at}
use Rattle.rounding.proofs.NumberOrders.{lt-or-ge}
use Rattle.rounding.proofs.Pack.{units-carry}
use Rattle.rounding.proofs.Units.{twice_hid, up-hid}
use Rattle.rounding.proofs.WithinHalfDivisor.{closest-unique}

module _ (f : Format) (s : Bool) (num den : ℕ) (D : 0 < den) where
  double : (k : ℕ) → den * 2 ^ suc k ≡ den * 2 ^ k + den * 2 ^ k
  double k = ap (λ (z : ℕ). den * z) (two-pow-succ k) ∙ mul-add den (2 ^ k) (2 ^ k)

  -- hid of the unit 2 ^ (k + 1) are 2 ^ prec of the unit 2 ^ k.
  hid-top : (k : ℕ) → hid f * (den * 2 ^ suc k) ≡ 2 ^ prec f * (den * 2 ^ k)
  hid-top k =
      mul_left_comm (hid f) den (2 ^ suc k)
      ∙ ap (λ (z : ℕ). den * z) (up-hid f k)
      ∙ mul_left_comm den (2 ^ prec f) (2 ^ k)

  -- The fraction is 2 ^ prec units or a little more.
  above : (k : ℕ) → 2 ^ prec f * (den * 2 ^ k) ≤ num * 2 ^ low f
      → num * 2 ^ low f * 2 < 2 ^ prec f * (den * 2 ^ k) * 2 + den * 2 ^ k
      → round f s num den ≡ units f s (2 ^ prec f) k
  above k lo hi =
      let n = num * 2 ^ low f in
      let u = den * 2 ^ k in
      let v = den * 2 ^ suc k in
      let X = 2 ^ prec f * u in
      let U : 0 < u = mul-pos D (pow_pos k) in
      let d : v ≡ u + u = double k in
      let e : hid f * v ≡ X = hid-top k in
      let x : u ≤ X = le_trans (le_of_eq (sym (one-mul u))) (mul-le-mul_right u (pow_pos (prec f))) in
      let y : 2 ^ prec f * v ≡ X + X = ap (λ (z : ℕ). 2 ^ prec f * z) d ∙ mul-add (2 ^ prec f) u u in
      round-at f s num den (suc k) D (λ _. omega arith) (omega arith)
      ∙ ap (λ (z : ℕ). units f s z (suc k))
      (closest-unique n v (hid f) (mul-pos D (pow_pos (suc k))) (omega arith) (omega arith))
      ∙ units-carry f s k

  -- The fraction is below hid units, and nearer to them than to the next value below.
  under : (k : ℕ) → num * 2 ^ low f < hid f * (den * 2 ^ suc k)
      → hid f * (den * 2 ^ suc k) * 4 < num * 2 ^ low f * 4 + den * 2 ^ suc k
      → round f s num den ≡ units f s (hid f) (suc k)
  under k hi lo =
      let n = num * 2 ^ low f in
      let u = den * 2 ^ k in
      let v = den * 2 ^ suc k in
      let X = 2 ^ prec f * u in
      let Y = hid f * u in
      let U : 0 < u = mul-pos D (pow_pos k) in
      let d : v ≡ u + u = double k in
      let e : hid f * v ≡ X = hid-top k in
      let x : X ≡ Y + Y = ap (λ (z : ℕ). z * u) (twice_hid (prec f) (prec-pos f)) ∙ add-mul (hid f) (hid f) u in
      let y : u ≤ Y = le_trans (le_of_eq (sym (one-mul u))) (mul-le-mul_right u (pow_pos (prec f - 1))) in
      round-at f s num den k D (λ _. omega arith) (omega arith)
      ∙ ap (λ (z : ℕ). units f s z k) (closest-unique n u (2 ^ prec f) U (omega arith) (omega arith))
      ∙ sym (units-carry f s k)

  inside : (q k : ℕ) → (0 < k → hid f * (den * 2 ^ k) ≤ num * 2 ^ low f) → num * 2 ^ low f < 2 ^ prec f * (den * 2 ^ k)
      → q * (den * 2 ^ k) * 2 < num * 2 ^ low f * 2 + den * 2 ^ k
      → num * 2 ^ low f * 2 < q * (den * 2 ^ k) * 2 + den * 2 ^ k → round f s num den ≡ units f s q k
  inside q k lo hi a b =
      round-at f s num den k D lo hi
      ∙ ap (λ (z : ℕ). units f s z k) (closest-unique (num * 2 ^ low f) (den * 2 ^ k) q (mul-pos D (pow_pos k)) a b)

  -- If q units lie less than one unit above w units, q is at most w.
  at_most : (q w u : ℕ) → q * u < w * u + u → q ≤ w
  at_most q w u h = le_of_suc-le-suc (lt_of_mul-lt-mul_right u (subst (λ (z : ℕ). q * u < z) (sym (suc-mul w u)) h))

  full : (q k : ℕ) → q ≤ 2 ^ prec f → num * 2 ^ low f * 2 < q * (den * 2 ^ k) * 2 + den * 2 ^ k
      → 2 ^ prec f * (den * 2 ^ k) ≤ num * 2 ^ low f → round f s num den ≡ units f s q k
  full q k Q b g =
      let e : q ≡ 2 ^ prec f = le_antisymm Q (at_most (2 ^ prec f) q (den * 2 ^ k) (omega arith)) in
      above k g (subst (λ (z : ℕ). num * 2 ^ low f * 2 < z * (den * 2 ^ k) * 2 + den * 2 ^ k) e b)
      ∙ ap (λ (z : ℕ). units f s z k) (sym e)

  pub round-near : (q k : ℕ) → q ≤ 2 ^ prec f → (0 < k → hid f ≤ q)
      → q * (den * 2 ^ k) * 2 < num * 2 ^ low f * 2 + den * 2 ^ k
      → num * 2 ^ low f * 2 < q * (den * 2 ^ k) * 2 + den * 2 ^ k
      → (0 < k → q ≡ hid f → hid f * (den * 2 ^ k) * 4 < num * 2 ^ low f * 4 + den * 2 ^ k)
      → round f s num den ≡ units f s q k
  round-near q zero Q N a b edge = elim (lt-or-ge (num * 2 ^ low f) (2 ^ prec f * (den * 2 ^ 0))) [
    | inl l ↦ inside q 0 (λ (h : 0 < 0). absurd (lt_irrefl 0 h)) l a b
    | inr g ↦ full q 0 Q b g
  ]
  round-near q (suc k) Q N a b edge = elim (lt-or-ge (num * 2 ^ low f) (2 ^ prec f * (den * 2 ^ suc k))) [
    | inr g ↦ full q (suc k) Q b g
    | inl l ↦ elim (lt-or-ge (num * 2 ^ low f) (hid f * (den * 2 ^ suc k))) [
      | inr g ↦ inside q (suc k) (λ _. g) l a b
      | inl c ↦
          let e : q ≡ hid f = le_antisymm (at_most q (hid f) (den * 2 ^ suc k) (omega arith)) (N (zero-lt-suc k)) in
          under k c (edge (zero-lt-suc k) e) ∙ ap (λ (z : ℕ). units f s z (suc k)) (sym e)
    ]
  ]
