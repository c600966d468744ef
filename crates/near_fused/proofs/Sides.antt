-- A number within k units of q + E, for an E of at least k units, lies above q, and one within k units of q - E lies
-- below it. Both cannot hold at once. Assumes nothing.
use mathlib.Core.Path.{◌≡◌}
use Prim.Native.Nat.{ℕ, ◌+◌, ◌*◌, ◌≤◌, ◌<◌}
use native.Mathlib.Nat.{mul-pos, mul-le-mul_right, le_of_mul-le-mul_right}
use native.Mathlib.Omega.{arith}
use Rattle.rounding_error.specs.Fraction.{Frac, frac, plus, opp, Same}
use Rattle.rounding_error.proofs.Same.{ring, same_refl, plus-same, opp-same}
use Rattle.rounding_error.proofs.Within.{to}
use Rattle.near_fused.proofs.RoundingOrder.{AtMost}
use Rattle.near_fused.proofs.UnitDistances.{Unit, Near}

over-core : (g N k j qp qn qd hp hn hd : ℕ) → 0 < g → k ≤ j
    → g * ((qp * g + j * N * qd) * hd + hn * (qd * g))
    ≤ g * (hp * (qd * g) + (qn * g + 0 * qd) * hd) + k * N * (qd * g * hd)
    → qp * hd + hn * qd ≤ hp * qd + qn * hd
over-core g N k j qp qn qd hp hn hd G l h =
    le_of_mul-le-mul_right {k = g * g}
    (simp ring (omega (arith, simp ring at h, simp ring at (mul-le-mul_right (N * (qd * (hd * g))) l)))) (mul-pos G G)

under-core : (g N k j qp qn qd hp hn hd : ℕ) → 0 < g → k ≤ j
    → g * (hp * (qd * g) + (qn * g + j * N * qd) * hd)
    ≤ g * ((qp * g + 0 * qd) * hd + hn * (qd * g)) + k * N * (hd * (qd * g))
    → hp * qd + qn * hd ≤ qp * hd + hn * qd
under-core g N k j qp qn qd hp hn hd G l h =
    le_of_mul-le-mul_right {k = g * g}
    (simp ring (omega (arith, simp ring at h, simp ring at (mul-le-mul_right (N * (qd * (hd * g))) l)))) (mul-pos G G)

module _ (U : Unit) (q E : Frac) (Q : 0 < q.d) (j : ℕ) (is : Same E (frac (j * U.N) 0 U.g)) where
  pub over : (h : Frac) (k : ℕ) → k ≤ j → Near U k h (plus q E) → AtMost q h
  over h k l w =
      let n = to (plus-same (same_refl Q) is) w in
      record { most = over-core U.g U.N k j q.p q.n q.d h.p h.n h.d U.G l n.below }

  pub under : (h : Frac) (k : ℕ) → k ≤ j → Near U k h (plus q (opp E)) → AtMost h q
  under h k l w =
      let n = to (plus-same (same_refl Q) (opp-same is)) w in
      record { most = under-core U.g U.N k j q.p q.n q.d h.p h.n h.d U.G l n.above }

  pub not-both : (k : ℕ) → k ≤ j → 0 < j → Near U k (plus q (opp E)) (plus q E) → ⊥
  not-both k l J w =
      let n = to (plus-same (same_refl Q) is) w in
      let a = over (plus q (opp E)) k l w in
      none q.p q.n q.d E.p E.n E.d U.g (j * U.N) Q is.left is.right (mul-pos J U.some)
      is.cross a.most
    where
      none : (qp qn qd ep en ed g t : ℕ) → 0 < qd → 0 < ed → 0 < g → 0 < t → ep * g + 0 * ed ≡ t * ed + en * g
          → qp * (qd * ed) + (qn * ed + ep * qd) * qd ≤ (qp * ed + en * qd) * qd + qn * (qd * ed) → ⊥
      none qp qn qd ep en ed g t Q D G P c h =
          let x : ep * (qd * qd) ≤ en * (qd * qd) = simp ring (omega (arith, simp ring at h)) in
          let y : ep ≤ en = le_of_mul-le-mul_right x (mul-pos Q Q) in
          let z = mul-le-mul_right g y in
          let p = mul-pos P D in
          omega arith
