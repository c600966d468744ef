-- Distances counted in a unit N / g that is not below 2 ^ -1020. They add up, and one rounding of a number of k units
-- is off by at most k / 2 ^ 53 units. Assumes nothing.
use mathlib.Core.Path.{◌∙◌, subst}
use mathlib.Core.Logic.{inl, inr}
use mathlib.Core.Bool.{Bool}
use Prim.Native.Nat.{ℕ, ◌+◌, ◌*◌, ◌^◌, ◌≤◌, ◌<◌}
use native.Mathlib.Nat.{le_trans, le_of_eq, add-mul, add-zero, zero-mul, mul_assoc, mul-pos, mul-le-mul_right}
use native.Mathlib.Nat.{mul-le-mul_left}
use native.Mathlib.Omega.{arith}
use lib.Dec.{T, lit≤, lit<}
use lib.Pow.{pow_pos}
use lib.Ieee.{Float, binary64, round}
use lib.Ieee.Fits.{round_is}
use lib.Ieee.Order.{drop, kept}
use lib.Ieee.Scale.{finite, grid, overflow}
use Rattle.rounding.proofs.NumberOrders.{lt-or-ge}
use Rattle.rounding.proofs.Units.{units-over}
use Rattle.rounding_error.specs.Fraction.{Frac, nil, plus, opp, Same, Within}
use Rattle.rounding_error.specs.Value.{val, Rounds}
use Rattle.rounding_error.proofs.Same.{ring, same_refl, plus_nil}
use Rattle.rounding_error.proofs.Within.{rescale, chain, to, same-within, within-plus}
use Rattle.rounding_error.proofs.Operations.{Rounded, bottom, bounded}
use Rattle.rounding_error.proofs.OneRounding.{round-part}
use Rattle.near_fused.proofs.FractionSums.{none}

-- ---- one rounding, where the result is finite
grid-below : (s : Bool) (a c : ℕ) → T (finite (round binary64 s a c)) → grid binary64 a c < overflow binary64
grid-below s a c t = elim (lt-or-ge (grid binary64 a c) (overflow binary64)) [
  | inl l ↦ l
  | inr g ↦ absurd (subst (λ (z : Float). T (finite z))
      (round_is binary64 s a c ∙ units-over binary64 s (kept 53 (a * 2 ^ 1074) c) (drop 53 (a * 2 ^ 1074) c) g) t)
]

pub rounded-part : {x : Float} {q : Frac} {K B : ℕ} → T (finite x) → 0 < K → Within K B q nil
    → K * 2 ^ 53 ≤ B * (2 ^ 1074 * 2) → Rounded binary64 x q → Rounds (K * 2 ^ 53) B x q
rounded-part {x} {K = K} {B} f k w m r =
    let n =
    round-part binary64 r.s r.a r.c K B (bottom r) k (bounded r w) m
    (grid-below r.s r.a r.c (subst (λ (z : Float). T (finite z)) r.is f)) in
    record { real = f; near = rw r.is (to r.same n.near) }

-- The unit is N / g.
pub record Unit : Type 0 where
  pub g : ℕ
  pub N : ℕ
  pub G : 0 < g
  pub some : 0 < N
  pub deep : g ≤ N * 2 ^ 1020

module _ (U : Unit) where
  -- x and y are at most k units apart.
  abbrev pub Near : ℕ → Frac → Frac → Type 0
  Near k x y = Within U.g (k * U.N) x y

  pub near_same : {x y : Frac} → Same x y → Near 0 x y
  near_same e = rw (zero-mul U.N) (same-within U.g e)

  pub near-chain : {x y z : Frac} (k j : ℕ) → Near k x y → Near j y z → Near (k + j) x z
  near-chain k j h w = rw (add-mul k j U.N) (chain h w)

  pub near-plus : {x y a b : Frac} (k j : ℕ) → Near k x a → Near j y b → Near (k + j) (plus x y) (plus a b)
  near-plus k j h w = rw (add-mul k j U.N) (within-plus h w)

  pub near-two : {x y : Frac} (k j : ℕ) → Near k x nil → Near j y nil → Near (k + j) (plus x y) nil
  near-two k j h w = to (plus_nil nil (lit< tt)) (near-plus k j h w)

  pub near-gap : {x y : Frac} (k : ℕ) → Near k x y → Near k (plus x (opp y)) nil
  near-gap {x} {y} k h =
      to (none y h.right) (rw (add-zero k) at (near-plus k 0 h (near_same (same_refl {x = opp y} h.right))))

  -- b * m / t units are at most k.
  pub near_of : {x y : Frac} (b m k t : ℕ) → 0 < t → b * m ≤ k * t → Within (t * U.g) (b * U.N * m) x y → Near k x y
  near_of b m k t T h w = rescale (mul-pos T U.G) (spread b m k t U.g U.N h) w
    where
      spread : (b m k t g N : ℕ) → b * m ≤ k * t → b * N * m * g ≤ k * N * (t * g)
      spread b m k t g N h = simp ring (simp ring at (mul-le-mul_right (N * g) h))

  pub near-rounds : {x : Float} {q : Frac} (k j : ℕ) → 0 < k → k ≤ j * 2 ^ 53 → T (finite x) → Near k q nil
      → Rounded binary64 x q → Near j (val x) q
  near-rounds {x} {q} k j K h f w r =
      rescale (mul-pos U.G (pow_pos 53)) (spread k j U.g U.N (2 ^ 53) h)
      (rounded-part f U.G w (low k K) r).near
    where
      spread : (k j g N t : ℕ) → k ≤ j * t → k * N * g ≤ j * N * (g * t)
      spread k j g N t h = simp ring (simp ring at (mul-le-mul_right (N * g) h))

      more : (k N : ℕ) → 0 < k → N ≤ k * N
      more k N h = omega (arith, mul-le-mul_right N h)

      low : (k : ℕ) → 0 < k → U.g * 2 ^ 53 ≤ k * U.N * (2 ^ 1074 * 2)
      low k K =
          let z : 2 ^ 1020 * 2 ^ 53 ≤ 2 ^ 1074 * 2 = lit≤ tt in
          le_trans (mul-le-mul_right (2 ^ 53) U.deep)
          (le_trans (le_of_eq (mul_assoc U.N (2 ^ 1020) (2 ^ 53)))
          (le_trans (mul-le-mul_left U.N z) (mul-le-mul_right (2 ^ 1074 * 2) (more k U.N K))))
