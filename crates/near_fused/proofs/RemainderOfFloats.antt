-- The rounded sum of two floats, less the larger of them, has few digits. Assumes nothing.
use mathlib.Core.Path.{◌≡◌, refl, ap, ◌∙◌, subst}
use mathlib.Core.Logic.{◌⊎◌, inl, inr}
use mathlib.Core.Bool.{Bool, true, false, not, beq, cond, ◌&&◌, true≢false, false≢true}
use Prim.Native.Nat.{ℕ, ◌+◌, ◌-◌, ◌*◌, ◌^◌, ◌≤◌, ◌<◌}
use native.Mathlib.Nat.{lt_of_le_of_lt, mul-pos}
use native.Mathlib.Omega.{arith}
use borrow.Author.Tests.{le-ltb, ltb-false}
use lib.Dec.{T, ltb}
use lib.Pow.{pow_pos}
use lib.Ieee.{Float, binary64, round, add}
use lib.Ieee.Scale.{finite, overflow}
use Rattle.rounding.proofs.Adding.{add-units}
use Rattle.rounding.proofs.NumberOrders.{lt-or-ge, and-true}
use Rattle.rounding.proofs.Sums.{sum_is, sum-sign, sum-size}
use Rattle.rounding.proofs.Units.{units-over}
use Rattle.rounding.proofs.WholeUnits.{near, places, round-units, rounded-value}
use Rattle.rounding_error.specs.Fraction.{plus, opp, Same}
use Rattle.rounding_error.specs.Value.{signed, val}
use Rattle.rounding_error.proofs.Same.{ring, same-sym, plus-same, opp-same}
use Rattle.rounding_error.proofs.Value.{value-is}
use Rattle.near_fused.proofs.RoundTo53.{Few, rounded, few-rounded, few-stays}
use Rattle.near_fused.proofs.RemainderDigits.{left-of-sum, left-of-difference}
use Rattle.near_fused.proofs.FewDigits.{L, Units, Short, units-same, short-same}

-- ---- a sum less the larger one
pub up : (s : Bool) (D A l : ℕ) → 0 < l → Same (signed s D l) (plus (signed s (A + D) l) (opp (signed s A l)))
up true D A l h = record { left = h; right = mul-pos h h; cross = simp ring (omega arith) }
up false D A l h = record { left = h; right = mul-pos h h; cross = simp ring (omega arith) }

down : (s S : Bool) (D G l : ℕ) → 0 < l → (S ≡ s) ⊎ (G ≡ 0)
    → Same (signed (not s) D l) (plus (signed S G l) (opp (signed s (G + D) l)))
down true true D G l h k = record { left = h; right = mul-pos h h; cross = simp ring (omega arith) }
down false false D G l h k = record { left = h; right = mul-pos h h; cross = simp ring (omega arith) }
down true false D G l h (inl e) = absurd (false≢true e)
down false true D G l h (inl e) = absurd (true≢false e)
down true false D G l h (inr e) = rw e (record { left = h; right = mul-pos h h; cross = simp ring (omega arith) })
down false true D G l h (inr e) = rw e (record { left = h; right = mul-pos h h; cross = simp ring (omega arith) })

module _ (s t : Bool) (m a n b : ℕ) (M : m < 2 ^ 53) (N : n < 2 ^ 53) (o : m * 2 ^ a < overflow binary64)
    (l : n * 2 ^ b ≤ m * 2 ^ a) where
  abbrev A : ℕ
  A = m * 2 ^ a

  abbrev B : ℕ
  B = n * 2 ^ b

  grown : (D G : ℕ) → G ≡ A + D → Few D → G < overflow binary64 → Short (plus (signed s G L) (opp (signed s A L)))
  grown D G e f u =
      record {
        sign = s;
        amount = D;
        few = f;
        under = lt_of_le_of_lt (below D G A e) u;
        same = rw e (up s D A L (pow_pos 1074));
      }
    where
      below : (D G A : ℕ) → G ≡ A + D → D ≤ G
      below D G A e = omega arith

  shrunk : (D G : ℕ) (S : Bool) → A ≡ G + D → Few D → (S ≡ s) ⊎ (G ≡ 0)
      → Short (plus (signed S G L) (opp (signed s A L)))
  shrunk D G S e f k =
      record {
        sign = not s;
        amount = D;
        few = f;
        under = lt_of_le_of_lt (below D G A e) o;
        same = rw e (down s S D G L (pow_pos 1074) k);
      }
    where
      below : (D G A : ℕ) → A ≡ G + D → D ≤ A
      below D G A e = omega arith

  less-larger : rounded (sum-size s A t B) < overflow binary64
      → Short (plus (signed (sum-sign s A t B) (rounded (sum-size s A t B)) L) (opp (signed s A L)))
  less-larger u = go (beq s t) (ltb A B) (ltb B A) (le-ltb A B l) (ltb-false B A) u
    where
      none : (A B : ℕ) → A ≤ B → A - B ≡ 0
      none A B h = omega arith

      go : (x y z : Bool) → y ≡ false → (z ≡ false → A ≤ B)
          → rounded (cond x (A + B) (cond y (B - A) (A - B))) < overflow binary64
          → Short (plus (signed (cond x s (cond y t (s && z))) (rounded (cond x (A + B) (cond y (B - A) (A - B)))) L)
          (opp (signed s A L)))
      go true y z e f u = let (D, g, d) = left-of-sum m a n b M N l (A + B) refl in grown D (rounded (A + B)) g d u
      go false true z e f u = absurd (true≢false e)
      go false false true e f u =
          let (D, g, d) = left-of-difference m a n b M N l (A - B) refl in
          shrunk D (rounded (A - B)) (s && true) g d (inl (and-true s))
      go false false false e f u =
          let (D, g, d) = left-of-difference m a n b M N l (A - B) refl in
          shrunk D (rounded (A - B)) (s && false) g d
          (inr (ap rounded (none A B (f refl)) ∙ few-stays 0 0 (pow_pos 53)))

-- ---- a sum, in units
pub unders : (s : Bool) (v : ℕ) → T (finite (round binary64 s v (2 ^ 1074))) → rounded v < overflow binary64
unders s v t = elim (lt-or-ge (rounded v) (overflow binary64)) [
  | inl l ↦ l
  | inr g ↦ absurd (subst (λ (z : Float). T (finite z))
      (round-units binary64 v s ∙ units-over binary64 s (near binary64 v) (places binary64 v) g) t)
]

module _ (x y : Float) (X : Units x) (Y : Units y) (real : T (finite (add binary64 x y))) where
  abbrev pub S : Bool
  S = sum-sign X.sign X.amount Y.sign Y.amount

  abbrev pub W : ℕ
  W = sum-size X.sign X.amount Y.sign Y.amount

  pub sum-rounds : add binary64 x y ≡ round binary64 S W (2 ^ 1074)
  sum-rounds =
      add-units binary64 x y X.sign Y.sign X.amount Y.amount (2 ^ 1074) (pow_pos 1074) X.value Y.value
      ∙ sum_is binary64 X.sign X.amount Y.sign Y.amount (2 ^ 1074)

  pub sum-under : rounded W < overflow binary64
  sum-under = unders S W (rw sum-rounds at real)

  abbrev pub sum-units : Units (add binary64 x y)
  sum-units =
      record {
        sign = S;
        amount = rounded W;
        few = few-rounded W;
        under = sum-under;
        value = rw sum-rounds (rounded-value binary64 W S sum-under);
      }

  sum-val : Same (val (add binary64 x y)) (signed S (rounded W) L)
  sum-val = (value-is (add binary64 x y) S (rounded W) L (pow_pos 1074) sum-units.value).same

  pub less-first : Y.amount ≤ X.amount → Short (plus (val (add binary64 x y)) (opp (val x)))
  less-first l =
      let (m, a, ea, M) = X.few in
      let (n, b, eb, N) = Y.few in
      short-same (plus-same (same-sym sum-val) (opp-same (units-same X)))
      (go m a n b ea eb M N X.under l sum-under)
    where
      go : (m a n b : ℕ) → X.amount ≡ m * 2 ^ a → Y.amount ≡ n * 2 ^ b → m < 2 ^ 53 → n < 2 ^ 53
          → X.amount < overflow binary64 → Y.amount ≤ X.amount → rounded W < overflow binary64
          → Short (plus (signed S (rounded W) L) (opp (signed X.sign X.amount L)))
      go m a n b ea eb M N o l u =
          rw (ea, eb) (less-larger X.sign Y.sign m a n b M N (rw ea at o) (rw (ea, eb) at l) (rw (ea, eb) at u))
