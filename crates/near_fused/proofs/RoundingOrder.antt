-- The order of fractions, and that a number above another one, which is above zero, rounds no lower. Assumes nothing.
use mathlib.Core.Path.{◌≡◌, refl, sym, ap, ◌∙◌, subst}
use mathlib.Core.Logic.{inl, inr}
use mathlib.Core.Bool.{Bool, true, false, not, cond, true≢false}
use Prim.Native.Nat.{ℕ, zero, suc, ◌+◌, ◌*◌, ◌^◌, ◌≤◌, ◌<◌}
use native.Mathlib.Nat.{le_of_mul-le-mul_right, mul-le-mul_right, eq-zero-or-pos, mul-pos}
use native.Mathlib.Omega.{arith}
use lib.Dec.{T, ltb}
use lib.Ieee.{Float, inf, binary64, units, odd, round, neg, le}
use lib.Ieee.Fits.{round_is}
use lib.Ieee.Order.{drop, kept, round_mono}
use lib.Ieee.Positive.{above}
use Rattle.rounding.proofs.SumSymmetry.{round-neg}
use Rattle.rounding.proofs.Sums.{round-zero}
use Rattle.rounding_error.specs.Fraction.{Frac, opp, Same}
use Rattle.rounding_error.specs.Value.{signed}
use Rattle.rounding_error.proofs.Same.{ring, same-sym, opp-same}
use Rattle.rounding_error.proofs.Operations.{Rounded, bottom}

-- The order x ≤ y of fractions.
pub record AtMost (x y : Frac) : Type 0 where
  pub most : x.p * y.d + y.n * x.d ≤ y.p * x.d + x.n * y.d

trans-core : (xp xn xd yp yn yd zp zn zd : ℕ) → 0 < yd → xp * yd + yn * xd ≤ yp * xd + xn * yd
    → yp * zd + zn * yd ≤ zp * yd + yn * zd → xp * zd + zn * xd ≤ zp * xd + xn * zd
trans-core xp xn xd yp yn yd zp zn zd Y h k =
    le_of_mul-le-mul_right {k = yd}
    (simp ring (omega (arith, simp ring at (mul-le-mul_right zd h), simp ring at (mul-le-mul_right xd k)))) Y

pub at-most-trans : {x y z : Frac} → 0 < y.d → AtMost x y → AtMost y z → AtMost x z
at-most-trans {x} {y} {z} Y h k =
    record { most = trans-core x.p x.n x.d y.p y.n y.d z.p z.n z.d Y h.most k.most }

pub same-at-most : {x y : Frac} → Same x y → AtMost x y
same-at-most s = record { most = omega (arith, s.cross) }

-- ---- the sign of what is rounded
above_odd : (d q k l : ℕ) → T (above (odd d true q k l)) → ⊥
unfolding odd
above_odd d zero k l t = t
above_odd d (suc q) k l t = t

above-units : (q k : ℕ) → T (above (units binary64 true q k)) → ⊥
unfolding units
above-units q k = go (ltb (q * 2 ^ k) (2 ^ 2098))
  where
    go : (b : Bool) → T (above (cond b (odd 54 true q k 1074) (inf true))) → ⊥
    go true t = above_odd 54 q k 1074 t
    go false t = t

above-sign : (s : Bool) (a c : ℕ) → 0 < c → T (above (round binary64 s a c)) → (s ≡ false) × (0 < a)
above-sign true a c C t =
    absurd (above-units (kept 53 (a * 2 ^ 1074) c) (drop 53 (a * 2 ^ 1074) c)
    (subst (λ (z : Float). T (above z)) (round_is binary64 true a c) t))
above-sign false a c C t = (
  refl,
  elim (eq-zero-or-pos a) [
    | inl e ↦ absurd (subst (λ (z : Float). T (above z))
        (ap (λ (z : ℕ). round binary64 false z c) e ∙ round-zero binary64 false c C) t)
    | inr h ↦ h
  ],
)

-- A number above another one, which is above zero, rounds no lower.
pub mono-above : {x y : Float} {a b : Frac} → T (above x) → AtMost a b → Rounded binary64 x a → Rounded binary64 y b
    → T (le x y)
mono-above {x} {y} {a} {b} t h r w =
    let (e, p) = above-sign r.s r.a r.c (bottom r) (subst (λ (z : Float). T (above z)) r.is t) in
    rw (
      r.is,
      w.is,
    ) (go r.s w.s e p
    (at-most-trans r.same.right (same-at-most r.same)
    (at-most-trans w.same.right h (same-at-most (same-sym w.same)))))
  where
    go : (s u : Bool) → s ≡ false → 0 < r.a → AtMost (signed s r.a r.c) (signed u w.a w.c)
        → T (le (round binary64 s r.a r.c) (round binary64 u w.a w.c))
    go true u e p l = absurd (true≢false e)
    go false false e p l =
        round_mono binary64 r.a r.c w.a w.c (bottom r) (bottom w) (omega (arith, l.most))
    go false true e p l = absurd (none (r.a * w.c) (w.a * r.c) (mul-pos p (bottom w)) (omega (arith, l.most)))
      where
        none : (x y : ℕ) → 0 < x → x + y ≤ 0 → ⊥
        none x y h k = omega arith

pub neg-rounded : {x : Float} {a : Frac} → Rounded binary64 x a → Rounded binary64 (neg x) (opp a)
neg-rounded {a = a} r =
    record {
      s = not r.s;
      a = r.a;
      c = r.c;
      is = ap neg r.is ∙ sym (round-neg binary64 r.s r.a r.c);
      same = go r.s (opp-same r.same);
    }
  where
    go : (s : Bool) → Same (opp (signed s r.a r.c)) (opp a) → Same (signed (not s) r.a r.c) (opp a)
    go true e = e
    go false e = e
