-- The lower end is finite, and it is zero if the upper one is. Assumes nothing.
use mathlib.Core.Path.{◌≡◌, refl, subst}
use mathlib.Core.Bool.{Bool, true, false, not}
use Prim.Native.Nat.{ℕ, zero, suc, ◌+◌}
use native.Mathlib.Nat.{mul-pos, zero-lt-suc}
use native.Mathlib.Omega.{arith}
use lib.IntN.{ℤ}
use lib.Dec.{T, lit<, lt→ltb}
use lib.Ieee.{Float, nan, inf, fin, binary64, up, add, neg, lt, eq, le}
use lib.Ieee.Fits.{up_pos}
use lib.Ieee.Positive.{above, above_of_le}
use lib.Ieee.Scale.{finite}
use Rattle.rounding_error.specs.Fraction.{Frac, nil, Same}
use Rattle.rounding_error.specs.Value.{val}
use Rattle.rounding_error.proofs.Value.{val_pos}
use Rattle.rounding_error.proofs.Operations.{Rounded}
use Rattle.near_fused.proofs.ZivTest.{neg-mono, no_nan, no-inf}
use Rattle.near_fused.proofs.RoundingOrder.{AtMost, mono-above}

-- ---- the lower end is finite
top-inf : (x : Float) → T (finite x) → T (le (inf false) x) → ⊥
unfolding le lt eq
top-inf nan f h = f
top-inf (inf s) f h = f
top-inf (fin s m e) f h = h

with-nan : (s : Float) → add binary64 s nan ≡ nan
unfolding add
with-nan nan = refl
with-nan (inf s) = refl
with-nan (fin s m e) = refl

with-inf : (s : Float) → T (finite s) → add binary64 s (inf true) ≡ inf true
unfolding add
with-inf nan f = absurd f
with-inf (inf s) f = absurd f
with-inf (fin s m e) f = refl

never-nan : (r : Float) → T (finite r) → T (le r nan) → ⊥
never-nan nan f h = f
never-nan (inf s) f h = f
never-nan (fin s m e) f h = no_nan s m e h

never-least : (r : Float) → T (finite r) → T (le r (inf true)) → ⊥
never-least nan f h = f
never-least (inf s) f h = f
never-least (fin s m e) f h = no-inf s m e h

pub finite-low : (s r x : Float) {y : Float} {a b : Frac} → T (finite s) → T (finite r) → T (le r (add binary64 s x))
    → T (finite y) → AtMost a b → Rounded binary64 x a → Rounded binary64 y b → T (finite x)
finite-low s r nan fs fr t fy l X Y = never-nan r fr (subst (λ (z : Float). T (le r z)) (with-nan s) t)
finite-low s r (inf true) fs fr t fy l X Y = never-least r fr (subst (λ (z : Float). T (le r z)) (with-inf s fs) t)
finite-low s r (inf false) {y} fs fr t fy l X Y = top-inf y fy (mono-above {x = inf false} tt l X Y)
finite-low s r (fin b m e) fs fr t fy l X Y = tt

-- ---- if the upper end is zero, so is the lower one
zero-not-above : (r : Float) → (val r).p + (val r).n ≡ 0 → T (above r) → T (finite r) → ⊥
zero-not-above nan z a f = f
zero-not-above (inf s) z a f = f
zero-not-above (fin true m e) z a f = a
zero-not-above (fin false zero e) z a f = a
zero-not-above (fin false (suc m) e) z a f =
    let h = mul-pos {m = suc m} {n = up e} (omega arith) (up_pos e) in
    omega arith

pub zero_same : (x : Float) → (val x).p + (val x).n ≡ 0 → Same (val x) nil
zero_same x z = record { left = val_pos x; right = lit< tt; cross = omega arith }

neg-zero : (s : Bool) (m : ℕ) (e : ℤ) → (val (fin s m e)).p + (val (fin s m e)).n ≡ 0
    → (val (fin (not s) m e)).p + (val (fin (not s) m e)).n ≡ 0
neg-zero true m e z = omega arith
neg-zero false m e z = omega arith

negative : (r : Float) (n : ℕ) (d : ℤ) → T (finite r) → (val r).p + (val r).n ≡ 0 → T (le r (fin true (suc n) d)) → ⊥
unfolding neg
negative nan n d f z t = f
negative (inf s) n d f z t = f
negative (fin s m e) n d f z t =
    zero-not-above (fin (not s) m e) (neg-zero s m e z)
    (above_of_le (fin false (suc n) d) (fin (not s) m e) (lt→ltb 0 (suc n) (zero-lt-suc n))
    (neg-mono s m e (fin true (suc n) d) t)) tt

pub zero-too : (r l : Float) {a b : Frac} → T (finite r) → (val r).p + (val r).n ≡ 0 → T (le r l) → AtMost a b
    → Rounded binary64 l a → Rounded binary64 r b → T (finite l) × ((val l).p + (val l).n ≡ 0)
zero-too r nan f z t h L R = absurd (never-nan r f t)
zero-too r (inf true) f z t h L R = absurd (never-least r f t)
zero-too r (inf false) f z t h L R = absurd (top-inf r f (mono-above {x = inf false} tt h L R))
zero-too r (fin false zero d) f z t h L R = (tt, omega arith)
zero-too r (fin true zero d) f z t h L R = (tt, omega arith)
zero-too r (fin false (suc n) d) f z t h L R =
    absurd (zero-not-above r z
    (above_of_le (fin false (suc n) d) r (lt→ltb 0 (suc n) (zero-lt-suc n))
    (mono-above {x = fin false (suc n) d} (lt→ltb 0 (suc n) (zero-lt-suc n)) h L R)) f)
zero-too r (fin true (suc n) d) f z t h L R = absurd (negative r n d f z t)
