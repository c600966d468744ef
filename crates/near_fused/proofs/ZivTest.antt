-- Ziv's test: if the roundings of two numbers do not ascend from the lower to the upper, they are one float, and what
-- lies between the two numbers rounds to it, unless it is zero. Assumes nothing.
use mathlib.Core.Path.{◌≡◌, sym, ap, ◌∙◌, subst}
use mathlib.Core.Bool.{Bool, true, false, not}
use Prim.Native.Nat.{ℕ, zero, suc, ◌+◌, ◌*◌, ◌<◌}
use native.Mathlib.Nat.{le_refl, le_antisymm}
use native.Mathlib.Omega.{arith}
use lib.Dec.{T, leb, lt→ltb, le→leb, leb→le}
use lib.IntN.{ℤ}
use lib.Ieee.{Float, nan, inf, fin, binary64, neg, le, lt, eq, fits, up, down}
use lib.Ieee.Fits.{round-fits}
use lib.Ieee.Positive.{num, den, den_pos, positive, above, own_value, le→cross, le_trans_positive, above_of_le, between}
use lib.Ieee.Scale.{finite, round_same}
use Rattle.rounding.proofs.SumSymmetry.{neg-neg}
use Rattle.rounding.proofs.RoundsToItself.{round-own}
use Rattle.rounding_error.specs.Fraction.{Frac, opp}
use Rattle.rounding_error.specs.Value.{signed, val}
use Rattle.rounding_error.proofs.Operations.{Rounded}
use Rattle.rounding_error.proofs.Compare.{side, le_is}
use Rattle.near_fused.proofs.RoundingOrder.{AtMost, at-most-trans, mono-above, neg-rounded}

-- ---- the test, above zero
pub equal-positive : (x y : Float) → T (fits binary64 x) → T (fits binary64 y) → T (positive x) → T (positive y)
    → T (le x y) → T (le y x) → x ≡ y
equal-positive x y f g p q h k =
    sym (round-own binary64 x false (num x) (den x) f (den_pos x) (own_value x p))
    ∙ round_same binary64 false (num x) (den x) (num y) (den y) (den_pos x) (den_pos y)
    (le_antisymm (le→cross x y p q h) (le→cross y x q p k))
    ∙ round-own binary64 y false (num y) (den y) g (den_pos y) (own_value y q)

rounded-fits : {x : Float} {a : Frac} → Rounded binary64 x a → T (fits binary64 x)
rounded-fits r = rw r.is (round-fits binary64 r.s r.a r.c)

pub enclosed : {x l u : Float} {q lo hi : Frac} → Rounded binary64 l lo → Rounded binary64 x q → Rounded binary64 u hi
    → AtMost lo q → AtMost q hi → T (positive u) → T (le u l) → x ≡ u
enclosed {x} {l} {u} L X U h k p t =
    let al = above_of_le u l p t in
    let pl = between u l u p p t (mono-above al (at-most-trans X.same.right h k) L U) in
    let lx = mono-above al h L X in
    let xu = mono-above (above_of_le l x pl lx) k X U in
    let px = between l x u pl p lx xu in
    equal-positive x u (rounded-fits X) (rounded-fits U) px p xu (le_trans_positive u l x p pl px t lx)

-- ---- the test, below zero
pub no_nan : (s : Bool) (m : ℕ) (e : ℤ) → T (le (fin s m e) nan) → ⊥
unfolding le lt eq
no_nan s m e h = h

pub no-inf : (s : Bool) (m : ℕ) (e : ℤ) → T (le (fin s m e) (inf true)) → ⊥
unfolding le lt eq
no-inf s m e h = h

least : (s : Bool) (m : ℕ) (e : ℤ) → T (le (inf true) (fin s m e))
unfolding le lt eq
least s m e = tt

pub neg-mono : (s : Bool) (m : ℕ) (e : ℤ) (y : Float) → T (le (fin s m e) y) → T (le (neg y) (neg (fin s m e)))
unfolding neg
neg-mono s m e nan h = absurd (no_nan s m e h)
neg-mono s m e (inf true) h = absurd (no-inf s m e h)
neg-mono s m e (inf false) h = least (not s) m e
neg-mono s m e (fin t n d) h =
    subst T (sym (le_is (fin (not t) n d) (fin (not s) m e) tt tt))
    (turn s t (m * up e) (down e) (n * up d) (down d) (subst T (le_is (fin s m e) (fin t n d) tt tt) h))
  where
    turn : (s t : Bool) (a c b d : ℕ)
        → T (leb (side (signed s a c) (signed t b d)) (side (signed t b d) (signed s a c)))
        → T (leb (side (signed (not t) b d) (signed (not s) a c)) (side (signed (not s) a c) (signed (not t) b d)))
    turn false false a c b d h =
        le→leb (side (signed true b d) (signed true a c)) (side (signed true a c) (signed true b d)) (omega (
          arith,
          leb→le (side (signed false a c) (signed false b d)) (side (signed false b d) (signed false a c)) h,
        ))
    turn false true a c b d h =
        le→leb (side (signed false b d) (signed true a c)) (side (signed true a c) (signed false b d)) (omega (
          arith,
          leb→le (side (signed false a c) (signed true b d)) (side (signed true b d) (signed false a c)) h,
        ))
    turn true false a c b d h =
        le→leb (side (signed true b d) (signed false a c)) (side (signed false a c) (signed true b d)) (omega (
          arith,
          leb→le (side (signed true a c) (signed false b d)) (side (signed false b d) (signed true a c)) h,
        ))
    turn true true a c b d h =
        le→leb (side (signed false b d) (signed false a c)) (side (signed false a c) (signed false b d))
        (omega (arith, leb→le (side (signed true a c) (signed true b d)) (side (signed true b d) (signed true a c)) h))

opp-at-most : {x y : Frac} → AtMost x y → AtMost (opp y) (opp x)
opp-at-most h = record { most = omega (arith, h.most) }

at-most-refl : (x : Frac) → AtMost x x
at-most-refl x = record { most = le_refl (x.p * x.d + x.n * x.d) }

positive-above : (x : Float) → T (positive x) → T (above x)
positive-above nan h = h
positive-above (inf s) h = absurd h
positive-above (fin true m e) h = h
positive-above (fin false m e) h = h

pub ziv : {x l : Float} {q lo hi : Frac} (u : Float) → Rounded binary64 l lo → Rounded binary64 x q
    → Rounded binary64 u hi → AtMost lo q → AtMost q hi → T (finite u) → ((val u).p + (val u).n ≡ 0 → ⊥) → T (le u l)
    → x ≡ u
ziv nan L X U h k f n t = absurd f
ziv (inf s) L X U h k f n t = absurd f
ziv (fin false m e) L X U h k f n t = enclosed L X U h k (lt→ltb 0 m (some m n)) t
  where
    some : (m : ℕ) → (m * up e + 0 ≡ 0 → ⊥) → 0 < m
    some zero n = absurd (n (omega arith))
    some (suc m) n = omega arith
ziv {x} {l} {q} {lo} {hi} (fin true m e) L X U h k f n t =
    let u = fin true m e in
    let p : T (positive (neg u)) = unfold neg in lt→ltb 0 m (some m n) in
    let d = neg-mono true m e l t in
    let b =
    between (neg u) (neg l) (neg u) p p
    (mono-above (positive-above (neg u) p) (opp-at-most (at-most-trans X.same.right h k)) (neg-rounded U)
    (neg-rounded L)) d in
    let y : neg x ≡ neg l =
    enclosed (neg-rounded U) (neg-rounded X) (neg-rounded L) (opp-at-most k) (opp-at-most h) b d in
    let z : neg u ≡ neg l =
    enclosed (neg-rounded U) (neg-rounded U) (neg-rounded L) (at-most-refl (opp hi))
    (opp-at-most (at-most-trans X.same.right h k)) b d in
    sym (neg-neg x) ∙ ap neg (y ∙ sym z) ∙ neg-neg u
  where
    some : (m : ℕ) → (0 + m * up e ≡ 0 → ⊥) → 0 < m
    some zero n = absurd (n (omega arith))
    some (suc m) n = omega arith
