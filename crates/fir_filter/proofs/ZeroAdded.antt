-- A sum of a float other than -0.0 and any float is not -0.0, and a zero added to such a float leaves it. Assumes
-- nothing.
use borrow.Author.Tests.{ltb-true, le-ltb, lt-ltb}
use mathlib.Core.Path.{◌≡◌, refl, sym, ap, ◌∙◌, subst}
use mathlib.Core.Bool.{Bool, true, false, cond, ◌&&◌, ◌||◌}
use mathlib.Core.Logic.{inl, inr}
use Prim.Native.Nat.{ℕ, zero, suc, ◌-◌, ◌*◌, ◌^◌, ◌<◌}
use native.Mathlib.Nat.{mul-pos, zero-mul, mul-le-mul_right}
use native.Mathlib.Omega.{arith}
use lib.Dec.{T, ltb}
use lib.IntN.{ℤ, pos, negsuc}
use lib.Pow.{pow_pos}
use lib.Count.{count_trailing_zeros}
use lib.Ieee.{Float, nan, inf, fin, binary64, low, up, down, round, add, lt, eq, le, fits, below, level}
use lib.Ieee.{span, climb, size, odd, units}
use lib.Ieee.Fits.{down_pos}
use lib.Ieee.Exact.{HasValue}
use lib.Ieee.Order.{round_mono}
use lib.Ieee.Scale.{finite, grid, overflow}
use Rattle.rounding.proofs.NumberOrders.{lt-or-ge}
use Rattle.rounding.proofs.Values.{fits-units}
use Rattle.rounding.proofs.Sums.{sum_is, sum-sign, sum-size}
use Rattle.rounding.proofs.Adding.{add-units}
use Rattle.rounding.proofs.Comparing.{lt-units, eq-units}
use Rattle.rounding.proofs.Grid.{round-over, round-value}
use Rattle.rounding.proofs.RoundsToItself.{round-own}

-- Any float but -0.0.
abbrev pub Unsigned : Float → Type 0
Unsigned nan = Unit {0}
Unsigned (inf s) = Unit {0}
Unsigned (fin false m e) = Unit {0}
Unsigned (fin true zero e) = ⊥
Unsigned (fin true (suc m) e) = Unit {0}

abbrev L : ℕ
L = 2 ^ low binary64

-- No test both holds and fails.
pub no : {A : Type 0} → false ≡ true → A
no h = let z : ◌≡◌ {A = ℕ} 0 1 = cc in absurd (omega arith)

-- ---- a whole number of smallest values, other than none, does not round to zero
smallest : round binary64 false 1 L ≡ fin false 1 (negsuc 1073)
unfolding count_trailing_zeros size span climb odd units round
smallest = refl

counted : (g : ℕ) → T (below false 1 false g || level false 1 false g) → 0 < g
counted zero t = absurd t
counted (suc g) t = omega arith

opened : (x y : Float) → T (le x y) → T (lt x y || eq x y)
unfolding le
opened x y h = h

ordered : (r : Float) (g : ℕ) → T (le (fin false 1 (negsuc 1073)) r) → HasValue r false g L → 0 < g
ordered r g m v =
    let s : HasValue (fin false 1 (negsuc 1073)) false 1 L = (refl, refl) in
    counted g
    (rw (
      lt-units (fin false 1 (negsuc 1073)) r false false 1 g L (pow_pos 1074) s v,
      eq-units (fin false 1 (negsuc 1073)) r false false 1 g L (pow_pos 1074) s v,
    )
    at (opened (fin false 1 (negsuc 1073)) r m))

some-grid : (n : ℕ) → 0 < n → grid binary64 n L < overflow binary64 → 0 < grid binary64 n L
some-grid n h b =
    ordered (round binary64 false n L) (grid binary64 n L)
    (rw smallest at (round_mono binary64 1 L n L (pow_pos 1074) (pow_pos 1074) (mul-le-mul_right L h)))
    (round-value binary64 false n L b)

-- Nothing times anything is not above zero.
pub nothing-times : (a b : ℕ) → 0 * a * b ≡ 0
nothing-times a b = ap (λ (z : ℕ). z * b) (zero-mul a) ∙ zero-mul b

no_number : (a b c : ℕ) → 0 * a * b ≡ c → 0 < c → ⊥
no_number a b c e p = let z = nothing-times a b in omega arith

-- A float of a value with a sign is -0.0 only if the sign is minus and the value zero.
unsigned-value : (x : Float) (s : Bool) (g : ℕ) → HasValue x s g L → (s ≡ true → 0 < g) → Unsigned x
unsigned-value nan s g v h = tt
unsigned-value (inf t) s g v h = tt
unsigned-value (fin false m e) s g v h = tt
unsigned-value (fin true (suc m) e) s g v h = tt
unsigned-value (fin true zero e) s g v h =
    no_number (up e) L (g * down e) v.1 (mul-pos (h (sym v.0)) (down_pos e))

unsigned-round : (s : Bool) (n : ℕ) → (s ≡ true → 0 < n) → Unsigned (round binary64 s n L)
unsigned-round s n h = elim (lt-or-ge (grid binary64 n L) (overflow binary64)) [
  | inl b ↦
      unsigned-value (round binary64 s n L) s (grid binary64 n L) (round-value binary64 s n L b)
      (λ e. some-grid n (h e) b)
  | inr b ↦ subst (λ (x : Float). Unsigned x) (sym (round-over binary64 s n L b)) tt
]

-- ---- a sum of a float other than -0.0 and any float is not -0.0
sign-size : (s t : Bool) (a b : ℕ) → (s ≡ true → 0 < a) → sum-sign s a t b ≡ true → 0 < sum-size s a t b
sign-size true true a b h e = let p = h refl in omega arith
sign-size false false a b h e = no e
sign-size true false a b h e = go (ltb a b) refl e
  where
    go : (z : Bool) → ltb a b ≡ z → cond z false (true && ltb b a) ≡ true → 0 < cond z (b - a) (a - b)
    go true p q = no q
    go false p q = let l = ltb-true b a q in omega arith
sign-size false true a b h e = go (ltb a b) refl e
  where
    go : (z : Bool) → ltb a b ≡ z → cond z true (false && ltb b a) ≡ true → 0 < cond z (b - a) (a - b)
    go true p q = let l = ltb-true a b p in omega arith
    go false p q = no q

above_zero : (s : Bool) (m i : ℕ) (e : ℤ) → Unsigned (fin s m e) → s ≡ true → 0 < m * 2 ^ i
above_zero false m i e u q = no q
above_zero true zero i e u q = absurd u
above_zero true (suc m) i e u q = mul-pos (omega arith) (pow_pos i)

pub unsigned-sum : (x y : Float) → T (fits binary64 x) → T (fits binary64 y) → Unsigned x → T (finite x) → T (finite y)
    → Unsigned (add binary64 x y)
unsigned-sum nan y p q u f g = absurd f
unsigned-sum (inf s) y p q u f g = absurd f
unsigned-sum (fin s m e) nan p q u f g = absurd g
unsigned-sum (fin s m e) (inf t) p q u f g = absurd g
unsigned-sum (fin s m e) (fin t n d) p q u f g =
    let (i, v, few, under) = fits-units binary64 s m e p in
    let (j, w, few', under') = fits-units binary64 t n d q in
    subst (λ (x : Float). Unsigned x)
    (sym (add-units binary64 (fin s m e) (fin t n d) s t (m * 2 ^ i) (n * 2 ^ j) L (pow_pos 1074) v w
    ∙ sum_is binary64 s (m * 2 ^ i) t (n * 2 ^ j) L))
    (unsigned-round (sum-sign s (m * 2 ^ i) t (n * 2 ^ j)) (sum-size s (m * 2 ^ i) t (n * 2 ^ j))
    (sign-size s t (m * 2 ^ i) (n * 2 ^ j) (above_zero s m i e u)))

-- ---- a zero added to a float other than -0.0 leaves it
kept-sign : (s t : Bool) (a : ℕ) → (s ≡ true → 0 < a) → sum-sign s a t 0 ≡ s
kept-sign true true a h = refl
kept-sign false false a h = refl
kept-sign true false a h = let p = h refl in rw (le-ltb a 0 (omega arith), lt-ltb 0 a p)
kept-sign false true a h = rw (le-ltb a 0 (omega arith))

kept-size : (s t : Bool) (a : ℕ) → sum-size s a t 0 ≡ a
kept-size true true a = omega arith
kept-size false false a = omega arith
kept-size true false a = rw (le-ltb a 0 (omega arith)) (omega arith)
kept-size false true a = rw (le-ltb a 0 (omega arith)) (omega arith)

pub zero-added : (x : Float) (t : Bool) → T (fits binary64 x) → Unsigned x → T (finite x)
    → add binary64 x (fin t 0 (pos 0)) ≡ x
zero-added nan t p u f = absurd f
zero-added (inf s) t p u f = absurd f
zero-added (fin s m e) t p u f =
    let (i, v, few, under) = fits-units binary64 s m e p in
    let w : HasValue (fin t 0 (pos 0)) t 0 L = (refl, refl) in
    add-units binary64 (fin s m e) (fin t 0 (pos 0)) s t (m * 2 ^ i) 0 L (pow_pos 1074) v w
    ∙ sum_is binary64 s (m * 2 ^ i) t 0 L
    ∙ ap (λ (z : Bool). round binary64 z (sum-size s (m * 2 ^ i) t 0) L)
    (kept-sign s t (m * 2 ^ i) (above_zero s m i e u))
    ∙ ap (λ (z : ℕ). round binary64 s z L) (kept-size s t (m * 2 ^ i))
    ∙ round-own binary64 (fin s m e) s (m * 2 ^ i) L p (pow_pos 1074) v
