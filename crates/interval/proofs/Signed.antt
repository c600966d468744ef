-- The order of finite floats as an order of whole numbers. A float is (gain - loss) / den, where gain or loss is 0, so
-- that no sign is left and `omega` reads the rest. Assumes nothing.
use mathlib.Core.Bool.{Bool, true, false, not, cond}
use Prim.Native.Nat.{ℕ, ◌+◌, ◌*◌, ◌≤◌, ◌<◌}
use native.Mathlib.Nat.{lt_of_not-le, lt_of_mul-lt-mul_right, le_of_mul-le-mul_right, mul-le-mul_right}
use native.Mathlib.Nat.{mul-lt-mul_of_pos_right, mul_assoc, mul_comm, mul_left_comm, add-mul, mul-add}
use native.Mathlib.Omega.{arith}
use lib.Dec.{T, T_not, not_T, eqb, ltb→lt, lt→ltb, eqb→eq}
use lib.Arith.{le→nltb}
use lib.Ieee.{Float, nan, inf, fin, up, down, lt, le, is_nan}
use lib.Ieee.Fits.{and_l, and_r}
use lib.Ieee.Positive.{den, den_pos}
use lib.Ieee.Scale.{finite}
use Rattle.magnitude.proofs.Comparisons.{nlt→le, le-not-negative, le-negative}

pub ruleset ring = (mul-add, add-mul, mul_assoc, mul_comm, mul_left_comm)

-- ±a is plus - less.
abbrev pub plus : Bool → ℕ → ℕ
plus s a = cond s 0 a

abbrev pub less : Bool → ℕ → ℕ
less s a = cond s a 0

abbrev pub gain : Float → ℕ
gain nan = 0
gain (inf s) = 0
gain (fin s m e) = plus s (m * up e)

abbrev pub loss : Float → ℕ
loss nan = 0
loss (inf s) = 0
loss (fin s m e) = less s (m * up e)

-- Both sides of x ≤ y, multiplied by both denominators.
abbrev pub left : Float → Float → ℕ
left x y = gain x * den y + loss y * den x

abbrev pub right : Float → Float → ℕ
right x y = gain y * den x + loss x * den y

pub under : (x y : Float) → T (finite x) → T (finite y) → T (le x y) → left x y ≤ right x y
unfolding le
under nan y p q h = absurd p
under (inf s) y p q h = absurd p
under (fin s m e) nan p q h = absurd q
under (fin s m e) (inf t) p q h = absurd q
under (fin false m e) (fin false n d) p q h = omega (arith, le-not-negative m e false n d h)
under (fin true m e) (fin true n d) p q h = omega (arith, le-negative true m e n d h)
under (fin true m e) (fin false n d) p q h = omega arith
under (fin false m e) (fin true n d) p q h =
    let a = m * up e * down d in
    let b = n * up d * down e in
    omega (arith, eqb→eq a b (and_l (eqb a b) (eqb a 0) h), eqb→eq a 0 (and_r (eqb a b) (eqb a 0) h))

pub of-under : (x y : Float) → T (finite x) → T (finite y) → left x y ≤ right x y → T (le x y)
unfolding lt is_nan
of-under nan y p q h = absurd p
of-under (inf s) y p q h = absurd p
of-under (fin s m e) nan p q h = absurd q
of-under (fin s m e) (inf t) p q h = absurd q
of-under (fin false m e) (fin false n d) p q h =
    nlt→le (fin false m e) (fin false n d) tt tt (le→nltb (n * up d * down e) (m * up e * down d) (omega arith))
of-under (fin true m e) (fin true n d) p q h =
    nlt→le (fin true m e) (fin true n d) tt tt (le→nltb (m * up e * down d) (n * up d * down e) (omega arith))
of-under (fin true m e) (fin false n d) p q h = nlt→le (fin true m e) (fin false n d) tt tt tt
of-under (fin false m e) (fin true n d) p q h =
    nlt→le (fin false m e) (fin true n d) tt tt (le→nltb 0 (n * up d * down e + m * up e * down d) (omega arith))

-- ---- the same for the strict order
pub strictly : (x y : Float) → T (finite x) → T (finite y) → T (lt x y) → left x y < right x y
unfolding lt
strictly nan y p q h = absurd p
strictly (inf s) y p q h = absurd p
strictly (fin s m e) nan p q h = absurd q
strictly (fin s m e) (inf t) p q h = absurd q
strictly (fin false m e) (fin false n d) p q h = omega (arith, ltb→lt (m * up e * down d) (n * up d * down e) h)
strictly (fin true m e) (fin true n d) p q h = omega (arith, ltb→lt (n * up d * down e) (m * up e * down d) h)
strictly (fin true m e) (fin false n d) p q h = omega (arith, ltb→lt 0 (m * up e * down d + n * up d * down e) h)
strictly (fin false m e) (fin true n d) p q h = absurd h

pub of-strictly : (x y : Float) → T (finite x) → T (finite y) → left x y < right x y → T (lt x y)
unfolding lt
of-strictly nan y p q h = absurd p
of-strictly (inf s) y p q h = absurd p
of-strictly (fin s m e) nan p q h = absurd q
of-strictly (fin s m e) (inf t) p q h = absurd q
of-strictly (fin false m e) (fin false n d) p q h = lt→ltb (m * up e * down d) (n * up d * down e) (omega arith)
of-strictly (fin true m e) (fin true n d) p q h = lt→ltb (n * up d * down e) (m * up e * down d) (omega arith)
of-strictly (fin true m e) (fin false n d) p q h = lt→ltb 0 (m * up e * down d + n * up d * down e) (omega arith)
of-strictly (fin false m e) (fin true n d) p q h = absurd (omega arith)

pub nle→lt : (x y : Float) → T (finite x) → T (finite y) → T (not (le y x)) → T (lt x y)
nle→lt x y p q h =
    of-strictly x y p q (lt_of_not-le (λ (k : right x y ≤ left x y). T_not (le y x) h (of-under y x q p k)))

pub lt→nle : (x y : Float) → T (finite x) → T (finite y) → T (lt x y) → T (not (le y x))
lt→nle x y p q h = not_T (le y x) (λ t. omega (arith, strictly x y p q h, under y x q p t))

pub le-le : (x y z : Float) → T (finite x) → T (finite y) → T (finite z) → T (le x y) → T (le y z) → T (le x z)
le-le x y z p q r h k =
    of-under x z p r
    (le_of_mul-le-mul_right
    (simp ring (omega (
      arith,
      simp ring at (mul-le-mul_right (den z) (under x y p q h)),
      simp ring at (mul-le-mul_right (den x) (under y z q r k)),
    ))) (den_pos y))

pub le-lt : (x y z : Float) → T (finite x) → T (finite y) → T (finite z) → T (le x y) → T (lt y z) → T (lt x z)
le-lt x y z p q r h k =
    of-strictly x z p r
    (lt_of_mul-lt-mul_right (den y)
    (simp ring (omega (
      arith,
      simp ring at (mul-le-mul_right (den z) (under x y p q h)),
      simp ring at (mul-lt-mul_of_pos_right (strictly y z q r k) (den_pos x)),
    ))))

pub record Ordered (x y : Float) : Type 0 where
  pub first : T (finite x)
  pub second : T (finite y)
  pub order : T (le x y)

pub bound : {x y : Float} → Ordered x y → left x y ≤ right x y
bound {x} {y} o = under x y o.first o.second o.order
