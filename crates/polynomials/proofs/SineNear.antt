-- E1. The sine's polynomial is within 2 ^ -45 * |x| of Taylor's fraction through x ^ 21, for |x| ≤ 1. From 2 ^ -1000 on
-- the rounding of the last product is a part of |x|; below that x * x rounds to zero, the nested sum is 1 and the
-- answer is x. Assumes nothing.
use mathlib.Core.Path.{◌≡◌, refl, sym}
use mathlib.Core.Bool.{Bool, true, false, not}
use Prim.Native.Nat.{ℕ, suc, ◌+◌, ◌-◌, ◌*◌, ◌^◌, ◌≤◌, ◌<◌}
use native.Mathlib.Nat.{le_trans, le_of_eq, le_of_lt, lt_of_le_of_lt, mul-one, one-mul, mul_comm, mul-pos, mul_assoc}
use native.Mathlib.Nat.{mul-le-mul, mul-le-mul_left, mul-le-mul_right}
use native.Mathlib.Omega.{arith}
use lib.IntN.{pos, negsuc}
use lib.Dec.{T, leb, leb→le, nleb→lt, lit≤, lit<}
use lib.Pow.{pow_pos}
use lib.Ieee.{Float, nan, inf, fin, binary64, round, mul, fits}
use Rattle.rounding.proofs.NumberOrders.{pow_le_back}
use Rattle.rounding.proofs.Values.{fits-parts}
use Rattle.rounding_error.specs.Fraction.{Frac, frac, nil, times, Same, Within, Mag}
use Rattle.rounding_error.specs.Value.{signed, val, Is, Rounds}
use Rattle.rounding_error.proofs.Same.{same_refl, same-sym, same-trans, times-same, times-one}
use Rattle.rounding_error.proofs.Within.{flip, chain, from, to, rescale, within-opp, beside}
use Rattle.rounding_error.proofs.ProductErrors.{within-times-at, mag-times}
use Rattle.rounding_error.proofs.Value.{val_pos, is-val, neg_is}
use Rattle.rounding_error.proofs.Operations.{mul-rounded}
use Rattle.rounding_error.proofs.Exact.{add_is, mul_is}
use Rattle.rounding_error.proofs.OperandErrors.{rounded-relative}
use Rattle.rounding_error.proofs.Grid.{rounded-none}
use Rattle.polynomials.specs.Taylor.{factorial, power, sine_fraction}
use Rattle.polynomials.specs.Horner.{reciprocal, horner, sine_steps, sine_near}
use Rattle.polynomials.specs.Range.{at_most}
use Rattle.polynomials.proofs.Nested.{nested, alternates}
use Rattle.polynomials.proofs.Horner.{g, cost, last}
use Rattle.polynomials.proofs.Squares.{square, squared, in-square, in-square-mag, at-most-finite, at_most_size}
use Rattle.polynomials.proofs.Squares.{own-mag}

-- The fraction is x times the nested sum.
fraction-is : (x : Float) → T (at_most 1 x) → Same (times (val x) (nested 2 (squared x) 1 10)) (sine_fraction (val x))
unfolding power
fraction-is x h =
    same-trans (times-same (unit (val x) (val_pos x)) (same_refl (in-square-mag x h 1 10).left))
    (alternates (val x) 1 10 (val_pos x))
  where
    unit : (y : Frac) → 0 < y.d → Same y (times (frac 1 0 1) y)
    unit y P = omega arith

-- ---- |x| = A / C from 2 ^ -1000 on
module _ (x : Float) (h : T (at_most 1 x)) (A C : ℕ) (C-pos : 0 < C) (mag : Within C A (val x) nil) where
  q-near : Rounds g (cost 1 2 sine_steps) (horner 2 (square x) 1 sine_steps) (nested 2 (squared x) 1 10)
  unfolding cost last factorial
  q-near = in-square x h 1 sine_steps 10 1 (lit< tt) (lit≤ tt) (lit≤ tt)

  rounding : A ≤ C → C ≤ A * 2 ^ 1000
      → Rounds (C * 2 ^ 53) (A * 3) (sine_near x) (times (val x) (val (horner 2 (square x) 1 sine_steps)))
  unfolding sine_near factorial cost
  rounding l t =
      let three : Mag 3 (val (horner 2 (square x) 1 sine_steps)) =
      rescale (lit< tt) (lit≤ tt)
      (chain q-near.near (rescale {g' = g} {e' = 2 * g} (lit< tt) (lit≤ tt) (in-square-mag x h 1 10))) in
      rounded-relative C-pos (rw (one-mul C) at (mag-times mag three))
      (le_trans (mul-le-mul_right (2 ^ 53) t)
      (le_trans (le_of_eq (mul_assoc A (2 ^ 1000) (2 ^ 53)))
      (le_trans (mul-le-mul_left A (lit≤ tt)) (le_of_eq (sym (mul_assoc A 3 (2 ^ 1074 * 2)))))))
      (mul-le-mul l (lit≤ tt)) (mul-rounded binary64 x (horner 2 (square x) 1 sine_steps) (at-most-finite 1 x h)
      q-near.real)

  not-tiny : A ≤ C → C ≤ A * 2 ^ 1000 → Rounds (C * 2 ^ 45) A (sine_near x) (times (val x) (nested 2 (squared x) 1 10))
  unfolding cost
  not-tiny l t =
      let r = rounding l t in
      let a : Within (C * 2 ^ 54) (A * 6) (val (sine_near x)) (times (val x) (val (horner 2 (square x) 1 sine_steps))) =
      rescale (mul-pos C-pos (lit< tt)) (omega arith) r.near in
      let b : Within (C * 2 ^ 54) (A * cost 1 2 sine_steps) (times (val x) (val (horner 2 (square x) 1 sine_steps)))
      (times (val x) (nested 2 (squared x) 1 10)) = rw (mul_comm (2 ^ 54) C) at
      (within-times-at mag q-near.near) in
      record { real = r.real; near = rescale (mul-pos C-pos (lit< tt)) (omega arith) (chain a b) }

-- ---- below 2 ^ -1000
times-unit : (s : Bool) (a t : ℕ) {x q : Float} → a < 2 ^ 53 → t ≤ 1074 → Is x (signed s a (2 ^ t)) → Is q (frac 1 0 1)
    → Is (mul binary64 x q) (signed s a (2 ^ t))
times-unit false a t h l i j =
    mul_is i j (times-one (frac a 0 (2 ^ t)) (pow_pos t)) (record { hi = omega arith; lo = omega arith; deep = l })
times-unit true a t h l i j =
    mul_is i j (times-one (frac 0 a (2 ^ t)) (pow_pos t)) (record { hi = omega arith; lo = omega arith; deep = l })

-- x * 1 is x, by the digits that x has.
kept : (x q : Float) → T (fits binary64 x) → ((val x).p + (val x).n) * 2 ^ 1000 ≤ (val x).d → T (at_most 1 x)
    → Is q (frac 1 0 1) → Is (mul binary64 x q) (val x)
kept nan q f t h j = absurd h
kept (inf s) q f t h j = absurd h
kept (fin s m (pos k)) q f t h j =
    times-unit s (m * 2 ^ k) 0
    (lt_of_le_of_lt (le_trans (small s (m * 2 ^ k) t) (le_of_eq (own s (m * 2 ^ k)))) (lit< tt)) (lit≤ tt)
    (is-val (fin s m (pos k)) tt) j
  where
    own : (s : Bool) (a : ℕ) → (signed s a 1).d ≡ 1
    own false a = refl
    own true a = refl

    small : (s : Bool) (a : ℕ) → ((signed s a 1).p + (signed s a 1).n) * 2 ^ 1000 ≤ (signed s a 1).d
        → a ≤ (signed s a 1).d
    small false a t = le_trans (le_of_eq (sym (mul-one a))) (le_trans (mul-le-mul (omega arith) (lit≤ tt)) t)
    small true a t = le_trans (le_of_eq (sym (mul-one a))) (le_trans (mul-le-mul (omega arith) (lit≤ tt)) t)
kept (fin s m (negsuc k)) q f t h j =
    let d = fits-parts binary64 s m (negsuc k) f in
    times-unit s (m * 1) (suc k) (rw (mul-one m) d.0) (pow_le_back (suc k) 1074 d.1)
    (is-val (fin s m (negsuc k)) tt) j

module _ (x : Float) (h : T (at_most 1 x)) (f : T (fits binary64 x))
    (t : ((val x).p + (val x).n) * 2 ^ 1000 ≤ (val x).d) where
  tiny-mag : Within (2 ^ 1000) 1 (val x) nil
  tiny-mag = rescale (val_pos x) (le_trans t (le_of_eq (sym (one-mul (val x).d)))) (own-mag (val x) (val_pos x))

  no-square : Is (square x) nil
  no-square =
      let r = at-most-finite 1 x h in
      neg_is (rounded-none (mag-times tiny-mag tiny-mag) (lit< tt) (mul-rounded binary64 x x r r))

  nest-is-one : Is (horner 2 (square x) 1 sine_steps) (frac 1 0 1)
  unfolding horner reciprocal round factorial cost last
  nest-is-one =
      let q = horner 2 (square x) 3 (sine_steps - 1) in
      let i = is-val q (in-square x h 3 (sine_steps - 1) 10 1 (lit< tt) (lit≤ tt) (lit≤ tt)).real in
      let p : Is (mul binary64 (square x) q) (frac 0 0 (2 ^ 0)) =
      mul_is {t = 0} no-square i (omega (arith, val_pos q)) (omega arith) in
      let u : Is (reciprocal 1) (frac 1 0 1) = record { real = tt; same = omega arith } in
      add_is {t = 0} u p (omega arith) (omega arith)

  tiny : Rounds ((val x).d * 2 ^ 45) ((val x).p + (val x).n) (sine_near x) (times (val x) (nested 2 (squared x) 1 10))
  unfolding sine_near nested factorial
  tiny =
      let i = kept x (horner 2 (square x) 1 sine_steps) f t h nest-is-one in
      let z : Within (2 ^ 1000 * 2 ^ 1000) 1 (squared x) nil = within-opp (mag-times tiny-mag tiny-mag) in
      let w : Within (2 ^ 45) 1 (nested 2 (squared x) 1 10) (frac 1 0 1) =
      beside (frac 1 0 1) (lit< tt) (rescale (lit< tt) (lit≤ tt) (mag-times z (in-square-mag x h 3 9))) in
      let v = to (times-one (val x) (val_pos x)) (within-times-at (own-mag (val x) (val_pos x)) w) in
      record {
        real = i.real;
        near =
            from (same-sym i.same)
            (flip (rw (mul_comm (val x).d (2 ^ 45)) (rw (mul-one ((val x).p + (val x).n)) at v)));
      }

-- ---- both ranges together
pub sine-close : (x : Float) → T (fits binary64 x) → T (at_most 1 x)
    → Rounds ((val x).d * 2 ^ 45) ((val x).p + (val x).n) (sine_near x) (sine_fraction (val x))
sine-close x f h =
    let w = go (leb C (A * 2 ^ 1000)) (leb→le C (A * 2 ^ 1000)) (nleb→lt C (A * 2 ^ 1000)) in
    record { real = w.real; near = to (fraction-is x h) w.near }
  where
    A : ℕ
    A = (val x).p + (val x).n

    C : ℕ
    C = (val x).d

    go : (b : Bool) → (T b → C ≤ A * 2 ^ 1000) → (T (not b) → A * 2 ^ 1000 < C)
        → Rounds (C * 2 ^ 45) A (sine_near x) (times (val x) (nested 2 (squared x) 1 10))
    go true y n = not-tiny x h A C (val_pos x) (own-mag (val x) (val_pos x)) (omega (arith, at_most_size 1 x h)) (y tt)
    go false y n = tiny x h f (le_of_lt (n tt))
