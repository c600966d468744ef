-- W5d. For an x from 0 to 20 the tolerance ends the series after at most 41 terms. Each step keeps the order, so that
-- no term lies above the one at y = 100 and no sum below 1; and the 41st term at y = 100 is below 1.0e-16. So it does
-- not matter how many more terms are allowed. Assumes nothing.
use mathlib.Core.Path.{◌≡◌, refl, sym, ap, ◌∙◌}
use mathlib.Core.Bool.{Bool, true, false, cond, ◌&&◌, false≢true}
use mathlib.Core.List.{List, [], ◌∷◌}
use Prim.Native.Nat.{ℕ, zero, suc, ◌+◌, ◌^◌}
use native.Mathlib.Nat.{lt_of_mul-lt-mul_right, mul-le-mul_right, mul-lt-mul_of_pos_right}
use native.Mathlib.Omega.{arith}
use lib.Count.{count_trailing_zeros}
use lib.Dec.{T}
use lib.IntN.{pos}
use lib.Ieee.{Float, fin, binary64, size, span, climb, odd, units, round, sum, add, mul, div, lt, eq, le, of_int}
use lib.Ieee.Bits.{is_true}
use lib.Ieee.Fits.{and_l, and_r}
use lib.Ieee.Positive.{den, den_pos}
use lib.Ieee.Scale.{finite}
use Rattle.interval.proofs.Signed.{ring, under, strictly, of-strictly, le-lt}
use Rattle.interval.proofs.Between.{Between, between, point, sum-between, widen}
use Rattle.interval.proofs.Products.{least, most, product-between, quotient-between}
use Rattle.interval.proofs.Pieces.{all, All, all_of}
use Rattle.bessel.specs.declared.Mode.TheVariants.{Full}
use Rattle.bessel.specs.Series.{term_of, ends, sum_after, one-f, four-f, series_of, ends_after, ends_within}
use Rattle.bessel.specs.Modes.{sum_in}

abbrev zero-f : Float
zero-f = fin false 0 (pos 0)

abbrev twenty : Float
twenty = fin false 5 (pos 2)

abbrev hundred : Float
hundred = fin false 25 (pos 2)

abbrev tiny : Float
tiny = round binary64 false 1 (10 ^ 16)

-- The divisor of y in term k.
abbrev squared : ℕ → Float
squared k = mul binary64 (of_int binary64 (pos k)) (of_int binary64 (pos k))

-- ---- what is computed: that the bounds of one step are finite and not negative, and those of n steps, beginning with
-- the bounds t of the term and s of the sum
abbrev tests : Float → Float → Float → Float → List Bool
tests d q t s =
    finite d ∷ lt zero-f d ∷ finite (div binary64 zero-f d) ∷ le zero-f (div binary64 zero-f d) ∷ finite q ∷ le zero-f q
    ∷ finite t ∷ finite s ∷ finite (mul binary64 s tiny) ∷ []

unfoldable enough : ℕ → ℕ → Float → Float → Bool
enough zero k t s = false
enough (suc n) k t s =
    let q = div binary64 hundred (squared (suc k)) in
    let t' = mul binary64 t q in
    let s' = add binary64 s t' in
    all (tests (squared (suc k)) q t' s') && cond (lt t' tiny) true (enough n (suc k) t' s')

computed : T (enough 41 0 one-f one-f)
unfolding enough count_trailing_zeros size span climb odd units round sum add mul div lt eq le of_int
computed = tt

lt-le : (x y z : Float) → T (finite x) → T (finite y) → T (finite z) → T (lt x y) → T (le y z) → T (lt x z)
lt-le x y z p q r h k =
    of-strictly x z p r
    (lt_of_mul-lt-mul_right (den y)
    (simp ring
    (omega (
      arith,
      simp ring at (mul-lt-mul_of_pos_right (strictly x y p q h) (den_pos z)),
      simp ring at (mul-le-mul_right (den x) (under y z q r k)),
    ))))

-- The tolerance is above zero, and once itself.
tiny-above : le zero-f tiny ≡ true
unfolding count_trailing_zeros size span climb odd units round lt eq le
tiny-above = refl

one-above : T (le zero-f one-f)
unfolding lt eq le
one-above = tt

tiny-finite : T (finite tiny)
unfolding count_trailing_zeros size span climb odd units round
tiny-finite = tt

tiny-once : mul binary64 one-f tiny ≡ tiny
unfolding count_trailing_zeros size span climb odd units round mul
tiny-once = refl

at-least-tiny : (s : Float) → least binary64 one-f s tiny ≡ tiny
at-least-tiny s = ap (λ (b : Bool). mul binary64 (cond b one-f s) tiny) tiny-above ∙ tiny-once

at-most-tiny : (s : Float) → most binary64 one-f s tiny ≡ mul binary64 s tiny
at-most-tiny s = ap (λ (b : Bool). mul binary64 (cond b s one-f) tiny) tiny-above

-- ---- one step, for every y from 0 to 100
module _
    (d t s y total term : Float) (v : Between zero-f hundred y) (u : Between zero-f t term)
    (w : Between one-f s total) where
  abbrev Q : Float
  Q = div binary64 hundred d

  abbrev T' : Float
  T' = mul binary64 t Q

  abbrev S' : Float
  S' = add binary64 s T'

  abbrev next : Float
  next = mul binary64 term (div binary64 y d)

  abbrev more : Float
  more = add binary64 total next

  module _ (h : T (all (tests d Q T' S'))) where
    f : All (tests d Q T' S')
    f = all_of (tests d Q T' S') h

    share : Between zero-f Q (div binary64 y d)
    unfolding lt eq le
    share =
        let r = f.1.1 in
        let q = r.1.1.0 in
        widen (quotient-between binary64 tt v (point d f.0) f.1.0 refl refl r.0 q) tt q r.1.0
        (point Q q).above.order

    term-under : Between zero-f T' next
    unfolding count_trailing_zeros size span climb odd units round mul lt eq le
    term-under =
        let r = f.1.1.1.1.1 in
        product-between binary64 tt u share refl
        (ap (λ (b : Bool). mul binary64 (cond b t zero-f) Q) (is_true (le zero-f Q) r.0)) tt r.1.0

    sum_over : Between one-f S' more
    unfolding count_trailing_zeros size span climb odd units round sum add
    sum_over = sum-between binary64 w term-under refl refl tt f.1.1.1.1.1.1.1.0

    last : T (lt T' tiny) → ends more next ≡ true
    last l =
        let z : Between tiny (mul binary64 S' tiny) (mul binary64 more tiny) =
        product-between binary64 one-above sum_over (point tiny tiny-finite) (at-least-tiny S') (at-most-tiny S')
        tiny-finite
        f.1.1.1.1.1.1.1.1.0 in
        let a = term-under.below in
        is_true _
        (lt-le next tiny (mul binary64 more tiny) a.first tiny-finite z.above.second
        (le-lt next T' tiny a.first a.second tiny-finite a.order l) z.above.order)

-- b says whether the term is below the tolerance, c whether its bound is; r and e are the same for what follows.
either : (b c e r : Bool) → (T c → b ≡ true) → T (cond c true e) → (T e → r ≡ true) → cond b true r ≡ true
either true c e r now h later = refl
either false true e r now h later = absurd (false≢true (now tt))
either false false e r now h later = later h

ended : (n k : ℕ) (t s y total term : Float) → T (enough n k t s) → Between zero-f hundred y → Between zero-f t term
    → Between one-f s total → ends_after n k y total term ≡ true
unfolding enough ends_after
ended zero k t s y total term h v u w = absurd h
ended (suc n) k t s y total term h v u w =
    let d = squared (suc k) in
    let q = div binary64 hundred d in
    let t' = mul binary64 t q in
    let s' = add binary64 s t' in
    let x = term_of y (suc k) term in
    let m = add binary64 total x in
    let here = and_l (all (tests d q t' s')) (cond (lt t' tiny) true (enough n (suc k) t' s')) h in
    let rest = and_r (all (tests d q t' s')) (cond (lt t' tiny) true (enough n (suc k) t' s')) h in
    either (ends m x) (lt t' tiny) (enough n (suc k) t' s') (ends_after n (suc k) y m x)
    (last d t s y total term v u w here) rest
    (λ e. ended n (suc k) t' s' y m x e v (term-under d t s y total term v u w here)
    (sum_over d t s y total term v u w here))

-- ---- beta from 0 to 20
pub tolerance-ends : (x : Float) → T (le zero-f x) → T (le x twenty) → ends_within 41 x ≡ true
unfolding ends_within count_trailing_zeros size span climb odd units round mul div lt eq le
tolerance-ends x p q =
    let b : Between zero-f twenty x = between tt tt p q in
    let s : Between zero-f (fin false 25 (pos 4)) (mul binary64 x x) =
    product-between binary64 tt b b refl refl tt tt in
    let y : Between zero-f hundred (div binary64 (mul binary64 x x) four-f) =
    quotient-between binary64 tt s (point four-f tt) tt refl refl tt tt in
    ended 41 0 one-f one-f _ one-f one-f computed y (between tt tt tt tt) (point one-f tt)

-- ---- more terms change nothing
alike : (b r : Bool) (m a c : Float) → cond b true r ≡ true → (r ≡ true → a ≡ c) → cond b m a ≡ cond b m c
alike true r m a c h e = refl
alike false r m a c h e = e h

same_sum : (n m k : ℕ) (y total term : Float) → ends_after n k y total term ≡ true
    → sum_after (n + m) k y total term ≡ sum_after n k y total term
unfolding ends_after sum_after
same_sum zero m k y total term h = absurd (false≢true h)
same_sum (suc n) m k y total term h =
    let x = term_of y (suc k) term in
    let s = add binary64 total x in
    let e : suc n + m ≡ suc (n + m) = omega arith in
    rw e
    (alike (ends s x) (ends_after n (suc k) y s x) s (sum_after (n + m) (suc k) y s x) (sum_after n (suc k) y s x) h
    (same_sum n m (suc k) y s x))

pub more-terms : (n m : ℕ) (x : Float) → ends_within n x ≡ true → series_of (n + m) x ≡ series_of n x
unfolding ends_within series_of
more-terms n m x h = same_sum n m 0 _ one-f one-f h

-- The full mode is the sum without a limit.
pub unlimited : (m : ℕ) (x : Float) → T (le zero-f x) → T (le x twenty) → series_of (41 + m) x ≡ sum_in Full x
unlimited m x p q = more-terms 41 m x (tolerance-ends x p q) ∙ sym (more-terms 41 23 x (tolerance-ends x p q))
