-- A remainder is exact: its digits stand at the lower of the two places, and it has no more of them than one of the two
-- numbers. So for a number that is not below zero it is not below zero either, and it is below the divisor. Assumes
-- nothing.
use Rattle.std.proofs.Common.{◌≡◌, ℕ, suc, ◌+◌, ◌-◌, ◌*◌, ◌%◌, ◌^◌, ◌<◌, Bool, true, false, not, T, sym, refl, ap, ◌∙◌}
use Rattle.std.proofs.Common.{subst, le_trans, lt_trans, le_of_eq, lt_of_lt_of_le, lt_of_le_of_lt, mod-lt, mul_assoc}
use Rattle.std.proofs.Common.{mul_comm, mul-pos, arith, lt→ltb, nltb→le, pow_pos, pow-add}
use mathlib.Core.Logic.{dite}
use native.Mathlib.Nat.{mod-le}
use native.Mathlib.Decide.{dec_lt}
use lib.Dec.{not_T}
use lib.Arith.{le→nltb}
use lib.Ieee.{Float, nan, inf, fin, Format, binary64, prec, emax, low, below, rem, lt, le, fits, is_nan}
use lib.Ieee.Bits.{is_false}
use lib.Ieee.Exact.{HasValue, round_exact}
use lib.Ieee.Positive.{positive, first_pos, value_pos}
use lib.Ieee.Scale.{finite}
use Rattle.magnitude.proofs.Comparisons.{nlt→le}
use Rattle.rounding.proofs.Comparing.{lt-units}
use Rattle.rounding.proofs.Values.{fits-units, value-no-nan}
use Rattle.remainder.specs.Euclid as euclid
use Rattle.remainder.specs.Euclid.{rem_euclid}
use Rattle.remainder.proofs.Division.{scale-mod, placed}
use Rattle.remainder.proofs.Remainders.{rem-units}
use Rattle.remainder.proofs.AlreadyBelow.{apart}

-- w is a whole number of few digits times a power of two.
record Few (p w : ℕ) : Type 0 where
  pub digits : ℕ
  pub place : ℕ
  pub is : w ≡ digits * 2 ^ place
  pub few : digits < 2 ^ p

few-left : (p m i n j : ℕ) → m < 2 ^ p → n < 2 ^ p → 0 < n → Few p (m * 2 ^ i % (n * 2 ^ j))
few-left p m i n j M N some = dite (dec_lt i j) lower higher
  where
    lower : i < j → Few p (m * 2 ^ i % (n * 2 ^ j))
    lower l = record {
      digits = m % (n * 2 ^ (j - i));
      place = i;
      is =
          ap (λ (z : ℕ). m * 2 ^ i % z)
          (ap (λ (z : ℕ). n * z) (ap (λ (z : ℕ). 2 ^ z) (omega arith) ∙ pow-add 2 (j - i) i)
          ∙ sym (mul_assoc n (2 ^ (j - i)) (2 ^ i)))
          ∙ scale-mod m (n * 2 ^ (j - i)) (2 ^ i) (mul-pos some (pow_pos (j - i))) (pow_pos i);
      few = lt_of_le_of_lt (mod-le m (n * 2 ^ (j - i))) M;
    }

    higher : (i < j → ⊥) → Few p (m * 2 ^ i % (n * 2 ^ j))
    higher l = record {
      digits = m * 2 ^ (i - j) % n;
      place = j;
      is = sym (placed m n i j some (omega arith));
      few = lt_trans (mod-lt (m * 2 ^ (i - j)) some) N;
    }

record Left (f : Format) (x y : Float) : Type 0 where
  pub sign : Bool
  pub first : ℕ
  pub second : ℕ
  pub dividend : HasValue x sign first (2 ^ low f)
  pub divisor : HasValue y false second (2 ^ low f)
  pub some : 0 < second
  pub value : HasValue (rem f x y) sign (first % second) (2 ^ low f)

left : (f : Format) (x y : Float) → T (fits f x) → T (fits f y) → T (finite x) → T (positive y) → Left f x y
left f nan y p q r s = absurd r
left f (inf t) y p q r s = absurd r
left f (fin t m e) nan p q r s = absurd s
left f (fin t m e) (inf u) p q r s = absurd s
left f (fin t m e) (fin true n d) p q r s = absurd s
left f (fin t m e) (fin false n d) p q r s =
    let (i, v, M, A) = fits-units f t m e p in
    let (j, w, N, B) = fits-units f false n d q in
    let a = m * 2 ^ i in
    let b = n * 2 ^ j in
    let some : 0 < b = value_pos (fin false n d) b (2 ^ low f) s (pow_pos (low f)) w in
    let k = few-left (prec f) m i n j M N (first_pos n (2 ^ j) some) in
    let small : k.digits * 2 ^ k.place < 2 ^ (low f + suc (emax f)) =
    lt_of_le_of_lt (le_trans (le_of_eq (sym k.is)) (mod-le a b))
    (lt_of_lt_of_le A (le_of_eq (mul_comm (2 ^ suc (emax f)) (2 ^ low f)
    ∙ sym (pow-add 2 (low f) (suc (emax f)))))) in
    record {
      sign = t;
      first = a;
      second = b;
      dividend = v;
      divisor = w;
      some = some;
      value =
          rw (rem-units f (fin t m e) (fin false n d) t false a b (2 ^ low f) (pow_pos (low f)) some v w)
          (round_exact f t (a % b) (2 ^ low f) k.digits k.place (pow_pos (low f)) k.few small
          (ap (λ (z : ℕ). z * 2 ^ low f) k.is));
    }

-- ---- from zero to below the divisor
nothing : (t : Bool) (a b : ℕ) → T (not (below t a false 0)) → T (not (below t (a % b) false 0))
nothing false a b h = le→nltb (a % b) 0 (omega arith)
nothing true a b h = le→nltb 0 (a % b + 0) (le_trans (omega (arith, mod-le a b)) (nltb→le 0 (a + 0) h))

smaller : (t : Bool) (a b : ℕ) → 0 < b → T (below t (a % b) false b)
smaller false a b h = lt→ltb (a % b) b (mod-lt a h)
smaller true a b h = lt→ltb 0 (a % b + b) (omega arith)

pub euclid-range : (x y : Float) → T (fits binary64 x) → T (fits binary64 y) → T (finite x) → T (positive y)
    → T (le euclid.zero x) → T (le euclid.zero (rem_euclid x y)) × T (lt (rem_euclid x y) y)
unfolding rem_euclid is_nan
euclid-range x y p q r s h =
    let k = left binary64 x y p q r s in
    let l = 2 ^ 1074 in
    let zero-value : HasValue euclid.zero false 0 l = (refl, refl) in
    let from : T (not (below k.sign k.first false 0)) =
    subst (λ (t : Bool). T (not t))
    (lt-units x euclid.zero k.sign false k.first 0 l (pow_pos 1074) k.dividend zero-value)
    (not_T (lt x euclid.zero) (apart euclid.zero x h)) in
    let kept : T (not (lt (rem binary64 x y) euclid.zero)) =
    subst (λ (t : Bool). T (not t))
    (sym (lt-units (rem binary64 x y) euclid.zero k.sign false (k.first % k.second) 0 l (pow_pos 1074)
    k.value zero-value))
    (nothing k.sign k.first k.second from) in
    let under : T (lt (rem binary64 x y) y) =
    subst T
    (sym (lt-units (rem binary64 x y) y k.sign false (k.first % k.second) k.second l (pow_pos 1074)
    k.value k.divisor))
    (smaller k.sign k.first k.second k.some) in
    rw (is_false (lt (rem binary64 x y) euclid.zero) kept) (
      nlt→le euclid.zero (rem binary64 x y) tt
          (value-no-nan (rem binary64 x y) k.sign (k.first % k.second) l k.value) kept,
      under,
    )
