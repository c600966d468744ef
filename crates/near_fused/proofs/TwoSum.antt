-- s - (s - p) is exact, for s = p + c rounded. Either p is no larger than s; or c is no larger than p; or s is smaller
-- than both and was not rounded. Assumes nothing.
use mathlib.Core.Path.{◌≡◌, refl, subst}
use mathlib.Core.Logic.{inl, inr}
use mathlib.Core.Bool.{Bool, true, false, not, beq, cond, true≢false, false≢true}
use Prim.Native.Nat.{ℕ, ◌+◌, ◌-◌, ◌*◌, ◌^◌, ◌≤◌, ◌<◌}
use native.Mathlib.Nat.{le_of_lt, le-add_right, sub-le, add-sub_cancel_left, lt_of_le_of_lt, mul-pos}
use native.Mathlib.Omega.{arith}
use borrow.Author.Tests.{lt-ltb}
use lib.Dec.{T, ltb}
use lib.Pow.{pow_pos}
use lib.Ieee.{Float, binary64, add, sub, neg}
use lib.Ieee.Scale.{finite, overflow}
use Rattle.rounding.proofs.NumberOrders.{lt-or-ge, clash}
use Rattle.rounding.proofs.Sums.{sum-size}
use Rattle.rounding.proofs.Values.{neg_value, value-finite}
use Rattle.rounding_error.specs.Fraction.{Frac, plus, opp, Same}
use Rattle.rounding_error.specs.Value.{signed, val}
use Rattle.rounding_error.proofs.Same.{ring, same_refl, same-sym, same-trans, plus-same, opp-same}
use Rattle.rounding_error.proofs.Value.{val_pos, neg-val, neg-finite}
use Rattle.rounding_error.proofs.Operations.{Rounded, add-rounded}
use Rattle.near_fused.proofs.RoundTo53.{rounded, few-below, few-difference}
use Rattle.near_fused.proofs.FewDigits.{L, Units, Short, units-same, short-of, short-same, short-opp}
use Rattle.near_fused.proofs.FewDigits.{short-exact}
use Rattle.near_fused.proofs.RemainderOfFloats.{sum-units, less-first}

-- ---- s - (s - p)
abbrev neg-units : {x : Float} → Units x → Units (neg x)
neg-units {x} u =
    record {
      sign = not u.sign;
      amount = u.amount;
      few = u.few;
      under = u.under;
      value = neg_value x u.sign u.amount (2 ^ 1074) u.value;
    }

pub sub-rounded : (x y : Float) → T (finite x) → T (finite y)
    → Rounded binary64 (sub binary64 x y) (plus (val x) (opp (val y)))
unfolding sub
sub-rounded x y h k =
    subst (λ (q : Frac). Rounded binary64 (add binary64 x (neg y)) (plus (val x) q)) (neg-val y)
    (add-rounded binary64 x (neg y) h (neg-finite y k))

-- -((x - y) - x) is y, and other such identities.
back : (x y : Frac) → 0 < x.d → 0 < y.d → Same (opp (plus (plus x (opp y)) (opp x))) y
back x y X Y = record { left = mul-pos (mul-pos X Y) X; right = Y; cross = simp ring (omega arith) }

turned : (x y : Frac) → 0 < x.d → 0 < y.d → Same (opp (plus x (opp y))) (plus y (opp x))
turned x y X Y = record { left = mul-pos X Y; right = mul-pos Y X; cross = simp ring (omega arith) }

other : (x y : Frac) → 0 < x.d → 0 < y.d → Same y (plus (plus x y) (opp x))
other x y X Y = record { left = Y; right = mul-pos (mul-pos X Y) X; cross = simp ring (omega arith) }

-- The rounded sum of two sizes is smaller than both.
module _ (m a n b : ℕ) (M : m < 2 ^ 53) (N : n < 2 ^ 53) (o : m * 2 ^ a < n * 2 ^ b)
    (u : n * 2 ^ b < overflow binary64) where
  apart : (g h : Bool) (A B : ℕ) → beq g h ≡ false → A ≤ B
      → Same (signed h (B - A) L) (plus (signed g A L) (signed h B L))
  apart true true A B e l = absurd (true≢false e)
  apart false false A B e l = absurd (true≢false e)
  apart true false A B e l = gap A B L (pow_pos 1074) l
    where
      gap : (A B l : ℕ) → 0 < l → A ≤ B → Same (signed false (B - A) l) (plus (signed true A l) (signed false B l))
      gap A B l h k = let d = B - A in let e : B ≡ A + d = omega arith in rw e (step A d l h)
        where
          step : (A d l : ℕ) → 0 < l
              → Same (signed false (A + d - A) l) (plus (signed true A l) (signed false (A + d) l))
          step A d l h =
              record { left = h; right = mul-pos h h; cross = rw (add-sub_cancel_left A d) (simp ring (omega arith)) }
  apart false true A B e l = gap A B L (pow_pos 1074) l
    where
      gap : (A B l : ℕ) → 0 < l → A ≤ B → Same (signed true (B - A) l) (plus (signed false A l) (signed true B l))
      gap A B l h k = let d = B - A in let e : B ≡ A + d = omega arith in rw e (step A d l h)
        where
          step : (A d l : ℕ) → 0 < l
              → Same (signed true (A + d - A) l) (plus (signed false A l) (signed true (A + d) l))
          step A d l h =
              record { left = h; right = mul-pos h h; cross = rw (add-sub_cancel_left A d) (simp ring (omega arith)) }

  exact-small : (g h : Bool) → rounded (sum-size g (m * 2 ^ a) h (n * 2 ^ b)) < m * 2 ^ a
      → Short (plus (signed g (m * 2 ^ a) L) (signed h (n * 2 ^ b) L))
  exact-small g h k = go (beq g h) refl (ltb (m * 2 ^ a) (n * 2 ^ b)) (lt-ltb (m * 2 ^ a) (n * 2 ^ b) o) k
    where
      go : (x : Bool) → beq g h ≡ x → (y : Bool) → y ≡ true
          → rounded (cond x (m * 2 ^ a + n * 2 ^ b) (cond y (n * 2 ^ b - m * 2 ^ a) (m * 2 ^ a - n * 2 ^ b)))
          < m * 2 ^ a
          → Short (plus (signed g (m * 2 ^ a) L) (signed h (n * 2 ^ b) L))
      go true e y t k =
          absurd (clash (rounded (m * 2 ^ a + n * 2 ^ b)) (m * 2 ^ a) k
          (few-below m a (m * 2 ^ a + n * 2 ^ b) M (le-add_right (m * 2 ^ a) (n * 2 ^ b))))
      go false e false t k = absurd (false≢true t)
      go false e true t k = elim (lt-or-ge (n * 2 ^ b - m * 2 ^ a) (m * 2 ^ a)) [
        | inl
            l ↦ record {
              sign = h;
              amount = n * 2 ^ b - m * 2 ^ a;
              few = few-difference m a n b M N l (le_of_lt o);
              under = lt_of_le_of_lt (sub-le (n * 2 ^ b) (m * 2 ^ a)) u;
              same = apart g h (m * 2 ^ a) (n * 2 ^ b) e (le_of_lt o);
            }
        | inr q ↦ absurd (clash (rounded (n * 2 ^ b - m * 2 ^ a)) (m * 2 ^ a) k
            (few-below m a (n * 2 ^ b - m * 2 ^ a) M q))
      ]

module _ (p c : Float) (P : Units p) (C : Units c) (real : T (finite (add binary64 p c))) where
  abbrev s : Float
  s = add binary64 p c

  abbrev U : Units s
  U = sum-units p c P C real

  small-sum : U.amount < P.amount → P.amount < C.amount → Short (plus (val p) (val c))
  small-sum h o =
      let (m, a, ea, M) = P.few in
      let (n, b, eb, N) = C.few in
      short-same (plus-same (units-same P) (units-same C)) (go m a n b ea eb M N h o C.under)
    where
      go : (m a n b : ℕ) → P.amount ≡ m * 2 ^ a → C.amount ≡ n * 2 ^ b → m < 2 ^ 53 → n < 2 ^ 53
          → rounded (sum-size P.sign P.amount C.sign C.amount) < P.amount → P.amount < C.amount
          → C.amount < overflow binary64
          → Short (plus (signed P.sign P.amount L) (signed C.sign C.amount L))
      go m a n b ea eb M N h o u =
          rw (ea, eb) (exact-small m a n b M N (rw (ea, eb) at o) (rw eb at u) P.sign C.sign (rw (ea, eb) at h))

  -- If s is smaller than p, then s - p has no more digits than an f64.
  small-rest : U.amount < P.amount → Short (plus (val s) (opp (val p)))
  small-rest h = elim (lt-or-ge P.amount C.amount) [
    | inl o ↦
        let e =
        short-exact (small-sum h o)
        (add-rounded binary64 p c (value-finite p P.sign P.amount L P.value)
        (value-finite c C.sign C.amount L C.value)) in
        short-same
        (same-trans (other (val p) (val c) (val_pos p) (val_pos c))
        (plus-same (same-sym e.same) (same_refl (mirror p)))) (short-of C)
    | inr g ↦ less-first p c P C real g
  ]
    where
      mirror : (x : Float) → 0 < (opp (val x)).d
      mirror x = val_pos x

  pub two-sum : T (finite (sub binary64 s p)) → Short (plus (val s) (opp (val (sub binary64 s p))))
  unfolding sub
  two-sum f = elim (lt-or-ge U.amount P.amount) [
    | inl h ↦
        let z = sub binary64 s p in
        let e = short-exact (small-rest h) (sub-rounded s p real (value-finite p P.sign P.amount L P.value)) in
        short-same
        (same-trans (same-sym (back (val s) (val p) (val_pos s) (val_pos p)))
        (same-trans (turned (plus (val s) (opp (val p))) (val s) (mul-pos (val_pos s) (val_pos p)) (val_pos s))
        (plus-same (same_refl (val_pos s)) (opp-same (same-sym e.same))))) (short-of P)
    | inr g ↦ short-same (turned (val (sub binary64 s p)) (val s) (val_pos (sub binary64 s p)) (val_pos s))
        (short-opp (less-first s (neg p) U (neg-units P) f g))
  ]
