-- A sum the other way round is the same sum, and a sum of the negatives is the negative, unless it is exactly zero.
-- Assumes nothing.
use mathlib.Core.Path.{◌≡◌, refl, sym, ap, ◌∙◌}
use mathlib.Core.Bool.{Bool, true, false, not, beq, cond, false≢true}
use Prim.Native.Nat.{ℕ, zero, suc, ◌+◌, ◌-◌, ◌*◌, ◌^◌, ◌<◌, compare, Ordering}
use native.Mathlib.Nat.{add_comm}
use native.Mathlib.Omega.{arith}
use lib.Dec.{ltb}
use lib.Ieee.{Float, nan, inf, fin, Format, units, round, sum, add, prec, low, neg, odd}
use lib.Ieee.Fits.{round_is}
use lib.Ieee.Exact.{HasValue}
use lib.Ieee.Order.{drop, kept}
use lib.Ieee.Scale.{overflow}
use borrow.Author.Tests.{lt-ltb}
use Rattle.rounding.proofs.Adding.{add-units}
use Rattle.rounding.proofs.NumberOrders.{Cmp, cmp}
use Rattle.rounding.proofs.Sums.{sum_is, sum_less, sum_level, sum_like, sum_over, sum-sign, sum-size}

-- ---- the parts exchanged
beq-swap : (s t : Bool) → beq s t ≡ beq t s
beq-swap true true = refl
beq-swap true false = refl
beq-swap false true = refl
beq-swap false false = refl

like : (s t : Bool) → beq s t ≡ true → s ≡ t
like true true e = refl
like true false e = absurd (false≢true e)
like false true e = absurd (false≢true e)
like false false e = refl

pub sum-swap : (f : Format) (s : Bool) (a : ℕ) (t : Bool) (b c : ℕ) → 0 < c → sum f s a t b c ≡ sum f t b s a c
sum-swap f s a t b c C = go (beq s t) refl (compare a b) (cmp a b)
  where
    go : (z : Bool) → beq s t ≡ z → (o : Ordering) → Cmp o a b → sum f s a t b c ≡ sum f t b s a c
    go true e o h =
        let x : s ≡ t = like s t e in
        sum_like f s t a b c x
        ∙ ap (λ (z : Bool). round f z (a + b) c) x
        ∙ ap (λ (z : ℕ). round f t z c) (add_comm a b)
        ∙ sym (sum_like f t s b a c (sym x))
    go false e Ordering.lt h = sum_over f s t a b c e h ∙ sym (sum_less f t s b a c (beq-swap t s ∙ e) h)
    go false e Ordering.eq h = sum_level f s t a b c C e h ∙ sym (sum_level f t s b a c C (beq-swap t s ∙ e) (sym h))
    go false e Ordering.gt h = sum_less f s t a b c e h ∙ sym (sum_over f t s b a c (beq-swap t s ∙ e) h)

pub add-swap : (f : Format) (x y : Float) (s t : Bool) (A B L : ℕ) → 0 < L → HasValue x s A L → HasValue y t B L
    → add f x y ≡ add f y x
add-swap f x y s t A B L P h k =
    add-units f x y s t A B L P h k ∙ sum-swap f s A t B L P ∙ sym (add-units f y x t s B A L P k h)

-- ---- the negated parts
odd-neg : (d : ℕ) (s : Bool) (q k l : ℕ) → odd d (not s) q k l ≡ neg (odd d s q k l)
unfolding odd neg
odd-neg d s zero k l = refl
odd-neg d s (suc q) k l = refl

units-neg : (f : Format) (s : Bool) (q k : ℕ) → units f (not s) q k ≡ neg (units f s q k)
unfolding units neg
units-neg f s q k = go (ltb (q * 2 ^ k) (overflow f))
  where
    go : (b : Bool)
        → cond b (odd (suc (prec f)) (not s) q k (low f)) (inf (not s))
        ≡ neg (cond b (odd (suc (prec f)) s q k (low f)) (inf s))
    go true = odd-neg (suc (prec f)) s q k (low f)
    go false = refl

pub round-neg : (f : Format) (s : Bool) (a c : ℕ) → round f (not s) a c ≡ neg (round f s a c)
round-neg f s a c =
    let n = a * 2 ^ low f in
    round_is f (not s) a c ∙ units-neg f s (kept (prec f) n c) (drop (prec f) n c) ∙ ap neg (sym (round_is f s a c))

pub neg-neg : (x : Float) → neg (neg x) ≡ x
unfolding neg
neg-neg nan = refl
neg-neg (inf true) = refl
neg-neg (inf false) = refl
neg-neg (fin true m e) = refl
neg-neg (fin false m e) = refl

sign-neg : (s t : Bool) (a b : ℕ) → 0 < sum-size s a t b → sum-sign (not s) a (not t) b ≡ not (sum-sign s a t b)
sign-neg true true a b h = refl
sign-neg false false a b h = refl
sign-neg true false a b h = go (ltb a b) h
  where
    go : (x : Bool) → 0 < cond x (b - a) (a - b) → cond x true false ≡ not (cond x false (ltb b a))
    go true h = refl
    go false h = ap not (sym (lt-ltb b a (omega arith)))
sign-neg false true a b h = go (ltb a b) h
  where
    go : (x : Bool) → 0 < cond x (b - a) (a - b) → cond x false (ltb b a) ≡ not (cond x true false)
    go true h = refl
    go false h = lt-ltb b a (omega arith)

size-neg : (s t : Bool) (a b : ℕ) → sum-size (not s) a (not t) b ≡ sum-size s a t b
size-neg true true a b = refl
size-neg true false a b = refl
size-neg false true a b = refl
size-neg false false a b = refl

pub sum-neg : (f : Format) (s : Bool) (a : ℕ) (t : Bool) (b c : ℕ) → 0 < sum-size s a t b
    → sum f (not s) a (not t) b c ≡ neg (sum f s a t b c)
sum-neg f s a t b c h =
    sum_is f (not s) a (not t) b c
    ∙ ap (λ (z : Bool). round f z (sum-size (not s) a (not t) b) c) (sign-neg s t a b h)
    ∙ ap (λ (z : ℕ). round f (not (sum-sign s a t b)) z c) (size-neg s t a b)
    ∙ round-neg f (sum-sign s a t b) (sum-size s a t b) c
    ∙ ap neg (sym (sum_is f s a t b c))
