-- A power of two is not large, whatever its argument. Horner's rule in a y of at most 2 gives at most 1 + 2 * (1 + 2 *
-- ..), and a refusal counts as 0. This crude bound is enough to show that no phase grows without limit. Assumes
-- nothing.
use Rattle.std.specs.Prelude.{Ok, Err}
use Rattle.refusal.specs.declared.Refusal.TheVariants.{Setting}
use mathlib.Core.Path.{sym}
use mathlib.Core.Bool.{Bool, true, false, cond}
use Prim.Native.Nat.{ℕ, zero, suc, ◌+◌, ◌*◌, ◌^◌, ◌≤◌, ◌<◌}
use native.Mathlib.Nat.{mul-pos, one-mul, zero-lt-suc, le_trans, le_of_eq}
use native.Mathlib.Omega.{arith}
use lib.Count.{count_trailing_zeros}
use lib.Dec.{T, leb→le, lit<, lit≤}
use lib.Ieee.{Float, nan, inf, fin, binary64, up, down, odd, add, sub, mul, lt, neg, of_fields, of_bits}
use Rattle.magnitude.specs.Bounds.{AtMost}
use Rattle.magnitude.proofs.OrderAndBounds.{at-most-mono}
use Rattle.magnitude.proofs.Rounded.{round-at-most}
use Rattle.magnitude.proofs.Operations.{add-at-most, sub-at-most, mul-at-most}
use Rattle.polynomials.specs.Taylor.{factorial}
use Rattle.polynomials.specs.Horner.{reciprocal, horner, ln2, power_near}
use Rattle.elementary.specs.Answers as answers
use Rattle.polynomials.specs.Range.{at_most}
use Rattle.elementary.specs.Answers.{power_at, exp2_of}
use Rattle.oscillator_arithmetic.specs.Arithmetic.{value_of, pow2}

factorial-some : (n : ℕ) → 0 < factorial n
unfolding factorial
factorial-some zero = lit< tt
factorial-some (suc n) = mul-pos (zero-lt-suc n) (factorial-some n)

reciprocal-at-most : (n : ℕ) → AtMost 1 (reciprocal n)
unfolding reciprocal
reciprocal-at-most n =
    round-at-most binary64 1 _ 1 (factorial n) (lit≤ tt) (factorial-some n)
    (le_trans (factorial-some n) (le_of_eq (sym (one-mul (factorial n)))))

reach : ℕ → ℕ
reach zero = 1
reach (suc k) = 1 + 2 * reach k

horner-at-most : (y : Float) → AtMost 2 y → (n k : ℕ) → reach k ≤ 2 ^ 53 → AtMost (reach k) (horner 1 y n k)
unfolding horner reach
horner-at-most y h n zero l = reciprocal-at-most n
horner-at-most y h n (suc k) l =
    add-at-most binary64 1 (2 * reach k) (reciprocal n) (mul binary64 y (horner 1 y (1 + n) k)) l (reciprocal-at-most n)
    (mul-at-most binary64 2 (reach k) y (horner 1 y (1 + n) k) (omega arith) h
    (horner-at-most y h (1 + n) k (omega arith)))

near-at-most : (x : Float) → AtMost 2 x → AtMost 16383 (power_near x)
unfolding power_near reach
near-at-most x h =
    horner-at-most (mul binary64 ln2 x) (mul-at-most binary64 1 2 ln2 x (lit≤ tt) (lit≤ tt) h) 0 13 (lit≤ tt)

power-at-most : (x : Float) → AtMost 1 x → AtMost (2 ^ 15) (power_at x)
unfolding power_at
power-at-most x h = go (lt answers.half x) (lt x (neg answers.half))
  where
    doubled : (p z : Float) (b : ℕ) → AtMost b p → b ≤ 2 → AtMost 2 z → AtMost (2 ^ 15) (mul binary64 p (power_near z))
    doubled p z b k l q =
        at-most-mono (mul binary64 p (power_near z)) (omega arith)
        (mul-at-most binary64 b 16383 p (power_near z) (omega arith) k (near-at-most z q))

    go : (s t : Bool)
        → AtMost (2 ^ 15)
        (cond s (mul binary64 answers.two (power_near (sub binary64 x answers.one)))
        (cond t (mul binary64 answers.half (power_near (add binary64 x answers.one))) (power_near x)))
    go true t =
        doubled answers.two (sub binary64 x answers.one) 2 (lit≤ tt) (lit≤ tt)
        (sub-at-most binary64 1 1 x answers.one (lit≤ tt) h (lit≤ tt))
    go false true =
        doubled answers.half (add binary64 x answers.one) 1 (lit≤ tt) (lit≤ tt)
        (add-at-most binary64 1 1 x answers.one (lit≤ tt) h (lit≤ tt))
    go false false = at-most-mono (power_near x) (lit≤ tt) (near-at-most x (at-most-mono x (lit≤ tt) h))

small : (x : Float) → T (at_most 1 x) → AtMost 1 x
small nan h = h
small (inf s) h = h
small (fin s m e) h = leb→le (m * up e) (1 * down e) h

pub pow2-at-most : (x : Float) → AtMost (2 ^ 15) (pow2 x)
unfolding pow2 exp2_of count_trailing_zeros odd of_fields of_bits
pow2-at-most x = go (at_most 1 x) (small x)
  where
    go : (b : Bool) → (T b → AtMost 1 x) → AtMost (2 ^ 15) (value_of (cond b (Ok (power_at x)) (Err Setting)))
    go true f = power-at-most x (f tt)
    go false f = lit≤ tt
