-- `bessel::series` meets its contract: the loop's sum, with what is still to be added, is the whole series. Assumes
-- nothing.
use mathlib.Core.Path.{◌≡◌, refl}
use mathlib.Core.Bool.{Bool, true, false, cond}
use Prim.Native.Nat.{ℕ, suc, ◌+◌, ◌-◌, ◌^◌, ◌<◌}
use native.Mathlib.Nat.{sub-zero}
use native.Mathlib.Numerals.{add-one}
use native.Mathlib.Omega.{arith}
use lib.Ieee.{Float, binary64, round, add, mul, lt, of_bits}
use Rattle.bessel.specs.Series.{term_of, sum_after, series_of}
use Rattle.bessel.proofs.series.Goals as goal

tiny : of_bits binary64 0x3c9c_d2b2_97d8_89bc ≡ round binary64 false 1 (10 ^ 16)
unfolding of_bits round
tiny = refl

-- One turn adds the next term; then the test decides whether the series ends or goes on.
turn : (n k : ℕ) (y sum term : Float) {r : Float} (b : Bool) → k < n → sum_after (n - k) k y sum term ≡ r
    → let next = term_of y (k + 1) term in let more = add binary64 sum next in
    lt next (mul binary64 more (of_bits binary64 0x3c9c_d2b2_97d8_89bc)) ≡ b
    → cond b more (sum_after (n - (k + 1)) (k + 1) y more next) ≡ r
unfolding sum_after
turn n k y sum term b l h t =
    let e : n - k ≡ suc (n - (k + 1)) = omega arith in rw (← t, tiny, add-one k) (rw (e, add-one k) at h)

last : (n k : ℕ) (y sum term r : Float) → k ≡ n → sum_after (n - k) k y sum term ≡ r → sum ≡ r
unfolding sum_after
last n k y sum term r e h = let z : n - k ≡ 0 = omega arith in rw z at h

pub loop-k-init : goal.loop-k-init
unfolding series_of of_bits
loop-k-init c = (omega arith, simp sub-zero)

pub int_to_float-n : goal.int_to_float-n
int_to_float-n c = tt

pub loop-k-smaller : goal.loop-k-smaller
loop-k-smaller c = omega arith

pub loop-k-preserved : goal.loop-k-preserved
loop-k-preserved c = (
  omega arith,
  turn c.args.terms c.loop-k.k _ c.loop-k.sum c.loop-k.term false (omega arith) c.loop-k.invariant.1
      c.if-term-sum.false,
)

pub returns-then-k-terms : goal.returns-then-k-terms
returns-then-k-terms c = last _ _ _ _ c.loop-k.term _ c.if-k-terms.true c.loop-k.invariant.1

pub returns-then-term-sum : goal.returns-then-term-sum
returns-then-term-sum c =
    turn c.args.terms c.loop-k.k _ c.loop-k.sum c.loop-k.term true (omega arith) c.loop-k.invariant.1
    c.if-term-sum.true
