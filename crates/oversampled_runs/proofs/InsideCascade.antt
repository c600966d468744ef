-- W11d for the cascade: at every sample at four times the rate nothing but 4 can be due inside, as long as the inner
-- number and the ring's length are what the quarters before it leave; and they leave that. Assumes nothing.
use mathlib.Core.Path.{◌≡◌, refl, ◌∙◌}
use mathlib.Core.Bool.{Bool, true, false, ◌&&◌, cond}
use mathlib.Core.List.{List}
use mathlib.Core.Logic.{inr}
use Prim.Native.Nat.{ℕ, ◌+◌, ◌*◌, ◌≤◌, ◌<◌}
use native.Mathlib.Omega.{arith}
use lib.Dec.{T, eqb}
use lib.ListN.{length}
use lib.Ieee.{Float, binary64, mul, fits}
use lib.Ieee.Scale.{finite}
use Rattle.constants.specs.Numbers.{zero-f, two-f}
use Rattle.interval.proofs.Between.{Between, between}
use Rattle.kernels.specs.declared.Kernel.{Kernel}
use Rattle.kernels.specs.Kernels.{own_ok}
use Rattle.fir_filter.specs.Filters.{pushed, output_of}
use Rattle.variable_delay.specs.Reader.{Reading, verdict}
use Rattle.high_delay.specs.Between.{high_delay}
use Rattle.high_delay.proofs.Range.{M}
use Rattle.high_delay.proofs.Inner.{inner-range}
use Rattle.oversampled_refusals.proofs.Accepted.{Taken, taken}
use Rattle.oversampled_delay.proofs.Tests.{parted}
use Rattle.cascaded_delay.specs.Halves.{Turn, Inner, High, inner_of, high_of, quarter_of, half_of, both_of}
use Rattle.cascaded_delay.specs.Reader.{Lent, lengths_of, ring_ok, needed_by, lent_ok, outer_of, due_of, from_of}
use Rattle.cascaded_delay.specs.declared.CascadedOversampledVariableDelay4x.{CascadedOversampledVariableDelay4x}
use Rattle.oversampled_delay.proofs.Inner.{only-four, one_more, ring_long}

-- ---- what a quarter, a half and a call leave: at most 1, 2 and 4 inner samples more, and a ring of the same length
module _ (read : Reading) (d : CascadedOversampledVariableDelay4x) (halfband : List Float) (from delay : Float)
    (p q : ℕ) (up2 : List Float) (h : Inner) where
  abbrev x : Float
  x = mul binary64 (output_of halfband up2 (2 * d.accepted + p + 1) 2 q) two-f

  abbrev y : Float
  y = high_delay from delay (2 * p + q + 1) 4

  pub quarter-inner : (quarter_of read d halfband from delay p q up2 h).inner ≤ h.inner + 1
  unfolding quarter_of
  quarter-inner =
      one_more read (verdict true true (inner_of d h.inner) (length h.ring) x y) (inner_of d h.inner) h.ring x
      y

  pub quarter-ring : length (quarter_of read d halfband from delay p q up2 h).ring ≡ length h.ring
  unfolding quarter_of
  quarter-ring = ring_long (inner_of d h.inner) h.ring x y

module _ (t : Turn) (p : ℕ) (h : High) where
  abbrev up : List Float
  up =
      pushed h.up2 (2 * t.state.accepted + p)
      (mul binary64 (output_of t.halfband t.up1 (t.state.accepted + 1) 2 p) two-f)

  abbrev before : Inner
  before = high_of h.inner h.down2 h.ring

  abbrev first : Inner
  first = quarter_of t.read t.state t.halfband t.from t.delay p 0 up before

  pub half-inner : (half_of t p h).inner ≤ h.inner + 2
  unfolding half_of
  half-inner =
      let a = quarter-inner t.read t.state t.halfband t.from t.delay p 0 up before in
      let b = quarter-inner t.read t.state t.halfband t.from t.delay p 1 up first in
      omega (arith, a, b)

  pub half-ring : length (half_of t p h).ring ≡ length h.ring
  unfolding half_of
  half-ring =
      quarter-ring t.read t.state t.halfband t.from t.delay p 1 up first
      ∙ quarter-ring t.read t.state t.halfband t.from t.delay p 0 up before

pub both-inner : (t : Turn) (h : High) → (both_of t h).inner ≤ h.inner + 4
both-inner t h = omega (arith, half-inner t 0 h, half-inner t 1 (half_of t 0 h))

-- ---- what can be due at a quarter of an accepted call
module _ (k : Kernel) (d : CascadedOversampledVariableDelay4x) (l : Lent) (x y : Float)
    (none : due_of k d (lengths_of l) x y ≡ 0) where
  passed : Taken (ring_ok d && own_ok k) (lent_ok k d (lengths_of l)) 4 (outer_of d) x y
  passed = taken _ _ _ _ _ _ none

  from-range : Between zero-f M (from_of d y)
  from-range = go (eqb d.accepted 0)
    where
      go : (b : Bool) → Between zero-f M (cond b y d.previous)
      go true = between tt tt passed.delay-low passed.delay-high
      go false = between tt tt passed.previous-low passed.previous-high

  -- n is 000's phase4; before it the inner number grew by at most n. The delay before the first phase is a number of
  -- the format, as every f64 is.
  pub inside-cascade : T (fits binary64 (from_of d y)) → (n inner : ℕ) → n < 4 → inner ≤ d.inner + n
      → (xs : List Float) → length xs ≡ needed_by d → (z : Float)
      → verdict true true (inner_of d inner) (length xs) z (high_delay (from_of d y) y (n + 1) 4) ≡ cond (finite z) 0 4
  inside-cascade f n inner h g xs long z =
      only-four (inner_of d inner) (length xs) z (high_delay (from_of d y) y (n + 1) 4)
      (parted (ring_ok d) (own_ok k) passed.owned).0 long
      (omega (arith, passed.inner, passed.room))
      (inner-range 4 (inr refl) (from_of d y) y (n + 1) (omega arith) f from-range
      (between tt tt passed.delay-low passed.delay-high))
