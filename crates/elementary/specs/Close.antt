-- E1, E2, E4. How near the answers are to Taylor's fractions. `Rounds g e v f` says that v is finite and |v - f| ≤ e /
-- g. Definitions only.
use Rattle.std.specs.Prelude.{◌≡◌, not, ℕ, zero, suc, ◌+◌, ◌-◌, ◌*◌, ◌%◌, ◌^◌, T, Float, Result, Ok}
use Rattle.refusal.specs.declared.Refusal.{Refusal}
use Rattle.std.specs.Float.Ieee.{neg, lt}
use Rattle.std.specs.Float.Ieee.Scale.{finite}
use Rattle.rounding_error.specs.Fraction.{Frac, frac, plus, times, opp, Within}
use Rattle.rounding_error.specs.Value.{val, Is, Rounds}
use Rattle.polynomials.specs.Taylor.{sine_fraction, cosine_fraction, exp_fraction}
use Rattle.polynomials.specs.Horner.{ln2}
use Rattle.elementary.specs.Reduction.{turns, fourth, remainder, reduced}
use Rattle.polynomials.specs.Range.{at_most}
use Rattle.elementary.specs.Answers.{half}

-- The same choice as `pick` makes, among the exact fractions.
abbrev pub pick_fraction : ℕ → Frac → Frac
pick_fraction zero r = sine_fraction r
pick_fraction (suc zero) r = cosine_fraction r
pick_fraction (suc (suc zero)) r = opp (sine_fraction r)
pick_fraction (suc (suc (suc q))) r = opp (cosine_fraction r)

-- Beyond 1 the rest x - k * H is exact and at most 1 in size, and v is within 2 ^ -45 of its fraction.
pub record Far (x : Float) (q : ℕ) (v : Float) : Type 0 where
  pub exact : Is (reduced x) (remainder x)
  pub small : T (at_most 1 (reduced x))
  pub close : Rounds (2 ^ 45) 1 v (pick_fraction q (remainder x))

-- Up to 1 in size the sine v is within 2 ^ -45 * |x| of its fraction.
pub record SineClose (x v : Float) : Type 0 where
  pub near : T (at_most 1 x) → Rounds ((val x).d * 2 ^ 45) ((val x).p + (val x).n) v (sine_fraction (val x))
  pub far : T (not (at_most 1 x)) → Far x (fourth (turns x)) v

pub record CosineClose (x v : Float) : Type 0 where
  pub near : T (at_most 1 x) → Rounds (2 ^ 45) 1 v (cosine_fraction (val x))
  pub far : T (not (at_most 1 x)) → Far x ((fourth (turns x) + 1) % 4) v

-- v is finite and |v - f| ≤ f / 2 ^ 45.
pub record Part (v : Float) (f : Frac) : Type 0 where
  pub real : T (finite v)
  pub near : Within (f.d * 2 ^ 45) (f.p - f.n) (val v) f

-- The exponential fraction at ln2 * x.
abbrev pub power_fraction : Frac → Frac
power_fraction x = exp_fraction (times (val ln2) x)

-- How near the power of two is: if x is beyond 1/2 in size it is moved by 1 towards zero, and the fraction is doubled
-- or halved.
pub record PowerClose (x v : Float) : Type 0 where
  pub middle : T (not (lt half x)) → T (not (lt x (neg half))) → Part v (power_fraction (val x))
  pub above : T (lt half x) → Part v (times (frac 2 0 1) (power_fraction (plus (val x) (frac 0 1 1))))
  pub below : T (lt x (neg half)) → Part v (times (frac 1 0 2) (power_fraction (plus (val x) (frac 1 0 1))))

-- If the answer r has a value, P holds for it.
pub record Each (r : Result Float Refusal) (P : Float → Type 0) : Type 0 where
  pub each : (v : Float) → r ≡ Ok v → P v
