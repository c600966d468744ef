-- The refusal, from the lengths as the code has them: each is 0 where a setting is out of range, and then its test does
-- not count. Assumes nothing.
use Rattle.std.proofs.Common.{◌≡◌, ℕ, ◌*◌, Bool, true, false, cond, not, ◌&&◌, ◌||◌, eqb, ltb, refl, arith, ne_eqb}
use mathlib.Core.Bool.{false≢true}
use lib.Ieee.{Float, le}
use lib.Ieee.Scale.{finite}
use Rattle.constants.specs.Numbers.{zero-f}
use Rattle.answer.specs.Refusals.{lowest_of}
use Rattle.ring.specs.Length.{length_for}
use Rattle.ring.specs.Length as ring
use Rattle.ring.proofs.Lengths.{some}
use Rattle.filter_settings.specs.Ranges.{factor_ok, taps_ok}
use Rattle.filter_settings.specs.Lengths.{history_for}
use Rattle.kernels.specs.declared.Kernel.{Kernel}
use Rattle.kernels.specs.Kernels.{own_ok, kernel_verdict}
use Rattle.kernels.proofs.Told.{own-told, lent-told}
use Rattle.oversampled_refusals.specs.Outer.{outer_limit, outer_limit-f, state_ok, verdict, reset_verdict}
use Rattle.oversampled_refusals.proofs.Tests.{settled}
use Rattle.oversampled_delay.specs.Reader.{settings_ok, held_ok, lent_ok, outer_of, due_of}
use Rattle.oversampled_delay.specs.declared.OversampledVariableDelay.{OversampledVariableDelay}
use Rattle.oversampled_delay.specs.declared.Lengths.{Lengths}
use Rattle.oversampled_delay.proofs.InnerLength.{inner_length}

pub parted : (a b : Bool) → a && b ≡ true → (a ≡ true) × (b ≡ true)
parted true b h = (refl, h)
parted false b h = absurd (false≢true h)

or-true : (a : Bool) → a || true ≡ true
or-true true = refl
or-true false = refl

module _ (d : OversampledVariableDelay) {needed history : ℕ}
    (long : needed ≡ inner_length d.factor d.maximum d.margin)
    (held : history ≡ history_for d.taps d.factor) (f : factor_ok d.factor ≡ true) where
  needed-some : not (eqb needed 0) ≡ ring.settings_ok (d.factor * d.maximum) d.margin
  needed-some = rw (long, f) (go (ring.settings_ok (d.factor * d.maximum) d.margin))
    where
      go : (s : Bool) → not (eqb (cond s (length_for (d.factor * d.maximum) d.margin) 0) 0) ≡ s
      go true =
          rw (ne_eqb (length_for (d.factor * d.maximum) d.margin) 0
          (λ z. omega (arith, some (d.factor * d.maximum) d.margin)))
      go false = refl

  settings-is : taps_ok d.taps && not (eqb needed 0) ≡ settings_ok d
  settings-is = rw needed-some

  held-is : settings_ok d ≡ true → (up down inner : ℕ)
      → eqb up history && eqb down d.taps && eqb inner needed ≡ held_ok d up down inner
  held-is s up down inner =
      let p = parted (taps_ok d.taps) (ring.settings_ok (d.factor * d.maximum) d.margin) s in
      rw (long, held, f, p.0, p.1, or-true (eqb d.factor 1))

-- The refusal of a call.
pub due-is : (k : Kernel) (d : OversampledVariableDelay) (n : Lengths) (x y : Float) {needed history no : ℕ}
    → needed ≡ inner_length d.factor d.maximum d.margin → history ≡ history_for d.taps d.factor
    → no ≡ kernel_verdict k n.table
    → verdict (taps_ok d.taps && not (eqb needed 0) && not (eqb no 1))
    (eqb n.coefficients d.taps && (eqb n.up history && eqb n.down d.taps && eqb n.ring needed)
    && not (eqb no 2)) d.factor (outer_of d) x y
    ≡ due_of k d n x y
due-is k d n x y {needed} {history} {no} long held told =
    settled
    (λ (a b : Bool). lowest_of a b (state_ok d.factor (outer_of d)) (finite x) (finite y && le zero-f y)
    (le y outer_limit-f) true (ltb d.accepted outer_limit))
    (λ a b. refl) (factor_ok d.factor) (settings_ok d && own_ok k) (lent_ok k d n)
    (taps_ok d.taps && not (eqb needed 0) && not (eqb no 1))
    (eqb n.coefficients d.taps && (eqb n.up history && eqb n.down d.taps && eqb n.ring needed)
    && not (eqb no 2))
    (λ f. rw (settings-is d long held f, own-told k n.table told))
    (λ f own. let p = parted (settings_ok d) (own_ok k) own in
    rw (held-is d long held f p.0 n.up n.down n.ring, lent-told k n.table told p.1))

-- The refusal of a reset, and of an opening with c for the coefficients' length.
pub reset-is : (c : Bool) (d : OversampledVariableDelay) (up down inner : ℕ) {needed history : ℕ}
    → needed ≡ inner_length d.factor d.maximum d.margin → history ≡ history_for d.taps d.factor
    → reset_verdict (taps_ok d.taps && not (eqb needed 0))
    (c && (eqb up history && eqb down d.taps && eqb inner needed)) d.factor (outer_of d)
    ≡ reset_verdict (settings_ok d) (c && held_ok d up down inner) d.factor (outer_of d)
reset-is c d up down inner {needed} {history} long held =
    settled
    (λ (a b : Bool). lowest_of a b (state_ok d.factor (outer_of d)) true true true true true)
    (λ a b. refl) (factor_ok d.factor) (settings_ok d) (c && held_ok d up down inner)
    (taps_ok d.taps && not (eqb needed 0)) (c && (eqb up history && eqb down d.taps && eqb inner needed))
    (λ f. settings-is d long held f)
    (λ f own. rw (held-is d long held f own up down inner))
