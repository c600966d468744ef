-- The refusal, from the ring's length as the code has it: it is 0 where a setting is out of range, and then its test
-- does not count. Assumes nothing.
use mathlib.Core.Path.{◌≡◌, refl}
use mathlib.Core.Bool.{Bool, true, false, not, cond, ◌&&◌}
use Prim.Native.Nat.{ℕ, ◌*◌}
use native.Mathlib.Omega.{arith}
use borrow.Author.Tests.{ne_eqb}
use lib.Dec.{eqb, ltb}
use lib.Ieee.{Float, le}
use lib.Ieee.Scale.{finite}
use Rattle.constants.specs.Numbers.{zero-f}
use Rattle.answer.specs.Refusals.{lowest_of}
use Rattle.ring.proofs.Lengths.{some}
use Rattle.kernels.specs.declared.Kernel.{Kernel}
use Rattle.kernels.specs.Kernels.{own_ok, kernel_verdict}
use Rattle.kernels.proofs.Told.{own-told, lent-told}
use Rattle.oversampled_refusals.specs.Outer.{outer_limit, outer_limit-f, state_ok, verdict}
use Rattle.oversampled_refusals.proofs.Tests.{settled}
use Rattle.oversampled_delay.proofs.InnerLength.{inner_length}
use Rattle.oversampled_delay.proofs.Tests.{parted}
use Rattle.cascaded_delay.specs.Reader.{ring_ok, held_ok, needed_by, lent_ok, outer_of, due_of}
use Rattle.cascaded_delay.specs.Opening.{renew_due}
use Rattle.cascaded_delay.specs.declared.CascadedOversampledVariableDelay4x.{CascadedOversampledVariableDelay4x}
use Rattle.cascaded_delay.specs.declared.Lengths.{Lengths}

module _ (d : CascadedOversampledVariableDelay4x) {needed : ℕ}
    (long : needed ≡ inner_length 4 d.maximum d.margin) where
  needed-some : not (eqb needed 0) ≡ ring_ok d
  needed-some = rw long (go (ring_ok d))
    where
      go : (s : Bool) → not (eqb (cond s (needed_by d) 0) 0) ≡ s
      go true = rw (ne_eqb (needed_by d) 0 (λ z. omega (arith, some (4 * d.maximum) d.margin)))
      go false = refl

  needed-is : ring_ok d ≡ true → needed ≡ needed_by d
  needed-is s = rw (long, s)

-- The refusal of a call.
pub due-is : (k : Kernel) (d : CascadedOversampledVariableDelay4x) (n : Lengths) (x y : Float) {needed no : ℕ}
    → needed ≡ inner_length 4 d.maximum d.margin → no ≡ kernel_verdict k n.table
    → verdict (not (eqb needed 0) && not (eqb no 1))
    (eqb n.halfband 65 && eqb n.last 129
    && held_ok needed n.up1 n.up2 n.down2 n.down1 n.ring && not (eqb no 2)) 4 (outer_of d) x y
    ≡ due_of k d n x y
due-is k d n x y {needed} {no} long told =
    settled
    (λ (a b : Bool). lowest_of a b (state_ok 4 (outer_of d)) (finite x) (finite y && le zero-f y)
    (le y outer_limit-f) true (ltb d.accepted outer_limit))
    (λ a b. refl) true (ring_ok d && own_ok k) (lent_ok k d n) (not (eqb needed 0) && not (eqb no 1))
    (eqb n.halfband 65 && eqb n.last 129
    && held_ok needed n.up1 n.up2 n.down2 n.down1 n.ring && not (eqb no 2))
    (λ f. rw (needed-some d long, own-told k n.table told))
    (λ f own. let p = parted (ring_ok d) (own_ok k) own in
    rw (needed-is d long p.0, lent-told k n.table told p.1))

-- The refusal of a reset or an opening; c is the test of what else is lent.
pub renew-is : (c : Bool) (d : CascadedOversampledVariableDelay4x) (up1 up2 down2 down1 ring : ℕ) {needed : ℕ}
    → needed ≡ inner_length 4 d.maximum d.margin
    → lowest_of (not (eqb needed 0)) (c && held_ok needed up1 up2 down2 down1 ring) (state_ok 4 (outer_of d)) true true
    true
    true true
    ≡ renew_due d (c && held_ok (needed_by d) up1 up2 down2 down1 ring)
renew-is c d up1 up2 down2 down1 ring {needed} long =
    settled
    (λ (a b : Bool). lowest_of a b (state_ok 4 (outer_of d)) true true true true true)
    (λ a b. refl) true (ring_ok d) (c && held_ok (needed_by d) up1 up2 down2 down1 ring) (not (eqb needed 0))
    (c && held_ok needed up1 up2 down2 down1 ring)
    (λ f. needed-some d long)
    (λ f own. rw (needed-is d long own))
