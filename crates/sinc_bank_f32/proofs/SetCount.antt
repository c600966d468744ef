-- What the number of sets shows of the bank's rate: it is 0 exactly if the rate is out of range, and at most 50.
-- Assumes nothing.
use mathlib.Core.Path.{◌≡◌, refl, ap, ◌∙◌}
use mathlib.Core.Bool.{Bool, true, false, cond}
use Prim.Native.Nat.{ℕ, ◌*◌, ◌≤◌}
use native.Mathlib.Nat.{zero-mul}
use native.Mathlib.Omega.{arith}
use lib.Ieee.{Float}
use Rattle.bank_choice.specs.Rates.{bank_ok, steps_of, sets_of}
use Rattle.bank_choice.proofs.SetCounts.{least, most}

module _ (top : Float) (n : ℕ) (e : n ≡ sets_of top) where
  pub few : n ≤ 50
  few = go (bank_ok top) refl e
    where
      go : (b : Bool) → bank_ok top ≡ b → n ≡ cond b (steps_of top) 0 → n ≤ 50
      go true ok h = omega (arith, most top ok)
      go false ok h = omega arith

  pub none : n ≡ 0 → bank_ok top ≡ false
  none z = go (bank_ok top) refl e
    where
      go : (b : Bool) → bank_ok top ≡ b → n ≡ cond b (steps_of top) 0 → bank_ok top ≡ false
      go true ok h = absurd (omega (arith, least top))
      go false ok h = ok

  pub some : (n ≡ 0 → ⊥) → bank_ok top ≡ true
  some z = go (bank_ok top) refl e
    where
      go : (b : Bool) → bank_ok top ≡ b → n ≡ cond b (steps_of top) 0 → bank_ok top ≡ true
      go true ok h = ok
      go false ok h = absurd (z h)

pub times : (b : Bool) (n steps width : ℕ) → n ≡ cond b steps 0 → n * width ≡ cond b (steps * width) 0
times true n steps width e = ap (λ (k : ℕ). k * width) e
times false n steps width e = ap (λ (k : ℕ). k * width) e ∙ zero-mul width
