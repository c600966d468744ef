-- How many sets a bank has, by two tests: if the quotient lies above n - 1 and is at most n, its ceiling is n. Assumes
-- nothing.
use mathlib.Core.Path.{◌≡◌, sym, ◌∙◌, ap}
use mathlib.Core.Bool.{true, false, true≢false, false≢true}
use Prim.Native.Nat.{ℕ, suc, ◌+◌, ◌-◌, ◌*◌, ◌/◌, ◌^◌, ◌<◌, ◌≤◌, max}
use native.Mathlib.Nat.{add-mul, suc-mul}
use native.Mathlib.Nat.{max-eq_right, div-eq_of_lt-le}
use native.Mathlib.Omega.{arith}
use lib.IntN.{ℤ, pos}
use lib.Ieee.{Float, nan, inf, fin, binary64, up, down, lt}
use lib.Ieee.Fits.{down_pos}
use lib.Ieee.Exact.{HasValue}
use Rattle.magnitude.specs.Bounds.{AtMost}
use Rattle.magnitude.proofs.WholeFloats.{whole-value}
use Rattle.bank_choice.specs.Rates.{num, ceiling_of}
use Rattle.bank_choice.proofs.Ceilings.{less, not-less}

-- A number below zero does not lie above a whole number.
not-below : (y : Float) (q m : ℕ) (e : ℤ) → HasValue y false q 1 → lt y (fin true m e) ≡ true → ⊥
unfolding lt
not-below nan q m e v h = v
not-below (inf s) q m e v h = v
not-below (fin true n d) q m e v h = true≢false v.0
not-below (fin false n d) q m e v h = false≢true h

ceiling : (a d k : ℕ) → 0 < d → k * d < a → a ≤ suc k * d → (a + (d - 1)) / d ≡ suc k
ceiling a d k p g l =
    div-eq_of_lt-le d (rw suc-mul (omega arith)) (rw (add-mul (suc k) 1 d, suc-mul) (omega (arith, rw suc-mul at l)))

value : (k : ℕ) → k ≤ 2 ^ 53 → HasValue (num k) false k 1
value k h = whole-value binary64 (pos k) h

ceiling-is : (x : Float) (k : ℕ) → AtMost 50 x → k < 2 ^ 44 → lt (num k) x ≡ true → lt (num (suc k)) x ≡ false
    → suc k ≡ max 1 (ceiling_of x)
unfolding ceiling_of
ceiling-is nan k a r h l = absurd a
ceiling-is (inf s) k a r h l = absurd a
ceiling-is (fin true m e) k a r h l = absurd (not-below (num k) k m e (value k (omega arith)) h)
ceiling-is (fin false m e) k a r h l =
    let g = less (num k) k m e (value k (omega arith)) h in
    let n = not-less (num (suc k)) (suc k) m e (value (suc k) (omega arith)) l in
    let o : 1 ≤ suc k = omega arith in
    rw (ceiling (m * up e) (down e) k (down_pos e) g n) (sym (max-eq_right o))

pub counted : (x : Float) (k n : ℕ) → n ≡ suc k → AtMost 50 x → n < 2 ^ 44 → lt (num k) x ≡ true → lt (num n) x ≡ false
    → n ≡ max 1 (ceiling_of x)
counted x k n e a r h l = e ∙ ceiling-is x k a (omega arith) h (ap (λ (z : ℕ). lt (num z) x) (sym e) ∙ l)
