-- A loop as a function of its turns: no turn, one more turn, two loops one after the other, and two loops with the same
-- turns. Assumes nothing.
use mathlib.Core.Path.{◌≡◌, refl, sym, ap, ◌∙◌}
use Prim.Native.Nat.{ℕ, zero, suc, ◌+◌, ◌<◌}
use native.Mathlib.Nat.{add-zero, add-suc}
use native.Mathlib.Numerals.{add-one}
use native.Mathlib.Omega.{arith}
use lib.Ieee.{Float}
use Rattle.loop_laws.specs.Loops.{fold}

pub none : (step : ℕ → Float → Float) (a : Float) → a ≡ fold step a 0
unfolding fold
none step a = refl

pub turn : (step : ℕ → Float → Float) (a : Float) (k : ℕ) (v w : Float) → v ≡ fold step a k → w ≡ step k v
    → w ≡ fold step a (k + 1)
unfolding fold
turn step a k v w p q = q ∙ ap (step k) p ∙ ap (fold step a) (sym (add-one k))

pub split : (step : ℕ → Float → Float) (a : Float) (m n : ℕ)
    → fold (λ (k : ℕ). step (m + k)) (fold step a m) n ≡ fold step a (m + n)
unfolding fold
split step a m zero = ap (fold step a) (sym (add-zero m))
split step a m (suc n) = ap (step (m + n)) (split step a m n) ∙ ap (fold step a) (sym (add-suc m n))

pub same : (f g : ℕ → Float → Float) (a : Float) (n : ℕ) → ((k : ℕ) → k < n → (v : Float) → f k v ≡ g k v)
    → fold f a n ≡ fold g a n
unfolding fold
same f g a zero h = refl
same f g a (suc n) h = ap (f n) (same f g a n (λ k l. h k (omega arith))) ∙ h n (omega arith) (fold g a n)
