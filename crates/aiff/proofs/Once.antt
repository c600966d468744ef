-- A number that stands on only one line of a table of refusals is given exactly if that line is the first that fails.
-- This is for a table whose numbers are not counted up. By induction over the lines. Assumes nothing.
use mathlib.Core.Path.{◌≡◌, refl, ◌∙◌}
use mathlib.Core.Logic.{◌↔◌}
use mathlib.Core.Bool.{Bool, true, false, true≢false, not, ◌&&◌}
use mathlib.Core.List.{List, [], ◌∷◌}
use Prim.Native.Nat.{ℕ, zero, suc}
use native.Mathlib.Omega.{arith}
use borrow.Author.Tests.{eqb-false, not-true}
use lib.Dec.{eqb}
use Rattle.refusal_order.specs.Order.{Test, ◌unless◌, first_of, test_of, number_of, line_of, First}
use Rattle.refusal_order.proofs.First.{first-given, given-first}
use Rattle.wav.proofs.Passed.{both_hold}

abbrev pub absent : ℕ → List Test → Bool
absent n [] = true
absent n ((m unless t) ∷ ts) = not (eqb m n) && absent n ts

abbrev pub only_at : ℕ → ℕ → List Test → Bool
only_at n j [] = true
only_at n zero ((m unless t) ∷ ts) = eqb m n && absent n ts
only_at n (suc j) ((m unless t) ∷ ts) = not (eqb m n) && only_at n j ts

nowhere : (n : ℕ) (ts : List Test) → absent n ts ≡ true → (k : ℕ) → test_of (line_of ts k) ≡ false
    → number_of (line_of ts k) ≡ n → ⊥
nowhere n [] a k f e = true≢false f
nowhere n ((m unless t) ∷ ts) a zero f e =
    eqb-false m n (not-true _ (both_hold (not (eqb m n)) (absent n ts) a).0) e
nowhere n ((m unless t) ∷ ts) a (suc k) f e = nowhere n ts (both_hold (not (eqb m n)) (absent n ts) a).1 k f e

there : (n j : ℕ) (ts : List Test) → only_at n j ts ≡ true → (k : ℕ) → test_of (line_of ts k) ≡ false
    → number_of (line_of ts k) ≡ n → k ≡ j
there n j [] a k f e = absurd (true≢false f)
there n zero ((m unless t) ∷ ts) a zero f e = refl
there n zero ((m unless t) ∷ ts) a (suc k) f e =
    absurd (nowhere n ts (both_hold (eqb m n) (absent n ts) a).1 k f e)
there n (suc j) ((m unless t) ∷ ts) a zero f e =
    absurd (eqb-false m n (not-true _ (both_hold (not (eqb m n)) (only_at n j ts) a).0) e)
there n (suc j) ((m unless t) ∷ ts) a (suc k) f e =
    let s = there n j ts (both_hold (not (eqb m n)) (only_at n j ts) a).1 k f e in omega arith

pub once : (ts : List Test) (n j : ℕ) → number_of (line_of ts j) ≡ suc n → only_at (suc n) j ts ≡ true
    → first_of ts ≡ suc n ↔ First ts j
once ts n j i o = (given, λ w. first-given ts j w ∙ i)
  where
    given : first_of ts ≡ suc n → First ts j
    given e =
        let w = given-first ts n e in
        rw (there (suc n) j ts o w.0 w.1.0.fails w.1.1) at w.1.0
