-- How many numbers below 0 a run has that starts `back` before a number, and from where it goes on, for a number that
-- the code holds as a word. Assumes nothing.
use mathlib.Core.Path.{◌≡◌, refl, ap}
use mathlib.Core.Bool.{true, false}
use Prim.Native.Nat.{ℕ, zero, suc, ◌+◌, ◌-◌, ◌≤◌, ◌<◌, ◌^◌}
use native.Mathlib.Omega.{arith}
use borrow.Author.Tests.{ltb-true, lt-ltb, le-ltb}
use lib.Dec.{T}
use lib.IntN.{ℤ, pos, negsuc, nat_abs, ◌-ℤ◌}
use lib.Signed.{lt_z, non_neg}
use mir.Syntax.{w64}
use mir.Val.{Fits, SFits, to_z, of_z}
use mir.ValLaws.{to_z-of_z}
use Rattle.absent_taps.specs.declared.counting.Start.{Start}
use Rattle.absent_taps.specs.Inner.{start_of}

-- An integer as the code holds it.
abbrev word : ℤ → ℤ
word z = to_z w64 (of_z w64 z)

abbrev start : ℕ → ℕ → Start
start low from = record { low = low; from = from }

-- A number below 0.
pub record Below (i : ℤ) : Type 0 where
  pub j : ℕ
  pub is : i ≡ negsuc j
  pub small : j < 2 ^ 63
  pub held : negsuc 0 -ℤ word i ≡ pos j

pub below_of : (i : ℤ) → SFits w64 i → lt_z (word i) (pos 0) ≡ true → Below i
below_of i f h = go i f (rw (to_z-of_z w64 i f) at h)
  where
    go : (i : ℤ) → SFits w64 i → lt_z i (pos 0) ≡ true → Below i
    go (pos k) f h = let l : k < 0 = ltb-true k 0 h in absurd (omega arith)
    go (negsuc k) f h =
        record {
          j = k;
          is = refl;
          small = f.sfits;
          held = rw (to_z-of_z w64 (negsuc k) f, le-ltb (suc k) 1 (omega arith)) (ap pos (omega arith));
        }

module _ {i : ℤ} (b : Below i) where
  pub minus-fits : SFits w64 (negsuc 0 -ℤ word i)
  minus-fits = rw b.held (record { sfits = b.small })

  pub minus_is : word (negsuc 0 -ℤ word i) ≡ pos b.j
  minus_is = rw b.held (to_z-of_z w64 (pos b.j) (record { sfits = b.small }))

  pub cast_fits : T (non_neg (word (negsuc 0 -ℤ word i))) × Fits w64 (nat_abs (word (negsuc 0 -ℤ word i)))
  cast_fits = rw minus_is (tt, record { fits = omega (arith, b.small) })

  pub one_more : Fits w64 (nat_abs (word (negsuc 0 -ℤ word i)) + 1)
  one_more = rw minus_is (record { fits = omega (arith, b.small) })

  pub all_more : (back : ℕ) → back < 2 ^ 63 → Fits w64 (nat_abs (word (negsuc 0 -ℤ word i)) + 1 + back)
  all_more back h = rw minus_is (record { fits = omega (arith, b.small, h) })

  pub from-below : (back : ℕ) → start (nat_abs (word (negsuc 0 -ℤ word i)) + 1 + back) 0 ≡ start_of (i -ℤ pos back)
  from-below back = rw (minus_is, b.is) (go back)
    where
      go : (back : ℕ) → start (b.j + 1 + back) 0 ≡ start_of (negsuc b.j -ℤ pos back)
      go zero = rw (lt-ltb 0 (suc b.j) (omega arith)) (ap (λ (n : ℕ). start n 0) (omega arith))
      go (suc m) = ap (λ (n : ℕ). start n 0) (omega arith)

-- The code's test for a negative number cannot fail for one.
not_negative : (k : ℕ) → lt_z (negsuc k) (pos 0) ≡ false → ⊥
not_negative k h = let e : ◌≡◌ {A = ℕ} 0 1 = cc in omega arith

pub across-zero : (z : ℤ) {i : ℤ} (back : ℕ) → z ≡ i → lt_z z (pos 0) ≡ false → nat_abs z < back
    → start (back - nat_abs z) 0 ≡ start_of (i -ℤ pos back)
across-zero (negsuc k) back e h l = absurd (not_negative k h)
across-zero (pos k) zero e h l = absurd (omega arith)
across-zero (pos k) (suc m) e h l = rw (← e, lt-ltb k (suc m) l) (ap (λ (n : ℕ). start n 0) (omega arith))

pub from_zero : (z : ℤ) {i : ℤ} (back : ℕ) → z ≡ i → lt_z z (pos 0) ≡ false → back ≤ nat_abs z
    → start 0 (nat_abs z - back) ≡ start_of (i -ℤ pos back)
from_zero (negsuc k) back e h l = absurd (not_negative k h)
from_zero (pos k) zero e h l = rw (← e) (ap (λ (n : ℕ). start 0 n) (omega arith))
from_zero (pos k) (suc m) e h l = rw (← e, le-ltb k (suc m) l)
