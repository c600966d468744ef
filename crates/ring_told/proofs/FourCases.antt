-- Which case a tap is, by where its index lies, for an index that the code holds as a word: one law for each return of
-- `told`, in either width. Assumes nothing.
use mathlib.Core.Path.{◌≡◌}
use mathlib.Core.Bool.{true, false}
use mathlib.Core.List.{List}
use Prim.Native.Nat.{ℕ, ◌+◌, ◌<◌, ◌≤◌}
use native.Mathlib.Omega.{arith}
use borrow.Author.Tests.{ltb-true, lt-ltb, le-ltb, le-leb, lt-leb}
use lib.IntN.{ℤ, pos, negsuc, nat_abs}
use lib.Signed.{lt_z}
use lib.ListN.{length, get_or}
use lib.Ieee.{Float, nan}
use Rattle.ring.specs.Taps.{held, unwritten, ahead, overwritten, tap_at}
use Rattle.ring.specs.Quick.{place_of}
use Rattle.ring.proofs.RunStartWays.{place-mod}

-- The code's test for a negative number cannot fail for one.
not_negative : (k : ℕ) → lt_z (negsuc k) (pos 0) ≡ false → ⊥
not_negative k h = let e : ◌≡◌ {A = ℕ} 0 1 = cc in omega arith

module _ (xs : List Float) (count : ℕ) where
  pub below-zero : (z : ℤ) {i : ℤ} → z ≡ i → lt_z z (pos 0) ≡ true → unwritten ≡ tap_at xs count i
  below-zero (negsuc k) e h = rw (← e)
  below-zero (pos k) e h = let l : k < 0 = ltb-true k 0 h in absurd (omega arith)

  pub not-there-yet : (z : ℤ) {i : ℤ} → z ≡ i → lt_z z (pos 0) ≡ false → count ≤ nat_abs z → ahead ≡ tap_at xs count i
  not-there-yet (negsuc k) e h l = absurd (not_negative k h)
  not-there-yet (pos k) e h l = rw (← e, le-ltb k count l)

  pub gone : (z : ℤ) {i : ℤ} → z ≡ i → lt_z z (pos 0) ≡ false → nat_abs z < count → nat_abs z + length xs < count
      → overwritten ≡ tap_at xs count i
  gone (negsuc k) e h l g = absurd (not_negative k h)
  gone (pos k) e h l g = rw (← e, lt-ltb k count l, lt-leb count (k + length xs) g)

  pub kept : (z : ℤ) {i : ℤ} {p : ℕ} → z ≡ i → lt_z z (pos 0) ≡ false → nat_abs z < count
      → count ≤ nat_abs z + length xs → p ≡ place_of (nat_abs z) (length xs)
      → held (get_or xs p nan) ≡ tap_at xs count i
  kept (negsuc k) e h l g q = absurd (not_negative k h)
  kept (pos k) e h l g q =
      rw (← e, q, lt-ltb k count l, le-leb count (k + length xs) g, place-mod k (length xs) (omega arith))
