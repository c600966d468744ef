-- A run of taps by the place of its index, for an index that the code holds as a word: one law for each return of
-- `run_start`. Assumes nothing.
use mathlib.Core.Path.{◌≡◌, sym, subst}
use mathlib.Core.Bool.{true, false}
use Prim.Native.Nat.{ℕ, ◌+◌, ◌%◌, ◌<◌, ◌≤◌}
use native.Mathlib.Nat.{mod-lt}
use native.Mathlib.Omega.{arith}
use borrow.Author.Tests.{ltb-true, le-leb, lt-leb, ne_eqb}
use lib.Dec.{T}
use lib.IntN.{ℤ, pos, negsuc, nat_abs}
use lib.Signed.{lt_z, non_neg, nat_abs-le}
use mir.Syntax.{w64}
use mir.Val.{Fits, SFits, to_z, of_z}
use mir.ValLaws.{to_z-of_z}
use Rattle.ring.specs.Quick.{place_of, start_of}
use Rattle.ring.specs.declared.Start.{Start}

-- The test for a negative number does not fail for one.
not_negative : (k : ℕ) → lt_z (negsuc k) (pos 0) ≡ false → ⊥
not_negative k h = let e : ◌≡◌ {A = ℕ} 0 1 = cc in omega arith

pub fits : (i : ℤ) → SFits w64 i → lt_z (to_z w64 (of_z w64 i)) (pos 0) ≡ false
    → T (non_neg (to_z w64 (of_z w64 i))) × Fits w64 (nat_abs (to_z w64 (of_z w64 i)))
fits i f =
    subst (λ (z : ℤ). lt_z z (pos 0) ≡ false → T (non_neg z) × Fits w64 (nat_abs z)) (sym (to_z-of_z w64 i f)) (go i f)
  where
    go : (i : ℤ) → SFits w64 i → lt_z i (pos 0) ≡ false → T (non_neg i) × Fits w64 (nat_abs i)
    go (pos k) f h = (tt, record { fits = omega (arith, nat_abs-le (pos k) f.sfits) })
    go (negsuc k) f h = absurd (not_negative k h)

pub place-mod : (k n : ℕ) → 0 < n → place_of k n ≡ k % n
place-mod k n some = rw (ne_eqb n 0 (λ z. omega arith))

pub place_inside : (k n : ℕ) {p : ℕ} → 0 < n → p ≡ place_of k n → p < n
place_inside k n some e = rw (e, place-mod k n some) (mod-lt k some)

-- Whether all taps of a run are held.
module _ (len count taps : ℕ) where
  abbrev none : Start
  none = record { held = false; place = 0 }

  pub none_before : (z : ℤ) {i : ℤ} → z ≡ i → lt_z z (pos 0) ≡ true → none ≡ start_of len count i taps
  none_before (negsuc k) e h = rw (← e)
  none_before (pos k) e h = let l : k < 0 = ltb-true k 0 h in absurd (omega arith)

  pub none_ahead : (z : ℤ) {i : ℤ} → z ≡ i → lt_z z (pos 0) ≡ false → count < nat_abs z + taps
      → none ≡ start_of len count i taps
  none_ahead (negsuc k) e h l = absurd (not_negative k h)
  none_ahead (pos k) e h l = rw (← e, lt-leb (k + taps) count l)

  pub none-gone : (z : ℤ) {i : ℤ} → z ≡ i → lt_z z (pos 0) ≡ false → nat_abs z + taps ≤ count → nat_abs z + len < count
      → none ≡ start_of len count i taps
  none-gone (negsuc k) e h l g = absurd (not_negative k h)
  none-gone (pos k) e h l g = rw (← e, le-leb (k + taps) count l, lt-leb count (k + len) g)

  pub all-kept : (z : ℤ) {i : ℤ} {p : ℕ} → z ≡ i → lt_z z (pos 0) ≡ false → nat_abs z + taps ≤ count
      → count ≤ nat_abs z + len → p ≡ place_of (nat_abs z) len
      → ◌≡◌ {A = Start} (record { held = true; place = p }) (start_of len count i taps)
  all-kept (negsuc k) e h l g q = absurd (not_negative k h)
  all-kept (pos k) e h l g q = rw (← e, q, le-leb (k + taps) count l, le-leb count (k + len) g)
