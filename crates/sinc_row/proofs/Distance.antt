-- How far a tap lies from its place. As taps / 2 - 1 and k - center are whole and exact, the distance is at most 65,
-- and pi times that is in the range of the sine, 256. Assumes nothing.
use mathlib.Core.Path.{◌≡◌, refl, ◌∙◌, ap, subst}
use mathlib.Core.Bool.{Bool, true, false, cond}
use Prim.Native.Nat.{ℕ, suc, ◌+◌, ◌-◌, ◌*◌, ◌/◌, ◌^◌, ◌≤◌, ◌<◌}
use native.Mathlib.Nat.{le_trans, le_refl}
use native.Mathlib.Omega.{arith}
use borrow.Author.Tests.{ltb-true, le-ltb, le-leb}
use lib.Dec.{T, ltb, le→leb, lit≤, lit<}
use lib.IntN.{pos, negsuc, nat_abs, sub_ℕ}
use lib.Ieee.{Float, nan, inf, fin, binary64, sub, mul, of_int, in_float}
use lib.Ieee.Exact.{HasValue}
use Rattle.magnitude.specs.Bounds.{AtMost}
use Rattle.magnitude.proofs.Rounded.{whole-at-most}
use Rattle.magnitude.proofs.Operations.{sub-at-most, mul-at-most, scale-at-most, div-at-most}
use Rattle.magnitude.proofs.WholeFloats.{whole-value, whole-difference, whole-quotient}
use Rattle.polynomials.specs.Range.{at_most}
use Rattle.sinc_settings.specs.declared.Settings.{Settings}
use Rattle.sinc_settings.specs.Ranges.{settings_ok, one-f, two-f}
use Rattle.sinc_settings.proofs.SettingsInRange.{Counts, counts, accepted}
use Rattle.sinc_row.specs.Coefficient.{num, pi, center_of, frac_of, distance_of}

-- ---- the counts as floats
pub exact : (n : ℕ) → n ≤ 4096 → T (in_float binary64 (pos n))
unfolding in_float
exact n h = le→leb n (2 ^ 53) (le_trans h (lit≤ tt))

pub value : (n : ℕ) → n ≤ 4096 → HasValue (num n) false n 1
value n h = whole-value binary64 (pos n) (le_trans h (lit≤ tt))

not-below : (a b : ℕ) → b ≤ a → sub_ℕ a b ≡ pos (a - b)
not-below a b h = rw (le-ltb a b h)

pub apart : (a b c : ℕ) → a ≤ b + c → b ≤ a + c → nat_abs (sub_ℕ a b) ≤ c
apart a b c p q = go (ltb a b) refl
  where
    go : (t : Bool) → ltb a b ≡ t → nat_abs (cond t (negsuc (b - suc a)) (pos (a - b))) ≤ c
    go true e = let l = ltb-true a b e in omega arith
    go false e = omega arith

-- ---- the distance
module _ (s : Settings) (ok : settings_ok s ≡ true) where
  abbrev half : ℕ
  half = s.taps / 2

  inside : Counts s.taps s.phases
  inside = counts s.taps s.phases (accepted s ok).counted

  center-is : center_of s.taps ≡ num (half - 1)
  center-is =
      let c = inside in
      let whole : HasValue (num s.taps) false (half * 2) 1 =
      subst (λ (n : ℕ). HasValue (num s.taps) false n 1) c.even (value s.taps (omega arith)) in
      ap (λ (x : Float). sub binary64 x one-f)
      (whole-quotient binary64 (num s.taps) two-f half 2 (lit< tt) whole (refl, refl))
      ∙ whole-difference binary64 (num half) one-f half 1 (value half (omega arith)) (refl, refl)
      ∙ ap (of_int binary64) (not-below half 1 (omega arith))

  pub distance-at-most : (phase k : ℕ) → phase ≤ s.phases → k < s.taps → AtMost 65 (distance_of s phase k)
  distance-at-most phase k f l =
      let c = inside in
      let m : AtMost 64 (sub binary64 (num k) (center_of s.taps)) =
      rw (
        center-is,
        whole-difference binary64 (num k) (num (half - 1)) k (half - 1) (value k (omega arith))
            (value (half - 1) (omega arith)),
      )
      (whole-at-most binary64 64 (sub_ℕ k (half - 1)) (lit≤ tt) (apart k (half - 1) 64 (omega arith) (omega arith))) in
      sub-at-most binary64 64 1 (sub binary64 (num k) (center_of s.taps)) (frac_of s.phases phase) (lit≤ tt) m
      (div-at-most binary64 phase 1 (num phase) (num s.phases) false s.phases 1 (lit≤ tt) (omega arith) (lit< tt)
      (whole-at-most binary64 phase (pos phase) (omega arith) (le_refl phase)) (value s.phases c.most-phases)
      (omega arith))

  -- The argument of the sinc.
  pub asked : (phase k : ℕ) → phase ≤ s.phases → k < s.taps
      → AtMost 65 (mul binary64 s.cutoff (distance_of s phase k))
  asked phase k f l =
      mul-at-most binary64 1 65 s.cutoff (distance_of s phase k) (lit≤ tt) (accepted s ok).unit
      (distance-at-most phase k f l)

-- ---- the argument of the sine
passed : (b : ℕ) (x : Float) → AtMost b x → at_most b x ≡ true
passed b nan h = absurd h
passed b (inf s) h = absurd h
passed b (fin s m e) h = le-leb _ _ h

pub in-range : (x : Float) → AtMost 65 x → at_most 256 (mul binary64 pi x) ≡ true
in-range x h =
    passed 256 (mul binary64 pi x)
    (scale-at-most binary64 65 256 pi x false 884279719003555 (2 ^ 48) (lit≤ tt) (lit< tt) (refl, refl) h (lit≤ tt))
