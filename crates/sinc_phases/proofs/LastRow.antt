-- K3. If a fraction is exactly 1 the phase is phases - 1 and the blend 1, for every number of phases: the product, the
-- phase and the difference are whole. Sample 0 at the delay 1e-300 reads such a position, just below 0. Assumes
-- nothing.
use mathlib.Core.Path.{◌≡◌, refl, sym, ◌∙◌, ap}
use mathlib.Core.Bool.{true, false, true≢false}
use Prim.Native.Nat.{ℕ, ◌+◌, ◌-◌, ◌*◌, ◌≤◌}
use native.Mathlib.Nat.{mul-one, one-mul, min-eq_right, mul-div_cancel}
use native.Mathlib.Omega.{arith}
use lib.IntN.{pos}
use lib.Ieee.{Float, nan, inf, fin, binary64, up, sub, of_int, of_bits}
use lib.Ieee.Fits.{down_pos}
use lib.Ieee.Exact.{HasValue}
use Rattle.integer_part.specs.Parts.{floor_of, fraction_of}
use Rattle.magnitude.proofs.WholeFloats.{whole-value, whole-product}
use Rattle.sinc_phases.proofs.Blends.{whole_apart}
use Rattle.sinc_phases.specs.Phases.{num, cut_to, phase_position, phase_of, blend_of}

-- A whole number that is not below the top is limited to it.
whole-cut : (top n : ℕ) (x : Float) → HasValue x false n 1 → top ≤ n → cut_to top x ≡ top
unfolding cut_to
whole-cut top n nan v h = absurd v
whole-cut top n (inf s) v h = absurd v
whole-cut top n (fin true m e) v h = absurd (true≢false v.0)
whole-cut top n (fin false m e) v h =
    rw (sym (mul-one (m * up e)) ∙ v.1, mul-div_cancel n (down_pos e)) (min-eq_right h)

module _ (p : Float) (phases : ℕ) (some : 1 ≤ phases) (few : phases ≤ 4096)
    (full : HasValue (fraction_of p) false 1 1) where
  position : phase_position p phases ≡ num phases
  position =
      whole-product binary64 (fraction_of p) (num phases) 1 phases full
      (whole-value binary64 (pos phases) (omega arith))
      ∙ ap num (one-mul phases)

  pub last-phase : phase_of p phases ≡ phases - 1
  last-phase =
      rw position (whole-cut (phases - 1) phases (num phases) (whole-value binary64 (pos phases) (omega arith))
      (omega arith))

  pub whole-blend : blend_of p phases ≡ num 1
  whole-blend =
      let e : phases ≡ phases - 1 + 1 = omega arith in
      ap (λ (n : ℕ). sub binary64 (phase_position p phases) (num n)) last-phase
      ∙ rw position (ap (λ (n : ℕ). sub binary64 (num n) (num (phases - 1))) e)
      ∙ whole_apart (phases - 1) 1 (omega arith)

-- ---- sample 0 at the delay 1e-300
abbrev just-below : Float
just-below = of_bits binary64 0x81a5_6e1f_c2f8_f359

full : HasValue (fraction_of just-below) false 1 1
unfolding fraction_of floor_of sub of_int of_bits
full = (refl, refl)

pub k3-phase : (phases : ℕ) → 1 ≤ phases → phases ≤ 4096 → phase_of just-below phases ≡ phases - 1
k3-phase phases h l = last-phase just-below phases h l full

pub k3-blend : (phases : ℕ) → 1 ≤ phases → phases ≤ 4096 → blend_of just-below phases ≡ fin false 1 (pos 0)
unfolding of_int
k3-blend phases h l = whole-blend just-below phases h l full
