-- If the phases and the position are in range, the row that is read and the next one lie in the table. Assumes nothing.
use mathlib.Core.Path.{◌≡◌}
use mathlib.Core.Bool.{true, ◌&&◌}
use Prim.Native.Nat.{ℕ, ◌+◌, ◌-◌, ◌*◌, ◌^◌, ◌≤◌}
use native.Mathlib.Nat.{add-mul, one-mul, mul-le-mul_right}
use native.Mathlib.Omega.{arith}
use denote.Floats.{passes}
use lib.Dec.{leb, leb→le}
use lib.Ieee.{Float}
use lib.Ieee.Bits.{is_true}
use lib.Ieee.Fits.{and_l, and_r}
use Rattle.magnitude.specs.Bounds.{AtMost}
use Rattle.ring.specs.Places.{position_ok}
use Rattle.ring.proofs.Positions.{position-at-most}
use Rattle.sinc_settings.specs.Ranges.{phases_ok}
use Rattle.sinc_settings.specs.Refusals.{table_length}
use Rattle.sinc_phases.specs.Phases.{phase_position, phase_of}
use Rattle.sinc_phases.proofs.CutToTop.{held}

pub record Fine (p : Float) (phases : ℕ) : Type 0 where
  pub least : 2 ≤ phases
  pub most : phases ≤ 4096
  pub near : AtMost (2 ^ 36) p

pub fine : (p : Float) (phases : ℕ) → phases_ok phases && position_ok p ≡ true → Fine p phases
fine p phases h =
    let t = passes (phases_ok phases && position_ok p) h in
    let r = and_l (phases_ok phases) (position_ok p) t in
    record {
      least = leb→le 2 phases (and_l (leb 2 phases) (leb phases 4096) r);
      most = leb→le phases 4096 (and_r (leb 2 phases) (leb phases 4096) r);
      near = position-at-most p (is_true _ (and_r (phases_ok phases) (position_ok p) t));
    }

-- K3. After each phase that is read there is another: the table has a row for each phase from 0 to phases.
pub next-phase : (p : Float) (phases : ℕ) → 2 ≤ phases → phase_of p phases + 1 ≤ phases
next-phase p phases h = omega (arith, held (phases - 1) (phase_position p phases))

-- ---- rows of `taps` elements
pub next_row : (r taps : ℕ) → (r + 1) * taps ≡ r * taps + taps
next_row r taps = rw (add-mul, one-mul)

pub two-rows : (r taps phases : ℕ) → r + 1 ≤ phases → r * taps + taps + taps ≤ table_length taps phases
two-rows r taps phases h =
    let g : r + 1 + 1 ≤ phases + 1 = omega arith in
    omega (arith, next_row r taps, next_row (r + 1) taps, mul-le-mul_right taps g)
