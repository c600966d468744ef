-- What follows for settings in range. Assumes nothing.
use mathlib.Core.Path.{◌≡◌}
use mathlib.Core.Bool.{true, false, ◌&&◌}
use Prim.Native.Nat.{ℕ, ◌+◌, ◌*◌, ◌/◌, ◌%◌, ◌^◌, ◌≤◌}
use native.Mathlib.Nat.{mul-le-mul, div-add-mod'}
use native.Mathlib.Omega.{arith}
use lib.Dec.{eqb, leb, leb→le, eqb→eq, lit≤}
use lib.IntN.{negsuc}
use lib.Ieee.Bits.{is_true}
use lib.Ieee.Fits.{and_l, and_r}
use lib.Ieee.{Float, fin, le}
use denote.Floats.{passes}
use Rattle.magnitude.specs.Bounds.{AtMost}
use Rattle.magnitude.proofs.OrderAndBounds.{between-at-most}
use Rattle.sinc_settings.specs.declared.Settings.{Settings}
use Rattle.sinc_settings.specs.Ranges.{taps_ok, phases_ok, cutoff_ok, beta_ok, settings_ok, one-f}
use Rattle.sinc_settings.specs.Refusals.{table_length}

-- What follows for the taps and the phases.
pub record Counts (taps phases : ℕ) : Type 0 where
  pub least-taps : 4 ≤ taps
  pub most-taps : taps ≤ 128
  pub even : taps ≡ taps / 2 * 2
  pub least-phases : 2 ≤ phases
  pub most-phases : phases ≤ 4096

pub counts : (taps phases : ℕ) → taps_ok taps && phases_ok phases ≡ true → Counts taps phases
counts taps phases h =
    let t = passes (taps_ok taps && phases_ok phases) h in
    let ok = and_l (taps_ok taps) (phases_ok phases) t in
    let range = and_l (leb 4 taps && leb taps 128) (eqb (taps % 2) 0) ok in
    let half = eqb→eq (taps % 2) 0 (and_r (leb 4 taps && leb taps 128) (eqb (taps % 2) 0) ok) in
    let fine = and_r (taps_ok taps) (phases_ok phases) t in
    record {
      least-taps = leb→le 4 taps (and_l (leb 4 taps) (leb taps 128) range);
      most-taps = leb→le taps 128 (and_r (leb 4 taps) (leb taps 128) range);
      even = omega (arith, div-add-mod' taps 2);
      least-phases = leb→le 2 phases (and_l (leb 2 phases) (leb phases 4096) fine);
      most-phases = leb→le phases 4096 (and_r (leb 2 phases) (leb phases 4096) fine);
    }

-- A whole table is short enough for every index.
pub length-fits : {taps phases : ℕ} → Counts taps phases → table_length taps phases ≤ 2 ^ 20
length-fits {taps} {phases} c =
    let l : phases + 1 ≤ 4097 = omega (arith, c.most-phases) in omega (arith, mul-le-mul l c.most-taps)

-- What follows for all four: the counts pass their tests, and the cutoff is at most 1.
abbrev least : Float
least = fin false 1 (negsuc 9)

pub record Accepted (s : Settings) : Type 0 where
  pub counted : taps_ok s.taps && phases_ok s.phases ≡ true
  pub unit : AtMost 1 s.cutoff

pub accepted : (s : Settings) → settings_ok s ≡ true → Accepted s
accepted s h =
    let t = passes (settings_ok s) h in
    let c = and_l (taps_ok s.taps && phases_ok s.phases) (cutoff_ok s.cutoff && beta_ok s.beta) t in
    let cut =
    and_l (cutoff_ok s.cutoff) (beta_ok s.beta)
    (and_r (taps_ok s.taps && phases_ok s.phases) (cutoff_ok s.cutoff && beta_ok s.beta) t) in
    record {
      counted = is_true _ c;
      unit =
          between-at-most 1 least s.cutoff one-f (lit≤ tt) (lit≤ tt)
          (and_l (le least s.cutoff) (le s.cutoff one-f) cut)
          (and_r (le least s.cutoff) (le s.cutoff one-f) cut);
    }
