-- What follows if the taps and the position are in range. Assumes nothing.
use mathlib.Core.Path.{◌≡◌}
use mathlib.Core.Bool.{true, ◌&&◌}
use Prim.Native.Nat.{ℕ, ◌^◌, ◌≤◌}
use denote.Floats.{passes}
use lib.Dec.{leb, leb→le}
use lib.Ieee.{Float}
use lib.Ieee.Bits.{is_true}
use lib.Ieee.Fits.{and_l, and_r}
use Rattle.magnitude.specs.Bounds.{AtMost}
use Rattle.ring.specs.Places.{position_ok}
use Rattle.ring.proofs.Positions.{position-at-most}
use Rattle.sinc_settings.specs.Ranges.{taps_ok}

pub record Aimed (p : Float) (taps : ℕ) : Type 0 where
  pub least : 4 ≤ taps
  pub most : taps ≤ 128
  pub near : AtMost (2 ^ 36) p

pub aimed : (p : Float) (taps : ℕ) → taps_ok taps && position_ok p ≡ true → Aimed p taps
aimed p taps h =
    let t = passes (taps_ok taps && position_ok p) h in
    let r = and_l (leb 4 taps && leb taps 128) _ (and_l (taps_ok taps) (position_ok p) t) in
    record {
      least = leb→le 4 taps (and_l (leb 4 taps) (leb taps 128) r);
      most = leb→le taps 128 (and_r (leb 4 taps) (leb taps 128) r);
      near = position-at-most p (is_true _ (and_r (taps_ok taps) (position_ok p) t));
    }
