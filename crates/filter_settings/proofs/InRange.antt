-- What follows for settings in range. Assumes nothing.
use mathlib.Core.Path.{◌≡◌, refl}
use mathlib.Core.Bool.{Bool, true, false, ◌&&◌, ◌||◌}
use Prim.Native.Nat.{ℕ, ◌+◌, ◌*◌, ◌/◌, ◌%◌, ◌^◌, ◌≤◌}
use native.Mathlib.Nat.{le_trans, div-add-mod'}
use native.Mathlib.Omega.{arith}
use lib.Dec.{T, eqb, leb, leb→le, eqb→eq, le→leb, lit≤}
use lib.IntN.{pos, negsuc}
use lib.Ieee.{Float, fin, binary64, lt, le, eq, in_float}
use lib.Ieee.Bits.{is_true}
use lib.Ieee.Fits.{and_l, and_r}
use denote.Floats.{passes}
use Rattle.constants.specs.Numbers.{one-f}
use Rattle.magnitude.specs.Bounds.{AtMost}
use Rattle.magnitude.proofs.OrderAndBounds.{between-at-most}
use Rattle.sinc_settings.specs.Ranges.{beta_ok}
use Rattle.filter_settings.specs.Ranges.{taps_ok, factor_ok, cutoff_ok, design_ok}

pub record Taps (taps : ℕ) : Type 0 where
  pub least : 17 ≤ taps
  pub most : taps ≤ 129
  pub uneven : taps ≡ taps / 2 * 2 + 1

pub taps-in : (taps : ℕ) → taps_ok taps ≡ true → Taps taps
taps-in taps h =
    let t = passes (taps_ok taps) h in
    let range = and_l (leb 17 taps && leb taps 129) (eqb (taps % 2) 1) t in
    let rest = eqb→eq (taps % 2) 1 (and_r (leb 17 taps && leb taps 129) (eqb (taps % 2) 1) t) in
    record {
      least = leb→le 17 taps (and_l (leb 17 taps) (leb taps 129) range);
      most = leb→le taps 129 (and_r (leb 17 taps) (leb taps 129) range);
      uneven = omega (arith, div-add-mod' taps 2);
    }

-- A conjunction that passes, part by part.
pub both-in : (a b : Bool) → a && b ≡ true → (a ≡ true) × (b ≡ true)
both-in a b h = (is_true a (and_l a b (passes (a && b) h)), is_true b (and_r a b (passes (a && b) h)))

-- The factor is small.
pub factor-in : (factor : ℕ) → factor_ok factor ≡ true → factor ≤ 4
factor-in factor h = go (eqb factor 2) refl h
  where
    go : (b : Bool) → eqb factor 2 ≡ b → (b || eqb factor 4) ≡ true → factor ≤ 4
    go true e q = let z = eqb→eq factor 2 (passes (eqb factor 2) e) in omega arith
    go false e q = let z = eqb→eq factor 4 (passes (eqb factor 4) q) in omega arith

-- The counts as floats.
pub exact : (n : ℕ) → n ≤ 4096 → T (in_float binary64 (pos n))
unfolding in_float
exact n h = le→leb n (2 ^ 53) (le_trans h (lit≤ tt))

-- What follows for a design: the taps are in range, and the cutoff is at most 1.
abbrev lowest : Float
lowest = fin false 1 (negsuc 9)

or_l : (a b : Bool) → T a → T (a || b)
or_l true b h = tt
or_l false b h = absurd h

strictly : (x y : Float) → T (lt x y) → T (le x y)
unfolding le
strictly x y h = or_l (lt x y) (eq x y) h

pub record Designed (taps : ℕ) (cutoff : Float) : Type 0 where
  pub taps-good : Taps taps
  pub unit : AtMost 1 cutoff

pub designed : (taps : ℕ) (cutoff beta : Float) → design_ok taps cutoff beta ≡ true → Designed taps cutoff
designed taps cutoff beta h =
    let p = both-in (taps_ok taps) (cutoff_ok cutoff && beta_ok beta) h in
    let q = both-in (cutoff_ok cutoff) (beta_ok beta) p.1 in
    let t = passes (cutoff_ok cutoff) q.0 in
    record {
      taps-good = taps-in taps p.0;
      unit =
          between-at-most 1 lowest cutoff one-f (lit≤ tt) (lit≤ tt) (and_l (le lowest cutoff) (lt cutoff one-f) t)
          (strictly cutoff one-f (and_r (le lowest cutoff) (lt cutoff one-f) t));
    }
