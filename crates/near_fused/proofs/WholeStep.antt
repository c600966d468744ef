-- The whole step: the two ends lie on both sides of v * mu + c, so that it rounds as they do if they round alike.
-- Assumes nothing.
use mathlib.Core.Bool.{false}
use Prim.Native.Nat.{◌+◌, ◌*◌, ◌^◌, ◌<◌}
use native.Mathlib.Nat.{mul-pos, mul-le-mul_right}
use lib.Dec.{T, lit≤, lit<}
use lib.Ieee.{Float, binary64, add, sub, mul, fits}
use lib.Ieee.Fits.{mul-fits}
use lib.Ieee.Scale.{finite}
use Rattle.rounding_error.specs.Fraction.{Frac, frac, nil, plus, times, opp, Same}
use Rattle.rounding_error.specs.Value.{val}
use Rattle.rounding_error.proofs.Same.{same_refl, same-sym, same-trans, plus-same, plus_comm}
use Rattle.rounding_error.proofs.Within.{to, from, weaken, within-opp}
use Rattle.rounding_error.proofs.ProductErrors.{mag-times, mag-signed}
use Rattle.rounding_error.proofs.Value.{val_pos}
use Rattle.rounding_error.proofs.Operations.{add-rounded}
use Rattle.near_fused.specs.Step.{total, left}
use Rattle.near_fused.proofs.TwoSum.{sub-rounded}
use Rattle.near_fused.proofs.FractionSums.{restored, plus_assoc, split-product}
use Rattle.near_fused.proofs.UnitDistances.{Unit, Near, near_same, near-chain, near-plus, near-two, near_of}
use Rattle.near_fused.proofs.UnitDistances.{near-rounds}
use Rattle.near_fused.proofs.FiniteParts.{add-finite}
use Rattle.near_fused.proofs.ProductLowPart.{Factors, wanted, lower-near, lower-size}
use Rattle.near_fused.proofs.SumError.{left_near, left-size, total_size}

-- s + (((x - s) + w) + e) is (x + w) + e.
gathered : (s x w e : Frac) → 0 < s.d → 0 < x.d → 0 < w.d → 0 < e.d
    → Same (plus s (plus (plus (plus x (opp s)) w) e)) (plus (plus x w) e)
gathered s x w e S X W E =
    let y = plus x (opp s) in
    same-trans (same-sym (plus_assoc s (plus y w) S (mul-pos (mul-pos X S) W) e E))
    (plus-same (same-trans (same-sym (plus_assoc s y S (mul-pos X S) w W)) (plus-same (restored s x S X) (same_refl W)))
    (same_refl E))

swapped : (x c w : Frac) → 0 < x.d → 0 < c.d → 0 < w.d → Same (plus (plus x c) w) (plus (plus x w) c)
swapped x c w X C W =
    same-trans (plus_assoc x c X C w W)
    (same-trans (plus-same (same_refl X) (plus_comm c w C W)) (same-sym (plus_assoc x w X W c C)))

-- What the step knows: the parts of the factors, the addend, the product of the upper parts, and E, which is 2048
-- units.
pub record Step (U : Unit) (v mu c vh mh e : Float) : Type 0 where
  pub factors : Factors U v mu vh mh
  pub held : T (fits binary64 c)
  pub addend : Near U (2 ^ 83) (val c) nil
  pub product : Near U 1 (val (mul binary64 vh mh)) (times (val vh) (val mh))
  pub margin : Same (val e) (frac (2048 * U.N) 0 U.g)

module _ (v mu c vh mh e : Float) where
  abbrev pub p : Float
  p = mul binary64 vh mh

  abbrev pub pl : Float
  pl = add binary64 (mul binary64 vh (sub binary64 mu mh)) (mul binary64 (sub binary64 v vh) mu)

  abbrev pub u : Float
  u = add binary64 (left p c) pl

  abbrev pub hi : Float
  hi = add binary64 u e

  abbrev pub lo : Float
  lo = sub binary64 u e

module _ (U : Unit) (v mu c vh mh e : Float) (K : Step U v mu c vh mh e) (real : T (finite (u v mu c vh mh e)))
    (fe : T (finite e)) where
  abbrev P : Float
  P = p v mu c vh mh e

  abbrev M : Float
  M = u v mu c vh mh e

  abbrev S : Frac
  S = val (total P c)

  abbrev pub exact : Frac
  exact = plus (times (val v) (val mu)) (val c)

  parts : T (finite (left P c)) × T (finite (pl v mu c vh mh e))
  parts = add-finite (left P c) (pl v mu c vh mh e) real

  pub p-size : Near U (2 ^ 83 + 1) (val P) nil
  p-size =
      near-chain U 1 (2 ^ 83) K.product
      (near_of U (2 ^ 83) 1 (2 ^ 83) 1 (lit< tt) (lit≤ tt) (mag-times K.factors.vh-size K.factors.mh-size))

  mid-mag : Near U (2 ^ 59 + 2 ^ 58 + 2 ^ 32 + 299) (plus (val (left P c)) (val (pl v mu c vh mh e))) nil
  mid-mag =
      near-two U (2 ^ 32 + 6) (2 ^ 59 + 2 ^ 58 + 293)
      (left-size U P c (mul-fits binary64 vh mh) K.held p-size K.addend parts.0)
      (lower-size U v mu vh mh K.factors parts.1)

  mid-near : Near U 97 (val M) (plus (val (left P c)) (val (pl v mu c vh mh e)))
  mid-near =
      near-rounds U (2 ^ 59 + 2 ^ 58 + 2 ^ 32 + 299) 97 (lit< tt) (lit≤ tt) real mid-mag
      (add-rounded binary64 (left P c) (pl v mu c vh mh e) parts.0 parts.1)

  mid-size : Near U (2 ^ 59 + 2 ^ 58 + 2 ^ 32 + 396) (val M) nil
  mid-size = near-chain U 97 (2 ^ 59 + 2 ^ 58 + 2 ^ 32 + 299) mid-near mid-mag

  mid : Near U 392 (val M) (plus (plus (plus (val P) (val c)) (opp S)) (wanted v mu vh mh))
  mid =
      near-chain U 97 295 mid-near
      (near-plus U 3 292 (left_near U P c (mul-fits binary64 vh mh) K.held p-size K.addend parts.0)
      (lower-near U v mu vh mh K.factors parts.1))

  pub margin-size : Near U 2048 (val e) nil
  margin-size = from (same-sym K.margin) (mag-signed false (2048 * U.N) U.g U.G)

  -- An end: M with the margin added or subtracted, rounded.
  pub end-near : (E : Frac) (w : Float) → 0 < E.d → Near U 97 (val w) (plus (val M) E)
      → Near U 490 (plus S (val w)) (plus exact E)
  end-near E w D n =
      let PC = plus (val P) (val c) in
      let Y = wanted v mu vh mh in
      let pc = mul-pos (val_pos P) (val_pos c) in
      let y =
      mul-pos (mul-pos (val_pos vh) (mul-pos (val_pos mu) (val_pos mh)))
      (mul-pos (mul-pos (val_pos v) (val_pos vh)) (val_pos mu)) in
      let k = mul-pos (val_pos vh) (val_pos mh) in
      let a =
      near-plus U 0 489 (near_same U (same_refl {x = S} (val_pos (total P c))))
      (near-chain U 97 392 n (near-plus U 392 0 mid (near_same U (same_refl {x = E} D)))) in
      let b = to (gathered S PC Y E (val_pos (total P c)) pc y D) a in
      let x =
      near-plus U 1 0
      (near-plus U 1 0 (near-plus U 1 0 K.product (near_same U (same_refl {x = val c} (val_pos c))))
      (near_same U (same_refl {x = Y} y))) (near_same U (same_refl {x = E} D)) in
      let z =
      plus-same
      (same-trans (swapped (times (val vh) (val mh)) (val c) Y k (val_pos c) y) (plus-same
      (split-product (val v) (val vh) (val mu) (val mh) (val_pos v) (val_pos vh) (val_pos mu) (val_pos mh))
      (same_refl (val_pos c)))) (same_refl D) in
      near-chain U 489 1 b (to z x)

  pub upper-near : T (finite (hi v mu c vh mh e)) → Near U 97 (val (hi v mu c vh mh e)) (plus (val M) (val e))
  upper-near f =
      near-rounds U (2 ^ 59 + 2 ^ 58 + 2 ^ 32 + 2444) 97 (lit< tt) (lit≤ tt) f
      (near-two U (2 ^ 59 + 2 ^ 58 + 2 ^ 32 + 396) 2048 mid-size margin-size) (add-rounded binary64 M e real fe)

  pub lower-end-near : T (finite (lo v mu c vh mh e)) → Near U 97 (val (lo v mu c vh mh e)) (plus (val M) (opp (val e)))
  lower-end-near f =
      near-rounds U (2 ^ 59 + 2 ^ 58 + 2 ^ 32 + 2444) 97 (lit< tt) (lit≤ tt) f
      (near-two U (2 ^ 59 + 2 ^ 58 + 2 ^ 32 + 396) 2048 mid-size (within-opp margin-size)) (sub-rounded M e real fe)

  pub end-size : (E : Frac) (w : Float) → Near U 2048 E nil → Near U 97 (val w) (plus (val M) E)
      → Near U (2 ^ 85) (plus S (val w)) nil
  end-size E w h n =
      wider (near-two U (2 ^ 84 + 2 ^ 31 + 2) (2 ^ 59 + 2 ^ 58 + 2 ^ 32 + 2541)
      (total_size U P c (mul-fits binary64 vh mh) K.held p-size K.addend parts.0)
      (near-chain U 97 (2 ^ 59 + 2 ^ 58 + 2 ^ 32 + 2444) n
      (near-two U (2 ^ 59 + 2 ^ 58 + 2 ^ 32 + 396) 2048 mid-size h)))
    where
      wider : {x : Frac} → Near U (2 ^ 84 + 2 ^ 59 + 2 ^ 58 + 2 ^ 32 + 2 ^ 31 + 2543) x nil → Near U (2 ^ 85) x nil
      wider w = weaken (mul-le-mul_right U.N (lit≤ tt)) w
