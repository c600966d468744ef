-- The lower part of the product: vh * ml + vl * mu, in floats, lies near v * mu - vh * mh. Assumes nothing.
use Prim.Native.Nat.{◌+◌, ◌^◌}
use native.Mathlib.Nat.{one-mul, mul-pos}
use lib.Dec.{T, lit≤, lit<}
use lib.Ieee.{Float, binary64, add, sub, mul}
use lib.Ieee.Scale.{finite}
use Rattle.rounding_error.specs.Fraction.{Frac, nil, plus, times, opp, Within}
use Rattle.rounding_error.specs.Value.{val}
use Rattle.rounding_error.proofs.Same.{times-comm}
use Rattle.rounding_error.proofs.Within.{rescale, chain, to, from}
use Rattle.rounding_error.proofs.ProductErrors.{mag-times, within-times, within-times-at}
use Rattle.rounding_error.proofs.Value.{val_pos}
use Rattle.rounding_error.proofs.Operations.{add-rounded, mul-rounded}
use Rattle.near_fused.proofs.TwoSum.{sub-rounded}
use Rattle.near_fused.proofs.UnitDistances.{Unit, Near, near-chain, near-plus, near-two, near_of, near-rounds}
use Rattle.near_fused.proofs.UnitDistances.{rounded-part}
use Rattle.near_fused.proofs.FiniteParts.{add-finite, sub-finite, mul-finite}

-- What is left of x without h.
abbrev pub rest : Float → Float → Frac
rest x h = plus (val x) (opp (val h))

-- The exact v * mu - vh * mh.
abbrev pub wanted : Float → Float → Float → Float → Frac
wanted v mu vh mh = plus (times (val vh) (rest mu mh)) (times (rest v vh) (val mu))

-- The factors and their upper parts.
pub record Factors (U : Unit) (v mu vh mh : Float) : Type 0 where
  pub vh-size : Near U (2 ^ 83) (val vh) nil
  pub v-rest : Near U (2 ^ 58 + 1) (rest v vh) nil
  pub mu-size : Within 1 1 (val mu) nil
  pub mh-size : Within 1 1 (val mh) nil
  pub mu-rest : Within (2 ^ 24) 1 (rest mu mh) nil

module _ (U : Unit) (v mu vh mh : Float) (K : Factors U v mu vh mh)
    (real : T (finite (add binary64 (mul binary64 vh (sub binary64 mu mh))
    (mul binary64 (sub binary64 v vh) mu)))) where
  abbrev vl : Float
  vl = sub binary64 v vh

  abbrev ml : Float
  ml = sub binary64 mu mh

  abbrev a1 : Float
  a1 = mul binary64 vh ml

  abbrev a2 : Float
  a2 = mul binary64 vl mu

  r1 : T (finite a1)
  r1 = (add-finite a1 a2 real).0

  r2 : T (finite a2)
  r2 = (add-finite a1 a2 real).1

  pub vl-near : Near U 33 (val vl) (rest v vh)
  vl-near =
      let f = (mul-finite vl mu r2).0 in
      let (a, b) = sub-finite v vh f in
      near-rounds U (2 ^ 58 + 1) 33 (lit< tt) (lit≤ tt) f K.v-rest (sub-rounded v vh a b)

  ml-near : Within (2 ^ 77) 1 (val ml) (rest mu mh)
  ml-near =
      let f = (mul-finite vh ml r1).1 in
      let (a, b) = sub-finite mu mh f in
      (rounded-part f (lit< tt) K.mu-rest (lit≤ tt) (sub-rounded mu mh a b)).near

  ml-size : Within (2 ^ 77) (1 + 2 ^ 53) (val ml) nil
  ml-size = chain ml-near (rescale {g = 2 ^ 24} {e = 1} {g' = 2 ^ 77} {e' = 2 ^ 53} (lit< tt) (lit≤ tt) K.mu-rest)

  vl-size : Near U (2 ^ 58 + 34) (val vl) nil
  vl-size = near-chain U 33 (2 ^ 58 + 1) vl-near K.v-rest

  -- ---- the product vh * ml
  first-mag : Near U (2 ^ 59 + 64) (times (val vh) (val ml)) nil
  first-mag =
      near_of U (2 ^ 83) (1 + 2 ^ 53) (2 ^ 59 + 64) (2 ^ 77) (lit< tt) (lit≤ tt) (mag-times K.vh-size ml-size)

  first-near : Near U 65 (val a1) (times (val vh) (val ml))
  first-near =
      let (a, b) = mul-finite vh ml r1 in
      near-rounds U (2 ^ 59 + 64) 65 (lit< tt) (lit≤ tt) r1 first-mag (mul-rounded binary64 vh ml a b)

  first : Near U 129 (val a1) (times (val vh) (rest mu mh))
  first =
      near-chain U 65 64 first-near (near_of U (2 ^ 83) 1 64 (2 ^ 77) (lit< tt) (lit≤ tt)
      (within-times-at K.vh-size ml-near))

  first-size : Near U (2 ^ 59 + 129) (val a1) nil
  first-size = near-chain U 65 (2 ^ 59 + 64) first-near first-mag

  -- ---- the product vl * mu
  second-mag : Near U (2 ^ 58 + 34) (times (val vl) (val mu)) nil
  second-mag = near_of U (2 ^ 58 + 34) 1 (2 ^ 58 + 34) 1 (lit< tt) (lit≤ tt) (mag-times vl-size K.mu-size)

  second-near : Near U 33 (val a2) (times (val vl) (val mu))
  second-near =
      let (a, b) = mul-finite vl mu r2 in
      near-rounds U (2 ^ 58 + 34) 33 (lit< tt) (lit≤ tt) r2 second-mag (mul-rounded binary64 vl mu a b)

  second : Near U 66 (val a2) (times (rest v vh) (val mu))
  second =
      near-chain U 33 33 second-near
      (from (times-comm (val mu) (val vl) (val_pos mu) (val_pos vl))
      (to (times-comm (val mu) (rest v vh) (val_pos mu) (mul-pos (val_pos v) (val_pos vh)))
      (rw one-mul at (within-times K.mu-size vl-near))))

  second-size : Near U (2 ^ 58 + 67) (val a2) nil
  second-size = near-chain U 33 (2 ^ 58 + 34) second-near second-mag

  -- ---- their sum
  abbrev lower : Float
  lower = add binary64 a1 a2

  sum_near : Near U 97 (val lower) (plus (val a1) (val a2))
  sum_near =
      near-rounds U (2 ^ 59 + 2 ^ 58 + 196) 97 (lit< tt) (lit≤ tt) real
      (near-two U (2 ^ 59 + 129) (2 ^ 58 + 67) first-size second-size) (add-rounded binary64 a1 a2 r1 r2)

  pub lower-near : Near U 292 (val lower) (wanted v mu vh mh)
  lower-near = near-chain U 97 195 sum_near (near-plus U 129 66 first second)

  pub lower-size : Near U (2 ^ 59 + 2 ^ 58 + 293) (val lower) nil
  lower-size =
      near-chain U 97 (2 ^ 59 + 2 ^ 58 + 196) sum_near (near-two U (2 ^ 59 + 129) (2 ^ 58 + 67) first-size second-size)
