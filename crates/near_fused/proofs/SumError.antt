-- p + c is s plus a rest t. As (p - (s - (s - p))) + (c - (s - p)) gives it, t lies within three units of p + c - s.
-- Assumes nothing.
use Prim.Native.Nat.{◌+◌, ◌^◌}
use native.Mathlib.Nat.{mul-pos}
use lib.Dec.{T, lit≤, lit<}
use lib.Ieee.{Float, binary64, sub, fits}
use lib.Ieee.Scale.{finite}
use Rattle.rounding_error.specs.Fraction.{nil, plus, opp, Same}
use Rattle.rounding_error.specs.Value.{val, Is}
use Rattle.rounding_error.proofs.Same.{same_refl, same-sym, same-trans, plus-same, opp-same}
use Rattle.rounding_error.proofs.Within.{flip, to, from}
use Rattle.rounding_error.proofs.Value.{val_pos}
use Rattle.rounding_error.proofs.Operations.{add-rounded}
use Rattle.near_fused.specs.Step.{total, left}
use Rattle.near_fused.proofs.FewDigits.{units_of, short-exact}
use Rattle.near_fused.proofs.TwoSum.{sub-rounded, two-sum}
use Rattle.near_fused.proofs.FractionSums.{apart, crossed, folded}
use Rattle.near_fused.proofs.UnitDistances.{Unit, Near, near_same, near-chain, near-plus, near-two, near-gap}
use Rattle.near_fused.proofs.UnitDistances.{near-rounds}
use Rattle.near_fused.proofs.FiniteParts.{add-finite, sub-finite}

module _ (p c : Float) where
  abbrev pub z : Float
  z = sub binary64 (total p c) p

  abbrev pub d : Float
  d = sub binary64 (total p c) z

  abbrev pub e1 : Float
  e1 = sub binary64 p d

  abbrev pub e2 : Float
  e2 = sub binary64 c z

module _ (U : Unit) (p c : Float) (fp : T (fits binary64 p)) (fc : T (fits binary64 c))
    (P : Near U (2 ^ 83 + 1) (val p) nil) (C : Near U (2 ^ 83) (val c) nil) (real : T (finite (left p c))) where
  abbrev s : Float
  s = total p c

  f1 : T (finite (e1 p c))
  f1 = (add-finite (e1 p c) (e2 p c) real).0

  f2 : T (finite (e2 p c))
  f2 = (add-finite (e1 p c) (e2 p c) real).1

  fpr : T (finite p)
  fpr = (sub-finite p (d p c) f1).0

  fd : T (finite (d p c))
  fd = (sub-finite p (d p c) f1).1

  fcr : T (finite c)
  fcr = (sub-finite c (z p c) f2).0

  fz : T (finite (z p c))
  fz = (sub-finite c (z p c) f2).1

  fs : T (finite s)
  fs = (sub-finite s p fz).0

  s-near : Near U (2 ^ 31 + 1) (val s) (plus (val p) (val c))
  s-near =
      near-rounds U (2 ^ 84 + 1) (2 ^ 31 + 1) (lit< tt) (lit≤ tt) fs (near-two U (2 ^ 83 + 1) (2 ^ 83) P C)
      (add-rounded binary64 p c fpr fcr)

  sp : Near U (2 ^ 31 + 1) (plus (val s) (opp (val p))) (val c)
  sp =
      to (apart (val p) (val c) (val_pos p) (val_pos c))
      (near-plus U (2 ^ 31 + 1) 0 s-near (near_same U (same_refl {x = opp (val p)} (val_pos p))))

  z-near : Near U (2 ^ 30 + 1) (val (z p c)) (plus (val s) (opp (val p)))
  z-near =
      near-rounds U (2 ^ 83 + 2 ^ 31 + 1) (2 ^ 30 + 1) (lit< tt) (lit≤ tt) fz (near-chain U (2 ^ 31 + 1) (2 ^ 83) sp C)
      (sub-rounded s p fs fpr)

  d-is : Is (d p c) (plus (val s) (opp (val (z p c))))
  d-is = short-exact (two-sum p c (units_of p fp fpr) (units_of c fc fcr) fs fz) (sub-rounded s (z p c) fs fz)

  e1-same : Same (plus (val p) (opp (val (d p c)))) (plus (val p) (opp (plus (val s) (opp (val (z p c))))))
  e1-same = plus-same (same_refl (val_pos p)) (opp-same d-is.same)

  e1-mag : Near U (2 ^ 30 + 1) (plus (val p) (opp (val (d p c)))) nil
  e1-mag =
      from
      (same-sym (same-trans e1-same (crossed (val p) (val s) (val_pos p) (val_pos s) (val (z p c)) (val_pos (z p c)))))
      (near-gap U (2 ^ 30 + 1) z-near)

  e1-near : Near U 1 (val (e1 p c)) (plus (val p) (opp (val (d p c))))
  e1-near = near-rounds U (2 ^ 30 + 1) 1 (lit< tt) (lit≤ tt) f1 e1-mag (sub-rounded p (d p c) fpr fd)

  e2-mag : Near U (2 ^ 31 + 2 ^ 30 + 2) (plus (val c) (opp (val (z p c)))) nil
  e2-mag = near-gap U (2 ^ 31 + 2 ^ 30 + 2) (near-chain U (2 ^ 31 + 1) (2 ^ 30 + 1) (flip sp) (flip z-near))

  e2-near : Near U 1 (val (e2 p c)) (plus (val c) (opp (val (z p c))))
  e2-near = near-rounds U (2 ^ 31 + 2 ^ 30 + 2) 1 (lit< tt) (lit≤ tt) f2 e2-mag (sub-rounded c (z p c) fcr fz)

  sum-mag : Near U (2 ^ 32 + 5) (plus (val (e1 p c)) (val (e2 p c))) nil
  sum-mag =
      near-two U (2 ^ 30 + 2) (2 ^ 31 + 2 ^ 30 + 3) (near-chain U 1 (2 ^ 30 + 1) e1-near e1-mag)
      (near-chain U 1 (2 ^ 31 + 2 ^ 30 + 2) e2-near e2-mag)

  sum_near : Near U 1 (val (left p c)) (plus (val (e1 p c)) (val (e2 p c)))
  sum_near =
      near-rounds U (2 ^ 32 + 5) 1 (lit< tt) (lit≤ tt) real sum-mag (add-rounded binary64 (e1 p c) (e2 p c) f1 f2)

  pub left_near : Near U 3 (val (left p c)) (plus (plus (val p) (val c)) (opp (val s)))
  left_near =
      to (same-trans (plus-same e1-same (same_refl (mul-pos (val_pos c) (val_pos (z p c)))))
      (folded (val p) (val s) (val_pos p) (val_pos s) (val (z p c)) (val_pos (z p c)) (val c) (val_pos c)))
      (near-chain U 1 2 sum_near (near-plus U 1 1 e1-near e2-near))

  pub left-size : Near U (2 ^ 32 + 6) (val (left p c)) nil
  left-size = near-chain U 1 (2 ^ 32 + 5) sum_near sum-mag

  pub total_size : Near U (2 ^ 84 + 2 ^ 31 + 2) (val s) nil
  total_size = near-chain U (2 ^ 31 + 1) (2 ^ 84 + 1) s-near (near-two U (2 ^ 83 + 1) (2 ^ 83) P C)
