-- The law of the step: if the upper end does not round above the lower one, both are v * mu + c rounded once. Assumes
-- nothing.
use mathlib.Core.Path.{◌≡◌, sym}
use Prim.Native.Nat.{◌+◌, ◌^◌, ◌<◌}
use native.Mathlib.Nat.{mul-pos}
use lib.Dec.{T, lit≤, lit<}
use lib.Ieee.{Float, binary64, add, le}
use lib.Ieee.Scale.{finite}
use Rattle.rounding.specs.Operations.{fused}
use Rattle.rounding_error.specs.Fraction.{Frac, nil, plus, times, opp}
use Rattle.rounding_error.specs.Value.{val}
use Rattle.rounding_error.proofs.Same.{same_refl}
use Rattle.rounding_error.proofs.Within.{flip, to, within-opp}
use Rattle.rounding_error.proofs.Value.{val_pos}
use Rattle.rounding_error.proofs.Operations.{add-rounded}
use Rattle.rounding_error.proofs.Fused.{fused-rounded}
use Rattle.near_fused.proofs.TwoSum.{sub-rounded}
use Rattle.near_fused.proofs.UnitDistances.{Unit, Near, near_same, near-chain, near-rounds}
use Rattle.near_fused.proofs.ZivTest.{ziv}
use Rattle.near_fused.proofs.RoundingOrder.{AtMost, at-most-trans}
use Rattle.near_fused.proofs.Sides.{over, under, not-both}
use Rattle.near_fused.proofs.FiniteParts.{add-finite}
use Rattle.near_fused.specs.Step.{total}
use Rattle.near_fused.proofs.LowerEnd.{finite-low, zero_same, zero-too}
use Rattle.near_fused.proofs.WholeStep.{Step, p, u, hi, lo, end-near, upper-near, lower-end-near, end-size}
use Rattle.near_fused.proofs.WholeStep.{margin-size}

module _ (U : Unit) (v mu c vh mh e : Float) (K : Step U v mu c vh mh e) (fv : T (finite v)) (fm : T (finite mu))
    (fc : T (finite c)) where
  abbrev s : Float
  s = total (p v mu c vh mh e) c

  abbrev H : Float
  H = hi v mu c vh mh e

  abbrev L : Float
  L = lo v mu c vh mh e

  abbrev M : Float
  M = u v mu c vh mh e

  module _ (real : T (finite (add binary64 s H))) (test : T (le (add binary64 s H) (add binary64 s L))) where
    fs : T (finite s)
    fs = (add-finite s H real).0

    fh : T (finite H)
    fh = (add-finite s H real).1

    fu : T (finite M)
    fu = (add-finite M e fh).0

    fe : T (finite e)
    fe = (add-finite M e fh).1

    same-e : {x : Frac} → 0 < x.d → Near U 0 x x
    same-e d = near_same U (same_refl d)

    ordered : AtMost (plus (val M) (opp (val e))) (plus (val M) (val e))
    ordered =
        let d = mul-pos (val_pos M) (val_pos e) in
        at-most-trans (val_pos M)
        (under U (val M) (val e) (val_pos M) 2048 K.margin (plus (val M) (opp (val e))) 0 (lit≤ tt) (same-e d))
        (over U (val M) (val e) (val_pos M) 2048 K.margin (plus (val M) (val e)) 0 (lit≤ tt) (same-e d))

    fl : T (finite L)
    fl =
        finite-low s (add binary64 s H) L fs real test fh ordered (sub-rounded M e fu fe)
        (add-rounded binary64 M e fu fe)

    abbrev Q : Frac
    Q = plus (times (val v) (val mu)) (val c)

    Qd : 0 < Q.d
    Qd = mul-pos (mul-pos (val_pos v) (val_pos mu)) (val_pos c)

    high : Near U 490 (plus (val s) (val H)) (plus Q (val e))
    high = end-near U v mu c vh mh e K fu fe (val e) H (val_pos e) (upper-near U v mu c vh mh e K fu fe fh)

    low : Near U 490 (plus (val s) (val L)) (plus Q (opp (val e)))
    low = end-near U v mu c vh mh e K fu fe (opp (val e)) L (val_pos e) (lower-end-near U v mu c vh mh e K fu fe fl)

    above : AtMost Q (plus (val s) (val H))
    above = over U Q (val e) Qd 2048 K.margin (plus (val s) (val H)) 490 (lit≤ tt) high

    below : AtMost (plus (val s) (val L)) Q
    below = under U Q (val e) Qd 2048 K.margin (plus (val s) (val L)) 490 (lit≤ tt) low

    -- An end that rounds to zero is nearly zero itself.
    vanish : (w : Float) → T (finite w) → T (finite (add binary64 s w)) → Near U (2 ^ 85) (plus (val s) (val w)) nil
        → (val (add binary64 s w)).p + (val (add binary64 s w)).n ≡ 0 → Near U 1 (plus (val s) (val w)) nil
    vanish w f g n z =
        let r = add-rounded binary64 s w fs f in
        let a =
        to (zero_same (add binary64 s w) z) (flip (near-rounds U (2 ^ 85) (2 ^ 32) (lit< tt) (lit≤ tt) g n r)) in
        to (zero_same (add binary64 s w) z) (flip (near-rounds U (2 ^ 32) 1 (lit< tt) (lit≤ tt) g a r))

    not-zero : (val (add binary64 s H)).p + (val (add binary64 s H)).n ≡ 0 → ⊥
    not-zero z =
        let (g, y) =
        zero-too (add binary64 s H) (add binary64 s L) real z test (at-most-trans Qd below above)
        (add-rounded binary64 s L fs fl) (add-rounded binary64 s H fs fh) in
        let a =
        vanish H fh real
        (end-size U v mu c vh mh e K fu fe (val e) H (margin-size U v mu c vh mh e K fu fe)
        (upper-near U v mu c vh mh e K fu fe fh)) z in
        let b =
        vanish L fl g
        (end-size U v mu c vh mh e K fu fe (opp (val e)) L (within-opp (margin-size U v mu c vh mh e K fu fe))
        (lower-end-near U v mu c vh mh e K fu fe fl)) y in
        not-both U Q (val e) Qd 2048 K.margin 982 (lit≤ tt) (lit< tt)
        (near-chain U 490 492 (flip low) (near-chain U 1 491 b (near-chain U 1 490 (flip a) high)))

    pub law : add binary64 s H ≡ fused binary64 v mu c
    law =
        sym (ziv (add binary64 s H) (add-rounded binary64 s L fs fl) (fused-rounded binary64 v mu c fv fm fc)
        (add-rounded binary64 s H fs fh) below above real not-zero test)
