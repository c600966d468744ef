-- The law of the step, for any three floats that pass its tests. Assumes nothing.
use mathlib.Core.Path.{◌≡◌, refl}
use Prim.Native.Nat.{◌*◌, ◌^◌}
use lib.Dec.{T}
use lib.Ieee.{Float, binary64, add, sub, mul, le, fits}
use lib.Ieee.Scale.{finite}
use Rattle.rounding.specs.Operations.{fused}
use Rattle.near_fused.specs.Parts.{high, sized}
use Rattle.near_fused.specs.Step.{total, least}
use Rattle.near_fused.proofs.MarginShare.{enough}
use Rattle.near_fused.proofs.FiniteParts.{add-finite, sub-finite, mul-finite}
use Rattle.near_fused.proofs.StepLaw.{law}
use Rattle.near_fused.proofs.StepFacts.{unit, step}
use Rattle.near_fused.proofs.Margin.{margin-value, margin-least, first-most, second-most}
use Rattle.near_fused.proofs.PatternSplit.{split}
use Rattle.near_fused.proofs.WholeStep.{pl, u, hi, lo}
use Rattle.near_fused.proofs.Tests.{Inside, inside-size}

module _ (v mu c : Float) (hv : T (fits binary64 v)) (hm : T (fits binary64 mu)) (hc : T (fits binary64 c))
    (i : Inside mu) (part : Float) where
  abbrev vh : Float
  vh = high v

  abbrev mh : Float
  mh = high mu

  abbrev e : Float
  e = add binary64 (mul binary64 (add binary64 (sized v) (sized c)) part) least

  abbrev s : Float
  s = total (mul binary64 vh mh) c

  abbrev H : Float
  H = hi v mu c vh mh e

  abbrev L : Float
  L = lo v mu c vh mh e

  module _ (real : T (finite (add binary64 s H))) where
    fs : T (finite s)
    fs = (add-finite s H real).0

    fue : T (finite (u v mu c vh mh e)) × T (finite e)
    fue = add-finite (u v mu c vh mh e) e (add-finite s H real).1

    fp : T (finite (mul binary64 vh mh))
    fp = (add-finite (mul binary64 vh mh) c fs).0

    fc : T (finite c)
    fc = (add-finite (mul binary64 vh mh) c fs).1

    parts : T (finite (mul binary64 vh (sub binary64 mu mh))) × T (finite (mul binary64 (sub binary64 v vh) mu))
    parts =
        add-finite (mul binary64 vh (sub binary64 mu mh)) (mul binary64 (sub binary64 v vh) mu)
        (add-finite _ (pl v mu c vh mh e) fue.0).1

    fm : T (finite mu)
    fm = (sub-finite mu mh (mul-finite vh (sub binary64 mu mh) parts.0).1).0

    pub fv : T (finite v)
    fv = (sub-finite v vh (mul-finite (sub binary64 v vh) mu parts.1).0).0

    pub answer : T (le (add binary64 s H) (add binary64 s L)) → T (enough part)
        → add binary64 s H ≡ fused binary64 v mu c
    answer test en =
        let X = split v hv fv in
        let R = split mu hm fm in
        let C = split c hc fc in
        let A = X.q * 2 ^ X.k in
        let B = C.q * 2 ^ C.k in
        let P = margin-least part en (sized v) (sized c) A B X.size C.size fue.1 in
        law (unit _ P) v mu c vh mh e
        (step _ P v mu c e X R C (inside-size mu fm i)
        (first-most part en (sized v) (sized c) A B X.size C.size fue.1 X.q X.k refl X.digits)
        (second-most part en (sized v) (sized c) A B X.size C.size fue.1 C.q C.k refl C.digits) hc
        (margin-value part en (sized v) (sized c) A B X.size C.size fue.1) fp)
        fv fm fc real test
