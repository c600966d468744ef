-- A stretch by the test of its numbers: it is the quality reader's, taken apart, or a refusal that changes nothing.
-- Assumes nothing.
use mathlib.Core.Path.{◌≡◌, ap, ◌∙◌}
use mathlib.Core.Bool.{true, false, ◌&&◌}
use mathlib.Core.List.{List}
use Prim.Native.Nat.{ℕ}
use lib.ListN.{length}
use lib.Ieee.{Float}
use Rattle.quality_codes.specs.declared.Coded.{Coded}
use Rattle.quality_codes.specs.Codes.{mode_of, code_ok, decoded, coded, fields_ok, odd_number}
use Rattle.quality_stretch.specs.Reader as stretch
use Rattle.quality_stretch.specs.Inner.{first_due}
use Rattle.quality_stretch.specs.declared.StretchedQ.{StretchedQ}
use Rattle.coded_stretch.specs.Coded.{leaves, taken_apart, left_of}

module _ (sets : List Float) (max-rate : Float) (q : ℕ) (rate : Float) (s : Coded)
    (ring inputs delays out : List Float) where
  pub named : code_ok q && fields_ok s ≡ true → {a : StretchedQ} {us vs : List Float}
      → stretch.leaves a us vs
      ≡ stretch.left_of sets max-rate (mode_of q) rate (decoded s) ring inputs delays out
      → leaves a.refusal a.done (coded a.state) us vs
      ≡ left_of sets max-rate q rate s ring inputs delays out
  named t e = ap taken_apart e ∙ rw t

  pub not_named : code_ok q && fields_ok s ≡ false → {n v : ℕ}
      → v ≡ first_due (length sets) max-rate (decoded s) (length ring) (length inputs) (length delays) (length out)
      → n ≡ odd_number (code_ok q) v → leaves n 0 s ring out ≡ left_of sets max-rate q rate s ring inputs delays out
  not_named t e f = rw (f, e, t)
