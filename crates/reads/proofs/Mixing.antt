-- W7d, W7g. What a call of the quality reader reads depends only on the taps of its qualities: of both if it is mixed,
-- otherwise of the one that it reads. Assumes nothing.
use mathlib.Core.Path.{◌≡◌}
use mathlib.Core.Bool.{false}
use mathlib.Core.List.{List}
use Prim.Native.Nat.{ℕ}
use lib.Ieee.{Float}
use Rattle.absent_taps.specs.Absent.{first_tap}
use Rattle.variable_delay.specs.Reader.{Reading}
use Rattle.quality_mode.specs.declared.QualityMode.{QualityMode}
use Rattle.quality_fade.specs.declared.Turn.{Turn}
use Rattle.quality_variable_delay.specs.Reader.{output_of}
use Rattle.reads.specs.Local.{Alike, Local, read_by}

module _ (read : QualityMode → Reading) (local : (q : QualityMode) → Local (read_by q) (read q)) (t : Turn)
    (xs ys : List Float) (a b : ℕ) (p : Float) where
  abbrev alike : QualityMode → Type 0
  alike q = Alike xs a ys b (first_tap p (read_by q)) (read_by q)

  pub mixed-call : alike t.from → alike t.to → output_of read t xs a p ≡ output_of read t ys b p
  mixed-call h k = rw (local t.from xs ys a b p h, local t.to xs ys a b p k)

  pub plain-call : t.mixed ≡ false → alike t.to → output_of read t xs a p ≡ output_of read t ys b p
  plain-call m k = rw (m, local t.to xs ys a b p k)
