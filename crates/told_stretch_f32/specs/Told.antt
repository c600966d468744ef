-- W3g. A whole stretch of VariableDelayF32 over a windowed sinc table that reports absent taps: the stretch's own
-- answer, with the sums over the items done. Definitions only.
use Rattle.std.specs.Prelude.{ℕ, List, length, Float}
use Rattle.variable_delay.specs.declared.VariableDelay.{VariableDelay}
use Rattle.stretch.specs.Whole.{whole_of}
use Rattle.stretch.specs.Counts.{whole_absent}
use Rattle.stretch_absent.specs.Sums.{absence}
use Rattle.sinc_stretch_f32.specs.Reader.{sinc_f32}
use Rattle.told_stretches.specs.Told.{Left, told_by}

abbrev pub told_of : List Float → ℕ → ℕ → VariableDelay → List Float → List Float → List Float → List Float → Left
told_of table taps phases d ring inputs delays out =
    told_by out (whole_of (sinc_f32 table taps phases) d ring inputs delays (length out))
    (whole_absent (sinc_f32 table taps phases) (absence taps) d ring inputs delays (length out))
