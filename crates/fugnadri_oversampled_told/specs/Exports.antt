-- W11f. What an export of the oversampled readers that report absent taps leaves: all that the export without the
-- numbers leaves, and the numbers. Definitions only.
use Rattle.std.specs.Prelude.{Float}
use Rattle.absent_taps.specs.declared.Absent.{Absent}
use Rattle.kernels.specs.declared.Kernel.{Kernel}
use Rattle.oversampled_delay.specs.declared.OversampledVariableDelay.{OversampledVariableDelay}
use Rattle.oversampled_delay.specs.Reader as direct-reader
use Rattle.cascaded_delay.specs.declared.CascadedOversampledVariableDelay4x.{CascadedOversampledVariableDelay4x}
use Rattle.cascaded_delay.specs.Reader as cascaded-reader
use Rattle.oversampled_codes.specs.Left as direct
use Rattle.oversampled_codes.specs.CascadedLeft as cascaded
use Rattle.told_oversampled.specs.Direct as told-direct
use Rattle.told_oversampled.specs.Cascaded as told-cascaded

pub record ToldLeft (H : Type 0) : Type 0 where
  pub left : direct.Left H
  pub absent : Absent

abbrev pub tells : {H : Type 0} → direct.Left H → Absent → ToldLeft H
tells left absent = record { left = left; absent = absent }

abbrev pub direct_told : Kernel → OversampledVariableDelay → direct-reader.Lent → Float → Float → ToldLeft direct.Held
direct_told k d l x y =
    let t = told-direct.told_of k d l x y in
    tells (direct.direct_left t.left) t.absent

abbrev pub cascaded_told : Kernel → CascadedOversampledVariableDelay4x → cascaded-reader.Lent → Float → Float
    → ToldLeft cascaded.Held
cascaded_told k d l x y =
    let t = told-cascaded.told_of k d l x y in
    tells (cascaded.cascaded_left t.left) t.absent
