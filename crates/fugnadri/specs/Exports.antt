-- Definitions for the exports' contracts: what a call of a reader leaves, for a kernel that has settings (G5) and for
-- one that has none. Definitions only.
use Rattle.std.specs.Prelude.{ℕ, Bool, true, List, length, Float}
use Rattle.variable_delay.specs.declared.VariableDelay.{VariableDelay}
use Rattle.variable_delay.specs.Reader.{Reading, processed_by, verdict, ring_after}
use Rattle.answer_parts.specs.Left.{Left, left_by}

abbrev pub left_with : Bool → Reading → VariableDelay → List Float → Float → Float → Left Float ℕ
left_with ok read d ring input delay =
    let v = verdict ok true d (length ring) input delay in
    left_by (processed_by read v d ring input delay) (ring_after v d ring input)

abbrev pub left_of : Reading → VariableDelay → List Float → Float → Float → Left Float ℕ
left_of = left_with true
