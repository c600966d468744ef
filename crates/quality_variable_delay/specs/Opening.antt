-- K1, Q3. Opening a quality reader over a lent ring, and resetting one: both zero the ring and the count, and end any
-- fade. Definitions only.
use Rattle.std.specs.Prelude.{ℕ, zero, suc, ◌&&◌, List, [], ◌∷◌, length, nat_eq, nat_le, Float}
use Rattle.constants.specs.Numbers.{limit}
use Rattle.refusal_order.specs.Order.{◌unless◌, first_of}
use Rattle.ring.specs.Length.{settings_ok, length_for}
use Rattle.variable_delay.specs.Opening.{cleared_by}
use Rattle.variable_delay.specs.Opening as plain
use Rattle.quality_mode.specs.declared.QualityMode.{QualityMode}
use Rattle.quality_fade.specs.Fade.{length_ok}
use Rattle.returning_fade.specs.declared.Rule.{Rule}
use Rattle.returning_fade.specs.Rules.{place_ok, open_of}
use Rattle.returning_fade.specs.Rules as fade
use Rattle.quality_variable_delay.specs.declared.QualityVariableDelayF32.{QualityVariableDelayF32}
use Rattle.quality_variable_delay.specs.declared.Opened.{Opened}
use Rattle.quality_variable_delay.specs.declared.Opened.TheVariants.{Reader, Refused}
use Rattle.quality_variable_delay.specs.State.{fade_part, joined}

-- N1 to N3. The number of the refusal of a reset, 0 for none. A state that is full may be reset.
abbrev pub reset_verdict : QualityVariableDelayF32 → ℕ → ℕ
reset_verdict d len =
    first_of
    (1 unless (settings_ok d.maximum d.margin && length_ok d.crossfade_samples)
    ∷ 2 unless nat_eq len (length_for d.maximum d.margin)
    ∷ 3 unless (nat_le d.accepted limit && place_ok (fade_part d))
    ∷ [])

-- Q3. The count is zero, the target is current, and the place is the length; the rule stays.
abbrev pub renewed : QualityVariableDelayF32 → QualityVariableDelayF32
renewed d = joined (plain.fresh d.maximum d.margin) (fade.reset_of (fade_part d))

-- The reader that a verdict leaves. Its ring is that of every delay reader: a refusal leaves every element as it was
-- (D1c).
abbrev pub opened_by : ℕ → QualityVariableDelayF32 → Opened
opened_by zero d = Reader (renewed d)
opened_by (suc k) d = Refused (suc k)

abbrev pub reset_of : QualityVariableDelayF32 → ℕ → Opened
reset_of d len = opened_by (reset_verdict d len) d

abbrev pub ring_reset : QualityVariableDelayF32 → List Float → List Float
ring_reset d xs = cleared_by (reset_verdict d (length xs)) xs

-- Q3. Opening is the reset of a state that has accepted nothing and holds its one quality and the rule that the opening
-- chooses (W9a), so that only 1 and 2 are possible.
abbrev pub fresh : Rule → ℕ → ℕ → QualityMode → ℕ → QualityVariableDelayF32
fresh rule maximum margin quality crossfade-samples =
    joined (plain.fresh maximum margin) (open_of rule quality crossfade-samples)

-- C4. 01's number for each case, 0 for a reader.
abbrev pub number_of : Opened → ℕ
number_of (Reader d) = 0
number_of (Refused k) = k
