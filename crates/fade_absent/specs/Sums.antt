-- W3g. The absent taps of a stretch of the quality reader that requests one quality, summed over the items done.
-- Definitions only.
use Rattle.std.specs.Prelude.{ℕ, zero, suc, ◌+◌, min, cond, List, length, nat_le, slice_index_or, Float}
use Rattle.std.specs.Float.{nan}
use Rattle.constants.specs.Numbers.{limit}
use Rattle.ring.specs.Length.{zeros}
use Rattle.variable_delay.specs.Reader.{position_of}
use Rattle.absent_taps.specs.declared.Absent.{Absent}
use Rattle.absent_taps.specs.Absent.{none}
use Rattle.absent_qualities.specs.Readings.{of_turn}
use Rattle.bank_choice.specs.declared.Choice.{Choice}
use Rattle.quality_mode.specs.declared.QualityMode.{QualityMode}
use Rattle.returning_fade.specs.declared.RuledFade.{RuledFade}
use Rattle.returning_fade.specs.Step.{step_of, left_by}
use Rattle.stretch.specs.Singles.{sum_of}

-- The fade that an accepted call leaves, and the fade that k of them leave.
abbrev pub next_of : QualityMode → RuledFade → RuledFade
next_of q f = left_by f (step_of f q)

unfoldable pub fade_after : QualityMode → RuledFade → ℕ → RuledFade
fade_after q f zero = f
fade_after q f (suc k) = next_of q (fade_after q f k)

-- The absent taps of item k: those of the readings that its turn makes from the sets for its rate (W7g).
abbrev pub item_absent : ℕ → ℕ → RuledFade → Choice → QualityMode → List Float → ℕ → Absent
item_absent len before f c q ds k =
    of_turn c (step_of (fade_after q f k) q).turn (zeros len) (before + k + 1)
    (position_of (before + k) (slice_index_or ds k nan))

-- The sums over the first `done` items. Past 2^36 samples there is no such stretch, and they are three zeros; otherwise
-- no sum exceeds 2^45.
abbrev pub sums_of : ℕ → ℕ → RuledFade → Choice → QualityMode → List Float → ℕ → Absent
sums_of len before f c q ds done =
    let n = min done (length ds) in
    cond (nat_le (before + n) limit) (sum_of (item_absent len before f c q ds) n) none
