-- K4, K5. What a table of f32 reads at a position: 000's sum over the taps in 000's order, the blend and each step
-- rounded once to f32. Definitions only.
use Rattle.std.specs.Prelude.{ℕ, ◌&&◌, cond, List, eqb, pos, ◌+ℤ◌, length, Float}
use Rattle.answer.specs.Answers.{zero-f}
use Rattle.loop_laws.specs.Loops.{fold}
use Rattle.rounding.specs.Operations.{narrowed}
use Rattle.ring.specs.Taps.{tap_of}
use Rattle.ring.specs.Places.{position_ok}
use Rattle.sinc_settings.specs.Refusals.{table_verdict}
use Rattle.sinc_phases.specs.Phases.{phase_of, blend_of, first_tap}
use Rattle.sinc_read_f32.specs.Sums.{tap_turn}

-- `sum = source.at_f32(start + k as i64).mul_add(coefficient, sum)` for every tap k, from 0.0 on.
unfoldable pub sinc_f32_at : List Float → ℕ → ℕ → List Float → ℕ → Float → Float
sinc_f32_at table taps phases xs count p =
    fold
    (tap_turn (λ k. tap_of xs count (first_tap p taps +ℤ pos k)) table (narrowed (blend_of p phases)) taps
    (phase_of p phases)) zero-f taps

-- G3, G5. Zero if a setting or the position is out of range, or if the table has another length.
abbrev pub read_of : List Float → ℕ → ℕ → List Float → ℕ → Float → Float
read_of table taps phases xs count p =
    cond (eqb (table_verdict taps phases (length table)) 0 && position_ok p)
    (sinc_f32_at table taps phases xs count p) zero-f
