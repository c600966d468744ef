-- K4. What a table of f64 reads at a position: 000's sum over the taps in 000's order, each step rounded. Then the
-- refusals. Definitions only.
use Rattle.std.specs.Prelude.{ℕ, ◌&&◌, cond, List, [], ◌∷◌, eqb, pos, ◌+ℤ◌, length, Float}
use Rattle.answer.specs.Answers.{zero-f}
use Rattle.refusal_order.specs.Order.{◌unless◌, first_of}
use Rattle.loop_laws.specs.Loops.{fold}
use Rattle.ring.specs.Taps.{tap_of}
use Rattle.ring.specs.Places.{position_ok}
use Rattle.sinc_settings.specs.Ranges.{taps_ok, phases_ok}
use Rattle.sinc_settings.specs.Refusals.{table_length, table_verdict}
use Rattle.sinc_phases.specs.Phases.{phase_of, blend_of, first_tap}
use Rattle.sinc_read.specs.Sums.{tap_turn}

-- In 000: `sum += source.at(start + k as i64) * coefficient` for every tap k, from 0.0 on.
unfoldable pub sinc_at : List Float → ℕ → ℕ → List Float → ℕ → Float → Float
sinc_at table taps phases xs count p =
    fold
    (tap_turn (λ k. tap_of xs count (first_tap p taps +ℤ pos k)) table (blend_of p phases) taps (phase_of p phases))
    zero-f
    taps

-- G3, G5. The reading is zero if a setting or the position is out of range, or the table has another length.
abbrev pub read_of : List Float → ℕ → ℕ → List Float → ℕ → Float → Float
read_of table taps phases xs count p =
    cond (eqb (table_verdict taps phases (length table)) 0 && position_ok p) (sinc_at table taps phases xs count p)
    zero-f

-- N1, N2. 1 for a setting or a position out of its range, 2 for a table of another length, 0 for none.
abbrev pub sample_verdict : ℕ → ℕ → ℕ → Float → ℕ
sample_verdict taps phases len p =
    first_of
    (1 unless (taps_ok taps && phases_ok phases && position_ok p)
    ∷ 2 unless eqb len (table_length taps phases)
    ∷ [])
