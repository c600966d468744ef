-- K3, K4. Where a position falls between the rows of a table, and the coefficient there: 000's lines for WindowedSinc
-- and WindowedSincF32. Definitions only.
use Rattle.std.specs.Prelude.{ℕ, ◌+◌, ◌-◌, ◌*◌, ◌/◌, min, ◌&&◌, cond, List, ℤ, pos, ◌-ℤ◌, get_or, Float}
use Rattle.std.specs.Float.{Format, nan, inf, fin, binary64}
use Rattle.std.specs.Float.Ieee.{up, down, add, sub, mul, of_int}
use Rattle.answer.specs.Answers.{zero-f}
use Rattle.integer_part.specs.Parts.{floor_of, fraction_of}
use Rattle.ring.specs.Places.{position_ok}
use Rattle.sinc_settings.specs.Ranges.{phases_ok}
use Rattle.sinc_phases.specs.declared.Phase.{Phase}

abbrev pub num : ℕ → Float
num n = of_int binary64 (pos n)

-- In 000: `(position - integer as f64) * self.phases as f64`.
abbrev pub phase_position : Float → ℕ → Float
phase_position p phases = mul binary64 (fraction_of p) (num phases)

-- In 000: `(x.floor() as usize).min(top)`. It is the whole part, at least 0 and at most top, and 0 at a NaN.
unfoldable pub cut_to : ℕ → Float → ℕ
cut_to top nan = 0
cut_to top (inf s) = cond s 0 top
cut_to top (fin s m e) = cond s 0 (min (m * up e / down e) top)

-- 000's `phase0`. It is at most phases - 1, so that a fraction of exactly 1 reads the last two rows.
abbrev pub phase_of : Float → ℕ → ℕ
phase_of p phases = cut_to (phases - 1) (phase_position p phases)

-- In 000: `phase_position - phase0 as f64`. It says how far the position lies from row phase0 towards the next, and may
-- be exactly 1.
abbrev pub blend_of : Float → ℕ → Float
blend_of p phases = sub binary64 (phase_position p phases) (num (phase_of p phases))

-- G3, G5. Both are zero if the phases or the position are out of range.
abbrev pub phase_at : Float → ℕ → Phase
phase_at p phases =
    let ok = phases_ok phases && position_ok p in
    record { phase = cond ok (phase_of p phases) 0; blend = cond ok (blend_of p phases) zero-f }

-- In 000: `integer - (self.taps as i64 / 2 - 1)`.
abbrev pub first_tap : Float → ℕ → ℤ
first_tap p taps = floor_of p -ℤ pos (taps / 2 - 1)

-- In 000: `row0[k] + blend * (row1[k] - row0[k])`, each step rounded to the table's width.
abbrev pub coefficient_at : Format → List Float → Float → ℕ → ℕ → ℕ → Float
coefficient_at f table blend taps phase k =
    let a = get_or table (phase * taps + k) nan in
    let b = get_or table ((phase + 1) * taps + k) nan in
    add f a (mul f blend (sub f b a))
