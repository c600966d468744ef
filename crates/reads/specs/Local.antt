-- W7d. What it means that a reading depends on the taps at certain positions, and on nothing else of its ring and
-- count. Definitions only.
use Rattle.std.specs.Prelude.{◌≡◌, List, ℕ, ◌<◌, ℤ, pos, ◌+ℤ◌, Float}
use Rattle.ring.specs.Taps.{tap_of}
use Rattle.absent_taps.specs.Absent.{first_tap}
use Rattle.variable_delay.specs.Reader.{Reading}
use Rattle.quality_mode.specs.declared.QualityMode.{QualityMode}
use Rattle.quality_mode.specs.declared.QualityMode.TheVariants.{Draft, Normal, Hq, Ultra}
use Rattle.quality_mode.specs.Quality.{taps_of}

-- Two rings, each with its count, whose n taps from number z on have the same values.
abbrev pub Alike : List Float → ℕ → List Float → ℕ → ℤ → ℕ → Type 0
Alike xs a ys b z n = (k : ℕ) → k < n → tap_of xs a (z +ℤ pos k) ≡ tap_of ys b (z +ℤ pos k)

-- A reading of n taps: if the taps counted at a position (`absent_at`) are alike, it gives the same value.
abbrev pub Local : ℕ → Reading → Type 0
Local n read =
    (xs ys : List Float) (a b : ℕ) (p : Float) → Alike xs a ys b (first_tap p n) n → read xs a p ≡ read ys b p

-- The number of taps that a quality reads: Draft reads the cubic's four, the others those of their tables.
abbrev pub read_by : QualityMode → ℕ
read_by Draft = 4
read_by Normal = taps_of Normal
read_by Hq = taps_of Hq
read_by Ultra = taps_of Ultra
