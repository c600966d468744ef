-- W7g. The sum of the absent taps of each reading that a quality makes, and that a call makes. Definitions only.
use Rattle.std.specs.Prelude.{ℕ, zero, suc, ◌≤◌, cond, List, Float}
use Rattle.absent_taps.specs.declared.Absent.{Absent}
use Rattle.absent_taps.specs.Absent.{absent_at, plus}
use Rattle.bank_choice.specs.declared.Choice.{Choice}
use Rattle.quality_mode.specs.declared.QualityMode.{QualityMode}
use Rattle.quality_mode.specs.declared.QualityMode.TheVariants.{Draft, Normal, Hq, Ultra}
use Rattle.quality_mode.specs.Quality.{taps_of}
use Rattle.quality_fade.specs.declared.Turn.{Turn}

-- One set is read for 0 and for 1, as in bank_read's `blended`; otherwise both sets of a blend are read.
abbrev pub each_set : ℕ → Absent → Absent
each_set zero s = s
each_set (suc zero) s = s
each_set (suc (suc k)) s = plus s s

-- The absent taps of a quality by a choice of sets: Draft reads four taps once, the others read their tables' taps in
-- each set.
abbrev pub of_quality : Choice → QualityMode → List Float → ℕ → Float → Absent
of_quality c Draft xs count p = absent_at xs count p 4
of_quality c Normal xs count p = each_set c.which (absent_at xs count p (taps_of Normal))
of_quality c Hq xs count p = each_set c.which (absent_at xs count p (taps_of Hq))
of_quality c Ultra xs count p = each_set c.which (absent_at xs count p (taps_of Ultra))

-- The absent taps of a call's turn: of both of its qualities if it is mixed, otherwise of the only one.
abbrev pub of_turn : Choice → Turn → List Float → ℕ → Float → Absent
of_turn c t xs count p =
    cond t.mixed (plus (of_quality c t.from xs count p) (of_quality c t.to xs count p))
    (of_quality c t.to xs count p)

-- No quality reads more than 128 taps in each of two sets.
pub record Few (s : Absent) : Type 0 where
  pub unwritten : s.unwritten ≤ 256
  pub ahead : s.ahead ≤ 256
  pub overwritten : s.overwritten ≤ 256
