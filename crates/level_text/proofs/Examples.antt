-- Levels as texts, on both sides of 0.0 dB and at both ends of the range. Assumes nothing.
use mathlib.Core.Path.{◌≡◌, refl}
use Rattle.text.specs.Text.{ascii, decimal_to}
use Rattle.std.specs.Prelude.{Some, None}
use Rattle.level_text.specs.LevelText.{size_text, tenths_text, level_text}

same : level_text None ≡ ascii "no difference"
same = refl

zero-level : level_text (Some 61) ≡ ascii "0.0 dB"
unfolding ascii decimal_to size_text tenths_text
zero-level = refl

tenth-above : level_text (Some 60) ≡ ascii "+0.1 dB"
unfolding ascii decimal_to size_text tenths_text
tenth-above = refl

tenth-below : level_text (Some 62) ≡ ascii "-0.1 dB"
unfolding ascii decimal_to size_text tenths_text
tenth-below = refl

usual : level_text (Some 693) ≡ ascii "-63.2 dB"
unfolding ascii decimal_to size_text tenths_text
usual = refl

highest : level_text (Some 0) ≡ ascii "+6.1 dB"
unfolding ascii decimal_to size_text tenths_text
highest = refl

lowest : level_text (Some 2529) ≡ ascii "-246.8 dB"
unfolding ascii decimal_to size_text tenths_text
lowest = refl
