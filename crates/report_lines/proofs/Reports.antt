-- The lines of a residual's report, to the byte, computed from the definitions that the contracts cite. Assumes
-- nothing.
use mathlib.Core.Path.{◌≡◌, refl}
use mathlib.Core.List.{◌++◌}
use Prim.Native.Nat.{ℕ}
use Rattle.text.specs.Text.{ascii, decimal_to}
use Rattle.residual.specs.declared.Report.{Report}
use Rattle.std.specs.Prelude.{Some, None}
use Rattle.residual.specs.Report.{empty_report}
use Rattle.level_text.specs.LevelText.{size_text, tenths_text}
use Rattle.report_lines.specs.Files.{plural_text, count_text}
use Rattle.report_lines.specs.Lines.{largest_text, sum_text, figures_text, channel_text, compared_text, left_over_text}

abbrev reported : ℕ → ℕ → ℕ → ℕ → ℕ → Report
reported number largest place high low =
    record { number = number; largest = largest; place = Some place; high = high; low = low }

differing : channel_text 1 (reported 479488 1234 1021 0 123456789) (Some 693)
    ≡ ascii "channel 1: number 479488, largest 1234, place 1021, sum 123456789, " ++
    ascii "high 0, low 123456789, level -63.2 dB\n"
unfolding ascii decimal_to size_text tenths_text largest_text sum_text figures_text channel_text
differing = refl

same : channel_text 2 (reported 1 0 0 0 0) None
    ≡ ascii "channel 2: number 1, largest 0, place 0, sum 0, high 0, low 0, level no difference\n"
unfolding ascii decimal_to largest_text sum_text figures_text channel_text
same = refl

-- A sum of more than 64 bits.
loud : channel_text 1 (reported 68719476736 16777215 5 1048575 16140901133215334400) (Some 0)
    ≡ ascii "channel 1: number 68719476736, largest 16777215, place 5, sum 19342810807991126301081600, " ++
    ascii "high 1048575, low 16140901133215334400, level +6.1 dB\n"
unfolding ascii decimal_to size_text tenths_text largest_text sum_text figures_text channel_text
loud = refl

-- Nothing was compared.
nothing : channel_text 1 empty_report None ≡ ascii "channel 1: number 0\n"
unfolding ascii decimal_to figures_text channel_text
nothing = refl

compared : compared_text 512 0 ≡ ascii "compared: first from frame 512, second from frame 0\n"
unfolding ascii decimal_to compared_text
compared = refl

left_over : left_over_text 0 1024 ≡ ascii "left over: first 0 frames, second 1024 frames\n"
unfolding ascii decimal_to plural_text count_text left_over_text
left_over = refl

one-left-over : left_over_text 1 0 ≡ ascii "left over: first 1 frame, second 0 frames\n"
unfolding ascii decimal_to plural_text count_text left_over_text
one-left-over = refl
