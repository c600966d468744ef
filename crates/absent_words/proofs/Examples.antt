-- The lines to the byte, computed from the definitions that the contract cites. Assumes nothing.
use mathlib.Core.Path.{◌≡◌, refl}
use mathlib.Core.List.{◌++◌}
use Prim.Native.Nat.{ℕ}
use Rattle.text.specs.Text.{ascii, decimal_to}
use Rattle.report_lines.specs.Files.{plural_text, count_text}
use Rattle.absent_report.specs.declared.AbsentReport.{AbsentReport}
use Rattle.absent_report.specs.Samples.{no_sample}
use Rattle.absent_words.specs.Words.{kinds_text, absent_text, line_text, pair_text, lines_text}

-- A file that begins before its first sample: n samples lack a tap, the last of them at the frame before.
abbrev start : ℕ → ℕ → AbsentReport
start n last = record { samples = n; unwritten = n; ahead = 0; overwritten = 0; last = last }

one-channel : lines_text 1 (start 527 526) no_sample
    ≡ ascii "imitate: 527 samples read absent taps, last at frame 526: " ++
    ascii "527 before the start, 0 ahead of the newest, 0 overwritten\n"
unfolding ascii decimal_to plural_text count_text kinds_text absent_text line_text lines_text
one-channel = refl

both-alike : lines_text 2 (start 1 0) (start 1 0)
    ≡ ascii "imitate: each channel: 1 sample read absent taps, last at frame 0: " ++
    ascii "1 before the start, 0 ahead of the newest, 0 overwritten\n"
unfolding ascii decimal_to plural_text count_text kinds_text absent_text line_text pair_text lines_text
both-alike = refl

each-its-own : lines_text 2 (start 527 526) (start 526 525)
    ≡ (ascii "imitate: channel 1: 527 samples read absent taps, last at frame 526: " ++
    ascii "527 before the start, 0 ahead of the newest, 0 overwritten\n") ++
    (ascii "imitate: channel 2: 526 samples read absent taps, last at frame 525: " ++
    ascii "526 before the start, 0 ahead of the newest, 0 overwritten\n")
unfolding ascii decimal_to plural_text count_text kinds_text absent_text line_text pair_text lines_text
each-its-own = refl

none : lines_text 1 no_sample no_sample ≡ ascii "imitate: no sample read an absent tap\n"
unfolding ascii absent_text line_text lines_text
none = refl
