-- How many bytes the lines can have: at most 440, so that a slice of 512 holds them whole. Assumes nothing.
use mathlib.Core.List.{List}
use Prim.Native.Nat.{ℕ, ◌+◌, ◌≤◌}
use native.Mathlib.Omega.{arith}
use lib.Dec.{eqb}
use lib.ListN.{length, length-append}
use Rattle.text.specs.Text.{ascii}
use Rattle.text.proofs.Digits.{few-digits}
use Rattle.report_lines.proofs.Room.{either, short-count}
use Rattle.absent_report.specs.declared.AbsentReport.{AbsentReport}
use Rattle.absent_words.specs.Words.{kinds_text, absent_text, line_text, same_of, pair_text, lines_text}

short-kinds : (r : AbsentReport) → length (kinds_text r) ≤ 114
unfolding ascii kinds_text
short-kinds r =
    simp length-append
    (omega (arith, few-digits 20 r.unwritten, few-digits 20 r.ahead, few-digits 20 r.overwritten))

short-absent : (r : AbsentReport) → length (absent_text r) ≤ 197
unfolding ascii absent_text
short-absent r =
    either (eqb r.samples 0) (ascii "no sample read an absent tap\n") _ 197 (omega arith)
    (simp length-append
    (omega (arith, short-count r.samples (ascii "sample"), few-digits 20 r.last, short-kinds r)))

short-line : (whose : List ℕ) (r : AbsentReport) → length (line_text whose r) ≤ 206 + length whose
unfolding ascii line_text
short-line whose r = simp length-append (omega (arith, short-absent r))

short-pair : (one two : AbsentReport) → length (pair_text one two) ≤ 440
unfolding ascii pair_text
short-pair one two =
    either (same_of one two) (line_text (ascii "each channel: ") one) _ 440
    (omega (arith, short-line (ascii "each channel: ") one))
    (simp length-append
    (omega (arith, short-line (ascii "channel 1: ") one, short-line (ascii "channel 2: ") two)))

pub short-lines : (channels : ℕ) (one two : AbsentReport) → length (lines_text channels one two) ≤ 440
unfolding ascii lines_text
short-lines channels one two =
    either (eqb channels 2) (pair_text one two) (line_text (ascii "") one) 440 (short-pair one two)
    (omega (arith, short-line (ascii "") one))
