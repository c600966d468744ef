-- How many bytes the lines of a report can have: the line of a channel at most 320, the others at most 100. Assumes
-- nothing.
use mathlib.Core.List.{◌++◌}
use Prim.Native.Nat.{ℕ, ◌-◌, ◌/◌, ◌%◌, ◌≤◌}
use native.Mathlib.Omega.{arith}
use lib.Dec.{eqb, ltb}
use lib.ListN.{length, length-append}
use Rattle.text.specs.Text.{ascii}
use Rattle.text.proofs.Digits.{few-digits}
use Rattle.decimals.specs.Writing.{two_words}
use Rattle.residual.specs.declared.Report.{Report}
use Rattle.std.specs.Prelude.{Option, Some, None}
use Rattle.level_text.specs.LevelText.{size_text, tenths_text, level_text}
use Rattle.report_lines.specs.Lines.{place_text, largest_text, sum_text, figures_text, channel_text}
use Rattle.report_lines.specs.Lines.{compared_text, left_over_text}
use Rattle.report_lines.proofs.Room.{either, short-count}

short-place : (p : Option ℕ) → length (place_text p) ≤ 20
unfolding ascii
short-place None = omega arith
short-place (Some k) = few-digits 20 k

short-size : (t : ℕ) → length (size_text t) ≤ 44
unfolding ascii size_text
short-size t = simp length-append (omega (arith, few-digits 20 (t / 10), few-digits 20 (t % 10)))

short-tenths : (j : ℕ) → length (tenths_text j) ≤ 45
unfolding ascii tenths_text
short-tenths j =
    let above = ascii "+" ++ size_text (61 - j) in
    let below = ascii "-" ++ size_text (j - 61) in
    either (ltb j 61) above _ 45 (omega (arith, short-size (61 - j)))
    (either (ltb 61 j) below (size_text 0) 45 (omega (arith, short-size (j - 61))) (omega (arith, short-size 0)))

short-level : (level : Option ℕ) → length (level_text level) ≤ 45
unfolding ascii
short-level None = omega arith
short-level (Some j) = short-tenths j

short-largest : (largest : ℕ) (p : Option ℕ) → length (largest_text largest p) ≤ 58
unfolding ascii largest_text
short-largest largest p = simp length-append (omega (arith, few-digits 20 largest, short-place p))

short-sum : (high low : ℕ) → length (sum_text high low) ≤ 92
unfolding ascii sum_text
short-sum high low =
    simp length-append
    (omega (arith, few-digits 39 (two_words high low), few-digits 20 high, few-digits 20 low))

short-figures : (r : Report) (level : Option ℕ) → length (figures_text r level) ≤ 209
unfolding ascii figures_text
short-figures r level =
    either (eqb r.number 0) (ascii "") _ 209 (omega arith)
    (simp length-append
    (omega (arith, short-largest r.largest r.place, short-sum r.high r.low, short-level level)))

pub short-channel : (channel : ℕ) (r : Report) (level : Option ℕ) → length (channel_text channel r level) ≤ 320
unfolding ascii channel_text
short-channel channel r level =
    simp length-append
    (omega (arith, few-digits 20 channel, few-digits 20 r.number, short-figures r level))

pub short-compared : (first second : ℕ) → length (compared_text first second) ≤ 100
unfolding ascii compared_text
short-compared first second = simp length-append (omega (arith, few-digits 20 first, few-digits 20 second))

pub short-left-over : (first second : ℕ) → length (left_over_text first second) ≤ 100
unfolding ascii left_over_text
short-left-over first second =
    simp length-append (omega (arith, short-count first (ascii "frame"), short-count second (ascii "frame")))
