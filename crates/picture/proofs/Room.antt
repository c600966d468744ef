-- How many bytes the parts of a picture can have, so that a program knows how large a slice never cuts one off: the
-- head has at most 900 bytes and five for each byte of the names, a panel's beginning 1200, a stretch 210, and the ends
-- 250. This holds because a word has at most 20 digits. Assumes nothing.
use mathlib.Core.Bool.{Bool}
use mathlib.Core.List.{List, [], ◌∷◌}
use Prim.Native.Nat.{ℕ, ◌+◌, ◌-◌, ◌*◌, ◌/◌, ◌≤◌}
use native.Mathlib.Omega.{arith}
use lib.Dec.{eqb, ltb}
use lib.ListN.{length, length-append}
use Rattle.text.specs.Text.{ascii}
use Rattle.text.proofs.Digits.{few-digits}
use Rattle.utf8.specs.Utf8.{is_utf8}
use Rattle.report_lines.proofs.Room.{either, short-length}
use Rattle.picture.specs.Names.{escaped_byte, shown_byte, escaped_as, escaped}
use Rattle.picture.specs.Bars.{bits_of, number_text, edge, bar_text, stretch_text}
use Rattle.picture.specs.Page.{legend_text, scales_text, title_text, size_text, head_text, tail_text}
use Rattle.picture.specs.Panel.{grid_text, labels_text, decibels_text, times_text, panel_text, panel_end_text}

short-number : (before : List ℕ) (n : ℕ) → length (number_text before n) ≤ length before + 20
unfolding number_text
short-number before n = simp length-append (omega (arith, few-digits 20 n))

short-byte : (b : ℕ) → length (escaped_byte b) ≤ 5
unfolding ascii escaped_byte
short-byte b =
    either (eqb b 38) (ascii "&amp;") _ 5 (omega arith)
    (either (eqb b 60) (ascii "&lt;") _ 5 (omega arith)
    (either (eqb b 62) (ascii "&gt;") _ 5 (omega arith)
    (either (ltb b 32) (ascii "?") (b ∷ []) 5 (omega arith) (omega arith))))

short-bytes : (readable : Bool) (name : List ℕ) → length (escaped_as readable name) ≤ 5 * length name
unfolding escaped_as
short-bytes readable [] = omega arith
short-bytes readable (b ∷ bs) =
    simp length-append (omega (arith, short-byte (shown_byte readable b), short-bytes readable bs))

short-name : (name : List ℕ) → length (escaped name) ≤ 5 * length name
short-name name = short-bytes (is_utf8 name) name

short-bar : (opening : List ℕ) (k n bits : ℕ) → length (bar_text opening k n bits) ≤ length opening + 82
unfolding ascii bar_text
short-bar opening k n bits =
    simp length-append
    (omega (
      arith,
      short-number opening (edge k n),
      short-number (ascii "\" width=\"") (edge (k + 1) n - edge k n),
      short-number (ascii "\" height=\"") (bits * 10),
    ))

pub short-stretch : (k n sample difference : ℕ) → length (stretch_text k n sample difference) ≤ 210
unfolding ascii stretch_text
short-stretch k n sample difference =
    simp length-append
    (omega (
      arith,
      short-bar (ascii "<rect fill=\"#c4c4c4\" x=\"") k n (bits_of sample),
      short-bar (ascii "<rect fill=\"#000\" x=\"") k n (bits_of difference),
    ))

short-title : (first second : List ℕ) → length (title_text first second) ≤ 80 + 5 * (length first + length second)
unfolding ascii title_text
short-title first second = simp length-append (omega (arith, short-name first, short-name second))

short-legend : length legend_text ≤ 325
unfolding ascii legend_text
short-legend = omega arith

short-scales : length scales_text ≤ 280
unfolding ascii scales_text
short-scales = omega arith

short-size : (channels : ℕ) → length (size_text channels) ≤ 125
unfolding ascii size_text
short-size channels =
    let svg = ascii "<svg xmlns=\"http://www.w3.org/2000/svg\" viewBox=\"0 0 1160 " in
    let size = ascii "\" width=\"1160\" height=\"" in
    simp length-append
    (omega (arith, short-number svg (channels * 300 + 130), short-number size (channels * 300 + 130)))

pub short-head : (channels : ℕ) (first second : List ℕ)
    → length (head_text channels first second) ≤ 900 + 5 * (length first + length second)
unfolding ascii head_text
short-head channels first second =
    simp length-append
    (omega (arith, short-size channels, short-title first second, short-legend, short-scales))

short-times : (frames rate : ℕ) → length (times_text frames rate) ≤ 400
unfolding ascii times_text
short-times frames rate =
    simp length-append
    (omega (arith, short-length 0 rate, short-length (frames / 2) rate, short-length frames rate))

short-grid : length grid_text ≤ 150
unfolding ascii grid_text
short-grid = omega arith

short-labels : length labels_text ≤ 260
unfolding ascii labels_text
short-labels = omega arith

short-decibels : length decibels_text ≤ 270
unfolding ascii decibels_text
short-decibels = omega arith

pub short-panel : (channel frames rate : ℕ) → length (panel_text channel frames rate) ≤ 1200
unfolding ascii panel_text
short-panel channel frames rate =
    let channel-word = ascii ")\">\n<text x=\"0\" y=\"-252\" font-weight=\"bold\">channel " in
    simp length-append
    (omega (
      arith,
      short-number (ascii "<g transform=\"translate(90 ") (channel * 300 + 90),
      short-number channel-word channel,
      short-labels,
      short-decibels,
      short-times frames rate,
    ))

pub short-panel-end : length panel_end_text ≤ 250
unfolding ascii panel_end_text
short-panel-end = simp length-append (omega (arith, short-grid))

pub short-tail : length tail_text ≤ 100
unfolding ascii tail_text
short-tail = omega arith
