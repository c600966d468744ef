-- A channel's panel: lines and labels, measured from the left end of the foot of its bars, to which the panel is moved.
-- Definitions only.
use Rattle.std.specs.Prelude.{ℕ, ◌+◌, ◌*◌, ◌/◌, List, ◌++◌}
use Rattle.text.specs.Text.{ascii}
use Rattle.report_lines.specs.Times.{length_text}
use Rattle.picture.specs.Bars.{number_text}

-- A dotted line at every fourth bit.
unfoldable pub grid_text : List ℕ
grid_text =
    ascii "<path fill=\"none\" stroke=\"#888\" stroke-dasharray=\"2 4\" d=\"" ++
    ascii "M0 -40H1000M0 -80H1000M0 -120H1000M0 -160H1000M0 -200H1000M0 -240H1000\"/>\n"

-- The number of bits beside each line.
unfoldable pub labels_text : List ℕ
labels_text =
    ascii "<g text-anchor=\"end\">\n<text x=\"-10\" y=\"-235\">24</text>\n" ++
    (ascii "<text x=\"-10\" y=\"-195\">20</text>\n<text x=\"-10\" y=\"-155\">16</text>\n" ++
    (ascii "<text x=\"-10\" y=\"-115\">12</text>\n<text x=\"-10\" y=\"-75\">8</text>\n" ++
    ascii "<text x=\"-10\" y=\"-35\">4</text>\n<text x=\"-10\" y=\"5\">0</text>\n</g>\n"))

-- The same in decibels relative to full scale, 2^23: a number of b bits lies below 2^b, which is 6.02 × (b - 23) dB
-- above full scale.
unfoldable pub decibels_text : List ℕ
decibels_text =
    ascii "<text x=\"1010\" y=\"-252\">dB</text>\n<text x=\"1010\" y=\"-235\">+6</text>\n" ++
    (ascii "<text x=\"1010\" y=\"-195\">-18</text>\n<text x=\"1010\" y=\"-155\">-42</text>\n" ++
    (ascii "<text x=\"1010\" y=\"-115\">-66</text>\n<text x=\"1010\" y=\"-75\">-90</text>\n" ++
    ascii "<text x=\"1010\" y=\"-35\">-114</text>\n"))

-- The time at the beginning, in the middle and at the end.
unfoldable pub times_text : ℕ → ℕ → List ℕ
times_text frames rate =
    ascii "<g text-anchor=\"middle\">\n<text x=\"0\" y=\"22\">" ++
    (length_text 0 rate ++
    (ascii "</text>\n<text x=\"500\" y=\"22\">" ++
    (length_text (frames / 2) rate ++
    (ascii "</text>\n<text x=\"1000\" y=\"22\">" ++
    (length_text frames rate ++
    ascii "</text>\n</g>\n")))))

-- The beginning of a channel's panel. The foot of its bars is 300 units below that of the channel before.
unfoldable pub panel_text : ℕ → ℕ → ℕ → List ℕ
panel_text channel frames rate =
    number_text (ascii "<g transform=\"translate(90 ") (channel * 300 + 90) ++
    (number_text (ascii ")\">\n<text x=\"0\" y=\"-252\" font-weight=\"bold\">channel ") channel ++
    (ascii "</text>\n<text x=\"-10\" y=\"-252\" text-anchor=\"end\">bits</text>\n" ++
    (labels_text ++
    (decibels_text ++
    (times_text frames rate ++
    ascii "<g transform=\"scale(1 -1)\">\n")))))

-- The end of a panel. Its lines and axes come last, so that they are drawn over the bars.
unfoldable pub panel_end_text : List ℕ
panel_end_text =
    ascii "</g>\n" ++
    (grid_text ++
    (ascii "<path fill=\"none\" stroke=\"#000\" " ++
    ascii "d=\"M0 -240V6M0 0H1000M500 0V6M1000 0V6\"/>\n</g>\n"))
