-- Parts of a picture, exact to the byte, computed over the definitions that the contracts cite. Assumes nothing.
use mathlib.Core.Path.{◌≡◌, refl}
use mathlib.Core.List.{[], ◌∷◌, ◌++◌}
use lib.Ieee.{size}
use Rattle.text.specs.Text.{ascii, decimal_to}
use Rattle.utf8.specs.Utf8.{opens, continues, next_of, after}
use Rattle.report_lines.specs.Times.{two_text, three_text, clock_text, length_text}
use Rattle.picture.specs.Names.{escaped_byte, shown_byte, escaped_as}
use Rattle.picture.specs.Bars.{bits_of, number_text, edge, bar_text, stretch_text}
use Rattle.picture.specs.Page.{title_text}
use Rattle.picture.specs.Panel.{times_text}

-- The least and the greatest that a stretch can have.
none : bits_of 0 ≡ 0
unfolding size
none = refl

one_bit : bits_of 1 ≡ 1
unfolding size
one_bit = refl

below-full-scale : bits_of 8388607 ≡ 23
unfolding size
below-full-scale = refl

full-scale : bits_of 8388608 ≡ 24
unfolding size
full-scale = refl

largest-difference : bits_of 16777215 ≡ 24
unfolding size
largest-difference = refl

-- The second of four stretches, with samples of up to 10 bits and no difference.
quarter : stretch_text 1 4 1000 0
    ≡ ascii "<rect fill=\"#c4c4c4\" x=\"250\" width=\"250\" height=\"100\"/>" ++
    ascii "<rect fill=\"#000\" x=\"250\" width=\"250\" height=\"0\"/>\n"
unfolding ascii decimal_to size number_text edge bar_text stretch_text
quarter = refl

-- A third of 1000 units is not whole, so the last of three stretches is a unit wider.
third : stretch_text 2 3 1 1
    ≡ ascii "<rect fill=\"#c4c4c4\" x=\"666\" width=\"334\" height=\"10\"/>" ++
    ascii "<rect fill=\"#000\" x=\"666\" width=\"334\" height=\"10\"/>\n"
unfolding ascii decimal_to size number_text edge bar_text stretch_text
third = refl

-- A name with characters that XML reserves, and with a line feed.
title : title_text (ascii "a&b.wav") (ascii "<c>\n.wav")
    ≡ ascii "<text x=\"90\" y=\"30\" font-size=\"18\">How far a&amp;b.wav and &lt;c&gt;?.wav differ</text>\n"
unfolding ascii escaped_byte shown_byte escaped_as title_text opens continues next_of after
title = refl

-- A name in UTF-8 (`é`) is kept. One in Latin-1 is not UTF-8, so its byte becomes a question mark.
accents : title_text (99 ∷ (195 ∷ (169 ∷ []))) (99 ∷ (233 ∷ []))
    ≡ ascii "<text x=\"90\" y=\"30\" font-size=\"18\">How far c" ++
    ((195 ∷ (169 ∷ [])) ++ ascii " and c? differ</text>\n")
unfolding ascii escaped_byte shown_byte escaped_as title_text opens continues next_of after
accents = refl

-- 25.720 seconds at 48000 Hz.
times : times_text 1234567 48000
    ≡ ascii "<g text-anchor=\"middle\">\n<text x=\"0\" y=\"22\">0:00:00.000</text>\n" ++
    (ascii "<text x=\"500\" y=\"22\">0:00:12.860</text>\n<text x=\"1000\" y=\"22\">0:00:25.720</text>\n" ++
    ascii "</g>\n")
unfolding ascii decimal_to two_text three_text clock_text length_text times_text
times = refl
