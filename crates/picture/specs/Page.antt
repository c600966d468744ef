-- The head and the tail of a picture. Definitions only.
use Rattle.std.specs.Prelude.{ℕ, ◌+◌, ◌*◌, List, ◌++◌}
use Rattle.text.specs.Text.{ascii}
use Rattle.picture.specs.Names.{escaped}
use Rattle.picture.specs.Bars.{number_text}

-- What the light and the dark shade mean.
unfoldable pub legend_text : List ℕ
legend_text =
    ascii "<rect x=\"90\" y=\"46\" width=\"14\" height=\"14\" fill=\"#c4c4c4\"/>\n" ++
    (ascii "<text x=\"110\" y=\"58\">light: the largest sample of a stretch, in either file</text>\n" ++
    (ascii "<rect x=\"480\" y=\"46\" width=\"14\" height=\"14\" fill=\"#000\"/>\n" ++
    ascii "<text x=\"500\" y=\"58\">dark, in front: the largest difference; where it meets light they part</text>\n"))

-- What the two directions of the picture mean.
unfoldable pub scales_text : List ℕ
scales_text =
    ascii "<text x=\"90\" y=\"80\">Upwards: how many bits it has, 0 for silence or no difference; " ++
    (ascii "on the right the same in decibels beside full scale.</text>\n" ++
    (ascii "<text x=\"90\" y=\"98\">From left to right: time since the first frame compared, " ++
    ascii "in hours:minutes:seconds.</text>\n"))

-- The title names the two files.
unfoldable pub title_text : List ℕ → List ℕ → List ℕ
title_text first second =
    ascii "<text x=\"90\" y=\"30\" font-size=\"18\">How far " ++
    (escaped first ++
    (ascii " and " ++
    (escaped second ++
    ascii " differ</text>\n")))

-- The size of the drawing, as a view box, so that a page may show it larger or smaller.
unfoldable pub size_text : ℕ → List ℕ
size_text channels =
    number_text (ascii "<svg xmlns=\"http://www.w3.org/2000/svg\" viewBox=\"0 0 1160 ") (channels * 300 + 130) ++
    number_text (ascii "\" width=\"1160\" height=\"") (channels * 300 + 130)

-- The beginning of a picture with so many channels.
unfoldable pub head_text : ℕ → List ℕ → List ℕ → List ℕ
head_text channels first second =
    size_text channels ++
    (ascii "\" font-family=\"sans-serif\" font-size=\"14\">\n" ++
    (ascii "<rect width=\"100%\" height=\"100%\" fill=\"#fff\"/>\n" ++
    (title_text first second ++
    (legend_text ++
    scales_text))))

unfoldable pub tail_text : List ℕ
tail_text =
    ascii "</svg>\n"
