-- How far a command is. Definitions only.
use Rattle.std.specs.Prelude.{ℕ, ◌*◌, ◌/◌, min, cond, List, ◌++◌, eqb}
use Rattle.text.specs.Text.{ascii, decimal}
use Rattle.sizes.specs.Sizes.{most}

-- The number of hundredths done, rounded down; 0 if there is nothing to do.
unfoldable pub hundredths_of : ℕ → ℕ → ℕ
hundredths_of done all = cond (eqb all 0) 0 (min (done * 100) most / all)

-- The line ends with a carriage return, so that the next one is written over it.
unfoldable pub percent_text : List ℕ → ℕ → List ℕ
percent_text command n = command ++ (ascii ": " ++ (decimal n ++ ascii " %   \r"))

abbrev pub progress_text : List ℕ → ℕ → ℕ → List ℕ
progress_text command done all = percent_text command (hundredths_of done all)

-- The spaces that are written over the last line.
abbrev pub blank_text : List ℕ
blank_text = ascii "                              \r"
