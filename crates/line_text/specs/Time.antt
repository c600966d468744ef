-- How long some frames last. Definitions only.
use Rattle.std.specs.Prelude.{ℕ, ◌*◌, ◌/◌, ◌%◌, cond, List, ◌++◌, eqb}
use Rattle.text.specs.Text.{ascii, decimal}
use Rattle.line_text.specs.Columns.{places_in}

-- The form is ss.ttt.
abbrev pub seconds_of : ℕ → ℕ → List ℕ
seconds_of seconds thousandths = places_in 2 seconds ++ (ascii "." ++ places_in 3 thousandths)

-- The form is h:mm:ss.ttt.
abbrev pub clock_of : ℕ → ℕ → List ℕ
clock_of seconds thousandths =
    decimal (seconds / 3600)
    ++ (ascii ":" ++ (places_in 2 (seconds / 60 % 60) ++ (ascii ":" ++ seconds_of (seconds % 60) thousandths)))

-- The time in thousandths of a second, rounded down. A rate of 0 gives no time.
abbrev pub time_of : ℕ → ℕ → List ℕ
time_of frames rate =
    cond (eqb rate 0) (ascii "?") (clock_of (frames * 1000 / rate / 1000) (frames * 1000 / rate % 1000))
