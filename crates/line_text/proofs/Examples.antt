-- Parts of lines, computed from the definitions alone, so that a wrong definition shows here. Assumes nothing.
use mathlib.Core.Path.{◌≡◌, refl}
use Rattle.text.specs.Text.{ascii, decimal_to}
use Rattle.line_text.specs.Columns.{blanks, right_of, last_digits, places_in, tenths_of}
use Rattle.line_text.specs.Time.{time_of}

right : right_of 512 5 ≡ ascii "  512"
unfolding ascii decimal_to blanks
right = refl

too_wide : right_of 44100 3 ≡ ascii "44100"
unfolding ascii decimal_to blanks
too_wide = refl

zeros : places_in 4 70 ≡ ascii "0070"
unfolding ascii last_digits
zeros = refl

last-places : places_in 2 1234 ≡ ascii "34"
unfolding ascii last_digits
last-places = refl

tenths : tenths_of 723 ≡ ascii "72.3"
unfolding ascii decimal_to last_digits
tenths = refl

a_tenth : tenths_of 1 ≡ ascii "0.1"
unfolding ascii decimal_to last_digits
a_tenth = refl

-- An hour, two minutes and three and a half seconds at 48000 Hz.
hour : time_of 178728000 48000 ≡ ascii "1:02:03.500"
unfolding ascii decimal_to last_digits
hour = refl

-- One frame at 44100 Hz is less than a thousandth.
one-frame : time_of 1 44100 ≡ ascii "0:00:00.000"
unfolding ascii decimal_to last_digits
one-frame = refl

no-rate : time_of 48000 0 ≡ ascii "?"
unfolding ascii
no-rate = refl

-- The longest time that 64 bits can count.
longest : time_of 18446744073709551615 1 ≡ ascii "5124095576030431:00:15.000"
unfolding ascii decimal_to last_digits
longest = refl
