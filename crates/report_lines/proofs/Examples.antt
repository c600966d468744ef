-- Files and lengths in time, to the byte, computed from the definitions that the contracts cite. Assumes nothing.
use mathlib.Core.Path.{◌≡◌, refl}
use mathlib.Core.Bool.{true, false}
use Rattle.text.specs.Text.{ascii, decimal_to}
use Rattle.sample_kind.specs.declared.SampleKind.TheVariants.{Pcm16, Pcm24, Float32}
use Rattle.report_lines.specs.Files.{plural_text, count_text, file_text}
use Rattle.report_lines.specs.Times.{two_text, three_text, clock_text, length_text}
use Rattle.report_lines.specs.Looked.{time_text, wrapped_text, looked_text}

one-channel : file_text Pcm24 1 48000 480000 ≡ ascii "PCM of 24 bits, 1 channel, 48000 Hz, 480000 frames"
unfolding ascii decimal_to plural_text count_text file_text
one-channel = refl

two-channels : file_text Float32 2 96000 1 ≡ ascii "float of 32 bits, 2 channels, 96000 Hz, 1 frame"
unfolding ascii decimal_to plural_text count_text file_text
two-channels = refl

looked : looked_text Pcm24 2 48000 1234567 false
    ≡ ascii "PCM of 24 bits, 2 channels, 48000 Hz, 1234567 frames, 0:00:25.720\n"
unfolding ascii decimal_to plural_text count_text file_text two_text three_text clock_text length_text time_text
    wrapped_text looked_text
looked = refl

wrapped : looked_text Pcm16 1 44100 0 true
    ≡ ascii "PCM of 16 bits, 1 channel, 44100 Hz, 0 frames, 0:00:00.000, wrapped\n"
unfolding ascii decimal_to plural_text count_text file_text two_text three_text clock_text length_text time_text
    wrapped_text looked_text
wrapped = refl

-- A rate of 0 gives no length.
no-rate : looked_text Pcm16 1 0 7 false ≡ ascii "PCM of 16 bits, 1 channel, 0 Hz, 7 frames\n"
unfolding ascii decimal_to plural_text count_text file_text two_text three_text clock_text length_text time_text
    wrapped_text looked_text
no-rate = refl

-- One frame short of an hour is rounded down.
before-the-hour : length_text 172799999 48000 ≡ ascii "0:59:59.999"
unfolding ascii decimal_to two_text three_text clock_text length_text
before-the-hour = refl

hour : length_text 172800000 48000 ≡ ascii "1:00:00.000"
unfolding ascii decimal_to two_text three_text clock_text length_text
hour = refl

-- Zeros stand in front of thousandths, seconds and minutes.
zeros : length_text 29280032 8000 ≡ ascii "1:01:00.004"
unfolding ascii decimal_to two_text three_text clock_text length_text
zeros = refl

-- The most frames that a word counts, at the lowest rate.
longest : length_text 18446744073709551615 1 ≡ ascii "5124095576030431:00:15.000"
unfolding ascii decimal_to two_text three_text clock_text length_text
longest = refl
