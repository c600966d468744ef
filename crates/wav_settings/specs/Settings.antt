-- W2. The rate, the channels and the number of samples that a file to be written may have, whatever its kind.
-- Definitions only.
use Rattle.std.specs.Prelude.{ℕ, ◌%◌, Bool, true, cond, ◌&&◌, ◌||◌, eqb, leb}

-- Every rate that a caller passes must lie from 8000 to 768000.
abbrev pub rate_ok : ℕ → Bool
rate_ok rate = leb 8000 rate && leb rate 768000

abbrev pub one_or_two : ℕ → Bool
one_or_two channels = eqb channels 1 || eqb channels 2

-- Whether the samples are whole frames. This is tested only for one or two channels, because 13 refuses any other
-- number of channels.
abbrev pub whole_frames : ℕ → ℕ → Bool
whole_frames channels count = cond (one_or_two channels) (eqb (count % channels) 0) true
