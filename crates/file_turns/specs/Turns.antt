-- W10c, W12. The header of a recording in any layout, read step by step: an AIFF's as in W12, every other as in W10.
-- Definitions only.
use Rattle.std.specs.Prelude.{ℕ, cond, List, take}
use Rattle.high_first.specs.High.{big_number}
use Rattle.riff_chunks.specs.declared.Walked.{Walked}
use Rattle.riff_chunks.specs.declared.Walking.{Walking}
use Rattle.wav_format.specs.Format.{number}
use Rattle.wav.specs.declared.Found.{Found}
use Rattle.wav.specs.declared.Found.TheVariants as found
use Rattle.wav.specs.declared.Wave.{Wave}
use Rattle.wav_turns.specs.Turns as wav
use Rattle.wav_opening.specs.declared.Begun.{Begun}
use Rattle.wav_opening.specs.Opening.{begun_of}
use Rattle.long_turns.specs.Turns as long
use Rattle.aiff.specs.declared.Found as sound
use Rattle.aiff.specs.declared.Found.TheVariants as sounds
use Rattle.aiff.specs.declared.Sound.{Sound}
use Rattle.aiff_turns.specs.Turns as aiff
use Rattle.file_layout.specs.declared.Layout.{Layout}
use Rattle.file_layout.specs.Layouts.{is_aiff}
use Rattle.file_turns.specs.declared.Told.{Told}

-- The beginning of the walk, from the first bytes and the length of the file.
abbrev pub started_as : List ℕ → ℕ → Begun
started_as b size =
    record { refusal = (aiff.started_of (take 12 b) size).refusal; end = (aiff.started_of (take 12 b) size).end }

abbrev pub begun_in : Layout → List ℕ → ℕ → Begun
begun_in layout b size = cond (is_aiff layout) (started_as b size) (begun_of b size)

-- One more chunk, from its first 8 bytes.
abbrev pub turned_in : Layout → List ℕ → Walking → ℕ → List ℕ → Walking
turned_in layout b w end head = cond (is_aiff layout) (aiff.turned_by w end head) (long.turned_by b w end head)

-- The answer. The part of an AIFF is described in the same way as that of a WAV.
abbrev pub wave_of : Sound → Wave
wave_of f =
    record { kind = f.kind; channels = f.channels; rate = f.rate; start = f.start; length = f.length }

abbrev pub as_wave : sound.Found → Found
as_wave (sounds.Sound f) = found.Wave (wave_of f)
as_wave (sounds.Refused n) = found.Refused n

abbrev pub finished_in : Layout → Walked → ℕ → List ℕ → List ℕ → Found
finished_in layout w end format samples =
    cond (is_aiff layout) (as_wave (aiff.finished_of w end format samples)) (wav.finished_of w format)

-- What a message about a refusal needs. A `COMM` has no tag and no frame width, so these are 0.
abbrev pub comm_told : List ℕ → Told
comm_told c = record { tag = 0; channels = big_number 2 c 0; block = 0; bits = big_number 2 c 6 }

abbrev pub fmt_told : List ℕ → Told
fmt_told f = record { tag = number 2 f 0; channels = number 2 f 2; block = number 2 f 12; bits = number 2 f 14 }

abbrev pub told_by : Layout → List ℕ → Told
told_by layout b = cond (is_aiff layout) (comm_told b) (fmt_told b)
