-- W1. The body of a `fmt ` by the places of its fields, and the kinds that are listed. The rate is handed out as it
-- stands; neither it nor the byte rate is tested. Definitions only.
use Rattle.std.specs.Prelude.{ℕ, ◌*◌, ◌/◌, ◌%◌, Bool, cond, ◌&&◌, ◌||◌, List, eqb, leb, ltb, take, drop}
use Rattle.word_bytes.specs.Bytes.{bytes_value}
use Rattle.sample_kind.specs.declared.SampleKind.{SampleKind}
use Rattle.sample_kind.specs.declared.SampleKind.TheVariants.{Pcm16, Pcm24, Float32}

-- The number that k bytes at a place are.
abbrev pub number : ℕ → List ℕ → ℕ → ℕ
number k b at = bytes_value (take k (drop at b))

abbrev pub tag : List ℕ → ℕ
tag f = number 2 f 0

abbrev pub channels : List ℕ → ℕ
channels f = number 2 f 2

abbrev pub rate : List ℕ → ℕ
rate f = number 4 f 4

abbrev pub block : List ℕ → ℕ
block f = number 2 f 12

abbrev pub bits : List ℕ → ℕ
bits f = number 2 f 14

-- Tag 1 is PCM, of 16 or 24 bits; tag 3 is IEEE float, of 32.
abbrev pub listed : ℕ → ℕ → Bool
listed t n = (eqb t 1 && (eqb n 16 || eqb n 24)) || (eqb t 3 && eqb n 32)

abbrev pub kind_of : ℕ → ℕ → SampleKind
kind_of t n = cond (eqb t 3) Float32 (cond (eqb n 16) Pcm16 Pcm24)

-- The `data` has whole frames.
abbrev pub whole_frames : ℕ → ℕ → Bool
whole_frames size frame = ltb 0 frame && eqb (size % frame) 0

-- The test for 13: the `fmt ` has at least 16 bytes, the kind is listed, there are one or two channels, the block is
-- channels × bytes, and the `data` has whole frames. The tag t is the one that the reading finds.
unfoldable pub format_ok : ℕ → List ℕ → ℕ → ℕ → Bool
format_ok t f size samples =
    leb 16 size && (listed t (bits f) && ((eqb (channels f) 1 || eqb (channels f) 2)
    && (eqb (block f) (channels f * (bits f / 8)) && whole_frames samples (block f))))
