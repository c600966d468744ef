-- W1. A RIFF WAVE file: by which number it is refused, or where its samples stand and what they are. How the tag is
-- read from the body of a `fmt ` and its size is a parameter. Definitions only.
use Rattle.std.specs.Prelude.{ℕ, zero, suc, ◌+◌, Bool, not, ◌&&◌, List, [], ◌∷◌, eqb, leb, length, take, drop}
use Rattle.refusal_order.specs.Order.{Test, ◌unless◌, first_of}
use Rattle.riff_chunks.specs.declared.Walked.{Walked}
use Rattle.riff_chunks.specs.Walk.{walk_of}
use Rattle.wav.specs.declared.Found.{Found}
use Rattle.wav.specs.declared.Found.TheVariants as found
use Rattle.wav.specs.declared.Told.{Told}
use Rattle.wav.specs.declared.Wave.{Wave}
use Rattle.wav_format.specs.Format.{number, tag, channels, rate, block, bits, kind_of, format_ok}
use Rattle.wav_format.specs.Tags.{plain_tag, wrapped_tag}

-- The four bytes of `RIFF` and of `WAVE`, as numbers with the low byte first.
abbrev pub riff_id : ℕ
riff_id = 0x4646_4952

abbrev pub wave_id : ℕ
wave_id = 0x4556_4157

-- The RIFF size counts from place 8 on and gives the end of the walk.
abbrev pub riff_size : List ℕ → ℕ
riff_size b = number 4 b 4

abbrev pub walk_in : List ℕ → Walked
walk_in b = walk_of b (8 + riff_size b)

-- A part of a file, or as much of it as the file has.
abbrev pub part_of : List ℕ → ℕ → ℕ → List ℕ
part_of b start size = take size (drop start b)

-- The body of the first `fmt `.
abbrev pub fmt_of : List ℕ → List ℕ
fmt_of b = part_of b (walk_in b).format.body (walk_in b).format.size

-- The test for 9: the file is RIFF WAVE, with a RIFF size of at least 4.
unfoldable pub is_wave : List ℕ → Bool
is_wave b = leb 12 (length b) && (eqb (number 4 b 0) riff_id && (eqb (number 4 b 8) wave_id && leb 4 (riff_size b)))

-- The test for 10: the RIFF does not run past the file, and no walked chunk runs past the RIFF.
abbrev pub within : List ℕ → Bool
within b = leb (8 + riff_size b) (length b) && not (walk_in b).overruns

-- The tag that the reading takes.
abbrev pub tag_in : (List ℕ → ℕ → ℕ) → List ℕ → ℕ
tag_in tag_of b = tag_of (fmt_of b) (walk_in b).format.size

-- The refusals 9 to 13, in that order, from the first two tests, the tag, the body of the `fmt ` and the walk. 11 means
-- no `fmt ` up to the first `data`, and 12 no `data`.
abbrev pub tests_of : Bool → Bool → ℕ → List ℕ → Walked → List Test
tests_of wave inside t f w =
    9 unless wave
    ∷ 10 unless inside
    ∷ 11 unless w.format.found
    ∷ 12 unless w.samples.found
    ∷ 13 unless format_ok t f w.format.size w.samples.size
    ∷ []

abbrev pub wave_of : ℕ → List ℕ → Walked → Wave
wave_of t f w =
    record {
      kind = kind_of t (bits f);
      channels = channels f;
      rate = rate f;
      start = w.samples.body;
      length = w.samples.size;
    }

abbrev pub answered : ℕ → Wave → Found
answered zero w = found.Wave w
answered (suc k) w = found.Refused (suc k)

abbrev pub found_of : Bool → Bool → ℕ → List ℕ → Walked → Found
found_of wave inside t f w = answered (first_of (tests_of wave inside t f w)) (wave_of t f w)

abbrev pub tests : (List ℕ → ℕ → ℕ) → List ℕ → List Test
tests tag_of b = tests_of (is_wave b) (within b) (tag_in tag_of b) (fmt_of b) (walk_in b)

abbrev pub verdict : (List ℕ → ℕ → ℕ) → List ℕ → ℕ
verdict tag_of b = first_of (tests tag_of b)

abbrev pub wave_in : (List ℕ → ℕ → ℕ) → List ℕ → Wave
wave_in tag_of b = wave_of (tag_in tag_of b) (fmt_of b) (walk_in b)

abbrev pub found_by : (List ℕ → ℕ → ℕ) → List ℕ → Found
found_by tag_of b = answered (verdict tag_of b) (wave_in tag_of b)

-- The two readings: one by the tag as it stands, and one that reads a wrapped kind by the tag inside.
abbrev pub found_in : List ℕ → Found
found_in = found_by plain_tag

abbrev pub found_wrapped : List ℕ → Found
found_wrapped = found_by wrapped_tag

-- What a caller needs that explains a refusal: what the first `fmt ` says, its size and that of the first `data`; zeros
-- for what is missing. If the RIFF runs past the file, the walk ends with the file.
abbrev pub told_in : List ℕ → Told
told_in b =
    record {
      size = (walk_in b).format.size;
      tag = tag (fmt_of b);
      channels = channels (fmt_of b);
      block = block (fmt_of b);
      bits = bits (fmt_of b);
      samples = (walk_in b).samples.size;
    }
