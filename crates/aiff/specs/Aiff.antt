-- W12. An AIFF file: by which number it is refused, or where its samples stand and what they are. Definitions only.
use Rattle.std.specs.Prelude.{ℕ, zero, suc, ◌+◌, ◌*◌, min, Bool, cond, not, ◌&&◌, ◌||◌, List, [], ◌∷◌, eqb, leb, ltb}
use Rattle.std.specs.Prelude.{length, take, drop}
use Rattle.refusal_order.specs.Order.{Test, ◌unless◌, first_of}
use Rattle.high_first.specs.High.{big_number}
use Rattle.extended_rate.specs.Rate.{rate_of}
use Rattle.riff_chunks.specs.declared.Walked.{Walked}
use Rattle.form_chunks.specs.Form.{form_walk}
use Rattle.sample_kind.specs.declared.SampleKind.{SampleKind}
use Rattle.sample_kind.specs.declared.SampleKind.TheVariants.{Pcm16, Pcm24}
use Rattle.sample_kind.specs.Kinds.{frame_of}
use Rattle.wav_format.specs.Format.{number}
use Rattle.aiff.specs.declared.Found.{Found}
use Rattle.aiff.specs.declared.Found.TheVariants as found
use Rattle.aiff.specs.declared.Sound.{Sound}
use Rattle.aiff.specs.declared.Told.{Told}

-- The four bytes of `FORM` and of `AIFF`, as numbers with the low byte first, like every identifier.
abbrev pub form_id : ℕ
form_id = 0x4d52_4f46

abbrev pub aiff_id : ℕ
aiff_id = 0x4646_4941

-- The FORM size counts from place 8 on and gives the end of the walk.
abbrev pub form_size : List ℕ → ℕ
form_size b = big_number 4 b 4

abbrev pub walk_in : List ℕ → Walked
walk_in b = form_walk b (8 + form_size b)

-- The first bytes of a body: of `COMM` the 18 of its fields, of `SSND` the 8 before its samples.
abbrev pub head_of : ℕ → List ℕ → ℕ → ℕ → List ℕ
head_of most b body size = take (min size most) (drop body b)

abbrev pub comm_of : List ℕ → List ℕ
comm_of b = head_of 18 b (walk_in b).format.body (walk_in b).format.size

abbrev pub ssnd_of : List ℕ → List ℕ
ssnd_of b = head_of 8 b (walk_in b).samples.body (walk_in b).samples.size

-- The fields of a `COMM`, and the offset of an `SSND`; its block size, behind that, is ignored.
abbrev pub channels : List ℕ → ℕ
channels c = big_number 2 c 0

abbrev pub frames : List ℕ → ℕ
frames c = big_number 4 c 2

abbrev pub bits : List ℕ → ℕ
bits c = big_number 2 c 6

abbrev pub rate : List ℕ → ℕ
rate c = rate_of (big_number 2 c 8) (big_number 8 c 10)

abbrev pub offset : List ℕ → ℕ
offset s = big_number 4 s 0

abbrev pub kind_of : ℕ → SampleKind
kind_of n = cond (eqb n 16) Pcm16 Pcm24

-- How many bytes all frames have.
abbrev pub length_of : List ℕ → ℕ
length_of c = frames c * frame_of (kind_of (bits c)) (channels c)

-- The test for 20: the file is AIFF, with a FORM size of at least 4.
unfoldable pub is_aiff : List ℕ → Bool
is_aiff b = leb 12 (length b) && (eqb (number 4 b 0) form_id && (eqb (number 4 b 8) aiff_id && leb 4 (form_size b)))

-- The test for 10: no walked chunk runs past the end. In a whole walk this includes the `SSND`; it is tested apart
-- because a caller that reads step by step may hand in any walk.
abbrev pub inside : ℕ → Walked → Bool
inside end w = not w.overruns && leb (w.samples.body + w.samples.size) end

-- The test for 21: both are there, `COMM` has 18 bytes, `SSND` has 8, and the offset is not past its end.
abbrev pub has_parts : Walked → ℕ → Bool
has_parts w skip =
    (w.format.found && w.samples.found)
    && (leb 18 w.format.size && (leb 8 w.samples.size && leb (8 + skip) w.samples.size))

-- The test for 13: one or two channels of 16 or 24 bits.
abbrev pub listed : ℕ → ℕ → Bool
listed count width = (eqb count 1 || eqb count 2) && (eqb width 16 || eqb width 24)

-- The second test for 21: there are no more frames than the bytes behind the offset hold.
abbrev pub holds_frames : Walked → List ℕ → List ℕ → Bool
holds_frames w c s = leb (8 + offset s + length_of c) w.samples.size

-- The order of the refusals, from the first two tests, the first bytes of both chunks and the walk.
abbrev pub tests_of : Bool → Bool → List ℕ → List ℕ → Walked → List Test
tests_of aiff fits c s w =
    20 unless aiff
    ∷ 10 unless fits
    ∷ 21 unless has_parts w (offset s)
    ∷ 13 unless listed (channels c) (bits c)
    ∷ 21 unless holds_frames w c s
    ∷ 22 unless ltb 0 (rate c)
    ∷ []

abbrev pub sound_of : List ℕ → List ℕ → Walked → Sound
sound_of c s w =
    record {
      kind = kind_of (bits c);
      channels = channels c;
      rate = rate c;
      start = w.samples.body + 8 + offset s;
      length = length_of c;
    }

abbrev pub answered : ℕ → Sound → Found
answered zero f = found.Sound f
answered (suc k) f = found.Refused (suc k)

-- The answer from a walk and the first bytes of the two chunks; `held` says whether the FORM's end lies in the file.
abbrev pub found_of : Bool → Bool → ℕ → List ℕ → List ℕ → Walked → Found
found_of aiff held end c s w = answered (first_of (tests_of aiff (held && inside end w) c s w)) (sound_of c s w)

-- The answer from a file. For 10 the FORM counts as a chunk.
abbrev pub within : List ℕ → Bool
within b = leb (8 + form_size b) (length b) && not (walk_in b).overruns

abbrev pub tests : List ℕ → List Test
tests b = tests_of (is_aiff b) (within b) (comm_of b) (ssnd_of b) (walk_in b)

abbrev pub verdict : List ℕ → ℕ
verdict b = first_of (tests b)

abbrev pub sound_in : List ℕ → Sound
sound_in b = sound_of (comm_of b) (ssnd_of b) (walk_in b)

abbrev pub found_in : List ℕ → Found
found_in b = answered (verdict b) (sound_in b)

-- What a caller needs that explains a refusal: what the first `COMM` and `SSND` say; zeros for what is missing. If the
-- FORM runs past the file, the walk ends with the file.
abbrev pub told_in : List ℕ → Told
told_in b =
    record {
      comm = (walk_in b).format.size;
      channels = channels (comm_of b);
      frames = frames (comm_of b);
      bits = bits (comm_of b);
      exponent = big_number 2 (comm_of b) 8;
      digits = big_number 8 (comm_of b) 10;
      ssnd = (walk_in b).samples.size;
      offset = offset (ssnd_of b);
    }
