-- W2, W10e. Samples as a whole WAV file of any length in a lent buffer: the refusal, the answer, and what the buffer
-- holds afterwards. The samples are those of all channels, frame by frame. Definitions only.
use Rattle.std.specs.Prelude.{ℕ, zero, suc, ◌&&◌, List, [], ◌∷◌, ◌++◌, leb, length, drop, Float}
use Rattle.refusal_order.specs.Order.{Test, ◌unless◌, first_of}
use Rattle.word_bytes.specs.Bytes.{low_bytes}
use Rattle.sample_kind.specs.declared.SampleKind.{SampleKind}
use Rattle.wav_store.specs.Storing.{all_fit, bytes_of}
use Rattle.wav_header.specs.Header.{pad_of}
use Rattle.wav_header.specs.Refusals.{written_by}
use Rattle.wav_settings.specs.Settings.{rate_ok, one_or_two, whole_frames}
use Rattle.long_header.specs.declared.Form.{Form}
use Rattle.long_header.specs.LongHeader.{file_length_for, header_for}
use Rattle.long_header.specs.Refusals.{size_ok}
use Rattle.wav_write.specs.declared.Written.{Written}
use Rattle.wav_write.specs.declared.Written.TheVariants as answers

-- The header, the stored samples, and a pad byte of 0 if they have an odd number of bytes.
unfoldable pub file_of : Form → SampleKind → ℕ → ℕ → List Float → List ℕ
file_of form kind channels rate samples =
    header_for form kind channels rate (length samples)
    ++ (bytes_of kind samples ++ low_bytes (pad_of kind (length samples)) 0)

-- W2f, W10f. 1: the rate is out of range, or the count is not whole frames. 19: the samples have more than 2^40 bytes.
-- 13: the channels are not one or two. 14: the buffer of `room` bytes is shorter than the file. 15: a sample is out of
-- range or a NaN.
abbrev pub tests : SampleKind → ℕ → ℕ → List Float → ℕ → List Test
tests kind channels rate samples room =
    1 unless (rate_ok rate && whole_frames channels (length samples))
    ∷ 19 unless size_ok kind (length samples)
    ∷ 13 unless one_or_two channels
    ∷ 14 unless leb (file_length_for kind (length samples)) room
    ∷ 15 unless all_fit kind samples
    ∷ []

abbrev pub verdict : SampleKind → ℕ → ℕ → List Float → ℕ → ℕ
verdict kind channels rate samples room = first_of (tests kind channels rate samples room)

abbrev pub answer_by : ℕ → ℕ → Written
answer_by zero n = answers.Length n
answer_by (suc k) n = answers.Refused (suc k)

abbrev pub answer_of : SampleKind → ℕ → ℕ → List Float → ℕ → Written
answer_of kind channels rate samples room =
    answer_by (verdict kind channels rate samples room) (file_length_for kind (length samples))

-- W2a. The bytes of the file, then the rest of the buffer as it was. A refusal leaves the whole buffer as it was.
abbrev pub written : Form → SampleKind → ℕ → ℕ → List Float → List ℕ → List ℕ
written form kind channels rate samples old =
    written_by (verdict kind channels rate samples (length old))
    (file_of form kind channels rate samples ++ drop (file_length_for kind (length samples)) old) old
