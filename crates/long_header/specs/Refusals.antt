-- W10. The refusal of a header of any length, and what the lent block holds afterwards. Definitions only.
use Rattle.std.specs.Prelude.{ℕ, ◌^◌, ◌≤◌, ◌≡◌, Bool, true, cond, ◌&&◌, List, [], ◌∷◌, ◌++◌, leb, length}
use Rattle.std.specs.Prelude.{drop}
use Rattle.refusal_order.specs.Order.{Test, ◌unless◌, first_of}
use Rattle.sample_kind.specs.declared.SampleKind.{SampleKind}
use Rattle.wav_header.specs.Header.{size_of}
use Rattle.wav_header.specs.Refusals.{written_by}
use Rattle.wav_settings.specs.Settings.{rate_ok, one_or_two, whole_frames}
use Rattle.long_header.specs.declared.Form.{Form}
use Rattle.long_header.specs.LongHeader.{header_length_for, file_length_for, header_for}

-- The samples have at most 2^40 bytes.
abbrev pub size_ok : SampleKind → ℕ → Bool
size_ok kind count = leb (size_of kind count) (2 ^ 40)

-- W10f. 1: the rate is out of range, or the count is not whole frames. 19: the samples have more than 2^40 bytes. 13:
-- the channels are not one or two.
abbrev pub file_tests : SampleKind → ℕ → ℕ → ℕ → List Test
file_tests kind channels rate count =
    1 unless (rate_ok rate && whole_frames channels count)
    ∷ 19 unless size_ok kind count
    ∷ 13 unless one_or_two channels
    ∷ []

abbrev pub file_verdict_for : SampleKind → ℕ → ℕ → ℕ → ℕ
file_verdict_for kind channels rate count = first_of (file_tests kind channels rate count)

-- W10f. The same for a header alone. 14: the block is shorter than the header.
abbrev pub header_tests_for : SampleKind → ℕ → ℕ → ℕ → ℕ → List Test
header_tests_for kind channels rate count room =
    1 unless (rate_ok rate && whole_frames channels count)
    ∷ 19 unless size_ok kind count
    ∷ 13 unless one_or_two channels
    ∷ 14 unless leb (header_length_for kind count) room
    ∷ []

abbrev pub header_verdict_for : SampleKind → ℕ → ℕ → ℕ → ℕ → ℕ
header_verdict_for kind channels rate count room = first_of (header_tests_for kind channels rate count room)

-- The header, then the rest of the block as it was. A refusal leaves the whole block as it was.
abbrev pub header_after : Form → SampleKind → ℕ → ℕ → ℕ → List ℕ → List ℕ
header_after form kind channels rate count old =
    written_by (header_verdict_for kind channels rate count (length old))
    (header_for form kind channels rate count ++ drop (header_length_for kind count) old) old

-- The length of a file, or 0 if 1, 19 or 13 refuses it at every rate.
abbrev pub length_for64 : SampleKind → ℕ → ℕ → ℕ
length_for64 kind channels count =
    cond (whole_frames channels count && (size_ok kind count && one_or_two channels)) (file_length_for kind count) 0

-- What the functions that write a header require of their block, inside the crate.
pub record Room (kind : SampleKind) (channels rate count length room : ℕ) : Type 0 where
  pub exact : room ≡ length
  pub rate-fits : rate_ok rate ≡ true
  pub frames : whole_frames channels count ≡ true
  pub small : size_of kind count ≤ 2 ^ 40
  pub mono-or-stereo : one_or_two channels ≡ true
