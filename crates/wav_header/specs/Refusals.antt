-- W2. The refusal of a header, and what the lent block holds afterwards. Definitions only.
use Rattle.std.specs.Prelude.{ℕ, zero, suc, ◌-◌, ◌^◌, Bool, false, ◌&&◌, List, [], ◌∷◌, eqb, leb, length}
use Rattle.refusal_order.specs.Order.{◌unless◌, first_of}
use Rattle.sample_kind.specs.declared.SampleKind.{SampleKind}
use Rattle.wav_settings.specs.Settings.{rate_ok, one_or_two, whole_frames}
use Rattle.wav_header.specs.Header.{header_length, file_length, header_of}

-- The RIFF's size, which counts from place 8 on, has 32 bits. A longer file needs the header of Wish 10.
abbrev pub fits_riff : SampleKind → ℕ → Bool
fits_riff kind count = leb (file_length kind count - 8) (2 ^ 32 - 1)

-- The tests of 1 apart from the rate: the count is whole frames, and the file fits RIFF.
abbrev pub count_ok : SampleKind → ℕ → ℕ → Bool
count_ok kind channels count = whole_frames channels count && fits_riff kind count

-- A kind that is none of the three has no sizes. It is refused by 13, unless the rate or the frames are refused by 1.
abbrev pub unlisted_verdict : ℕ → ℕ → ℕ → ℕ
unlisted_verdict channels rate count =
    first_of (1 unless (rate_ok rate && whole_frames channels count) ∷ 13 unless false ∷ [])

-- W2f. 1: the rate or the count is refused. 2: the block does not have the header's length. 13: the channels are not
-- one or two.
abbrev pub header_verdict : SampleKind → ℕ → ℕ → ℕ → ℕ → ℕ
header_verdict kind channels rate count room =
    first_of
    (1 unless (rate_ok rate && count_ok kind channels count)
    ∷ 2 unless eqb room (header_length kind)
    ∷ 13 unless one_or_two channels
    ∷ [])

-- What the block holds afterwards. A refusal leaves it as it was.
abbrev pub written_by : ℕ → List ℕ → List ℕ → List ℕ
written_by zero new old = new
written_by (suc k) new old = old

abbrev pub header_in : SampleKind → ℕ → ℕ → ℕ → List ℕ → List ℕ
header_in kind channels rate count old =
    written_by (header_verdict kind channels rate count (length old)) (header_of kind channels rate count) old
