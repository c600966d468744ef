-- W1. How the tag is read from the body of a `fmt ` and its size. A plain reading takes the tag that stands there.
-- WAVE_FORMAT_EXTENSIBLE, tag FFFE, gives its kind by 16 bytes from place 24 on: the tag that is wrapped, and behind it
-- 14 bytes that are the same for every such tag. sox and ffmpeg write it for ordinary kinds. Definitions only.
use Rattle.std.specs.Prelude.{ℕ, Bool, true, false, cond, ◌&&◌, List, eqb, leb}
use Rattle.wav_format.specs.Format.{number, tag, bits}

abbrev pub plain_tag : List ℕ → ℕ → ℕ
plain_tag f size = tag f

abbrev pub wrapper : ℕ
wrapper = 0xfffe

-- The size of the extension behind the first 18 bytes, and how many of a sample's bits are valid.
abbrev pub extension : List ℕ → ℕ
extension f = number 2 f 16

abbrev pub valid_bits : List ℕ → ℕ
valid_bits f = number 2 f 18

abbrev pub inner_tag : List ℕ → ℕ
inner_tag f = number 2 f 24

-- The bytes of 0000-0010-8000-00AA00389B71 as they stand from place 26 on: 00 00, 00 00 10 00, 80 00 00 AA, 00 38 9B
-- 71.
abbrev pub standard_tail : List ℕ → Bool
standard_tail f =
    eqb (number 2 f 26) 0
    && (eqb (number 4 f 28) 0x0010_0000 && (eqb (number 4 f 32) 0xaa00_0080 && eqb (number 4 f 36) 0x719b_3800))

-- The `fmt ` wraps a kind: it has at least 40 bytes, an extension of at least 22, all bits valid, and the standard
-- tail.
unfoldable pub wraps : List ℕ → ℕ → Bool
wraps f size =
    eqb (tag f) wrapper
    && (leb 40 size && (leb 22 (extension f) && (eqb (valid_bits f) (bits f) && standard_tail f)))

abbrev pub wrapped_tag : List ℕ → ℕ → ℕ
wrapped_tag f size = cond (wraps f size) (inner_tag f) (tag f)

-- The tag, by whether wrapped kinds are accepted.
abbrev pub tag_by : Bool → List ℕ → ℕ → ℕ
tag_by true = wrapped_tag
tag_by false = plain_tag
