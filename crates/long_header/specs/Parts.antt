-- W10. What the functions that write the parts of a header require and promise inside the crate. Definitions only.
use Rattle.std.specs.Prelude.{ℕ, ◌≡◌, true, List, ◌++◌, take, drop}
use Rattle.word_bytes.specs.Bytes.{low_bytes}
use Rattle.sample_kind.specs.declared.SampleKind.{SampleKind}
use Rattle.sample_kind.specs.declared.SampleKind.TheVariants.{Pcm16, Pcm24, Float32}
use Rattle.wav_settings.specs.Settings.{rate_ok, one_or_two}
use Rattle.long_header.specs.LongHeader.{full, long_header_length}

-- FFFFFFFF written over the four bytes at a place.
abbrev pub over : List ℕ → ℕ → List ℕ
over xs at = take at xs ++ (low_bytes 4 full ++ drop 4 (drop at xs))

-- The size of `data` is the last field, and the number of frames in `fact` stands 8 bytes before it.
abbrev pub sized : SampleKind → List ℕ → List ℕ
sized Pcm16 xs = over xs 76
sized Pcm24 xs = over xs 76
sized Float32 xs = over (over xs 82) 90

pub record Tail (kind : SampleKind) (channels rate room : ℕ) : Type 0 where
  pub exact : room ≡ long_header_length kind
  pub rate-fits : rate_ok rate ≡ true
  pub mono-or-stereo : one_or_two channels ≡ true
