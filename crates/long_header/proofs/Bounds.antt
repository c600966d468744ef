-- W10. Up to 2^40 bytes of samples no sum of a file's lengths overflows a word. By the kinds. Assumes nothing.
use mathlib.Core.Path.{◌≡◌, sym}
use mathlib.Core.Bool.{Bool, true, false, true≢false, cond, ◌&&◌}
use Prim.Native.Nat.{ℕ, zero, suc, ◌+◌, ◌*◌, ◌^◌, ◌≤◌, ◌<◌}
use native.Mathlib.Omega.{arith}
use borrow.Author.Tests.{leb-true}
use Rattle.sample_kind.specs.declared.SampleKind.{SampleKind}
use Rattle.sample_kind.specs.declared.SampleKind.TheVariants.{Pcm16, Pcm24, Float32}
use Rattle.sample_kind.specs.Kinds.{width_of}
use Rattle.wav_header.specs.Header.{header_length, size_of}
use Rattle.wav_header.specs.Refusals.{fits_riff}
use Rattle.wav_settings.specs.Settings.{one_or_two, whole_frames}
use Rattle.wav_header.proofs.Planned.{both_hold}
use Rattle.wav_header.proofs.Sizes.{short-header}
use Rattle.long_header.specs.LongHeader.{header_length_for}
use Rattle.long_header.specs.Refusals.{size_ok}

pub many : (kind : SampleKind) (count : ℕ) → 2 ^ 40 < count → 2 ^ 40 < count * width_of kind
many Pcm16 count h = omega arith
many Pcm24 count h = omega arith
many Float32 count h = omega arith

pub few : (kind : SampleKind) (count : ℕ) → count ≤ 2 ^ 40 → count * width_of kind ≤ 2 ^ 42
few Pcm16 count h = omega arith
few Pcm24 count h = omega arith
few Float32 count h = omega arith

pub some-channel : (channels : ℕ) → one_or_two channels ≡ true → 1 ≤ channels
some-channel zero h = absurd (true≢false (sym h))
some-channel (suc n) h = omega arith

pub small_size : (kind : SampleKind) (channels count : ℕ)
    → whole_frames channels count && (size_ok kind count && one_or_two channels) ≡ true → size_of kind count ≤ 2 ^ 40
small_size kind channels count h =
    let p = both_hold (whole_frames channels count) _ h in
    leb-true (size_of kind count) (2 ^ 40) (both_hold (size_ok kind count) (one_or_two channels) p.1).0

pub longest-header : (kind : SampleKind) (count : ℕ) → header_length_for kind count ≤ 94
longest-header kind count = by kind (fits_riff kind count)
  where
    by : (kind : SampleKind) (t : Bool) → cond t (header_length kind) (36 + header_length kind) ≤ 94
    by kind true = omega (arith, short-header kind)
    by kind false = omega (arith, short-header kind)
