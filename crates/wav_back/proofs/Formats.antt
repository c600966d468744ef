-- W2b. The tag and the bits written for a kind are read as that kind, and whole frames of one or two channels are whole
-- frames of bytes. Kind by kind. Assumes nothing.
use mathlib.Core.Path.{◌≡◌, refl}
use mathlib.Core.Bool.{true, ◌&&◌, ◌||◌}
use mathlib.Core.List.{List}
use Prim.Native.Nat.{ℕ, zero, suc, ◌*◌, ◌/◌, ◌%◌, ◌≤◌}
use native.Mathlib.Omega.{arith}
use borrow.Author.Tests.{eq-eqb}
use lib.Dec.{eqb, leb}
use Rattle.sample_kind.specs.declared.SampleKind.{SampleKind}
use Rattle.sample_kind.specs.declared.SampleKind.TheVariants.{Pcm16, Pcm24, Float32}
use Rattle.sample_kind.specs.Kinds.{width_of, frame_of}
use Rattle.wav_format.specs.Format.{block, bits, listed, kind_of, format_ok, whole_frames}
use Rattle.wav_format.specs.Format.{channels as channels_of}
use Rattle.wav_header.specs.Header.{size_of, tag_of}
use Rattle.wav_header.specs.Fields.{format_size}

pub format-long : (kind : SampleKind) → 16 ≤ format_size kind
format-long Pcm16 = omega arith
format-long Pcm24 = omega arith
format-long Float32 = omega arith

pub small-tag : (kind : SampleKind) → tag_of kind ≤ 3
small-tag Pcm16 = omega arith
small-tag Pcm24 = omega arith
small-tag Float32 = omega arith

pub kind-is : (kind : SampleKind) → kind_of (tag_of kind) (8 * width_of kind) ≡ kind
kind-is Pcm16 = refl
kind-is Pcm24 = refl
kind-is Float32 = refl

frames-ok : (kind : SampleKind) (channels count : ℕ) → 1 ≤ channels → channels ≤ 2 → count % channels ≡ 0
    → whole_frames (size_of kind count) (frame_of kind channels) ≡ true
frames-ok kind zero count s f h = absurd (omega arith)
frames-ok Pcm16 (suc zero) count s f h = eq-eqb (count * 2 % 2) 0 (omega arith)
frames-ok Pcm24 (suc zero) count s f h = eq-eqb (count * 3 % 3) 0 (omega arith)
frames-ok Float32 (suc zero) count s f h = eq-eqb (count * 4 % 4) 0 (omega arith)
frames-ok Pcm16 (suc (suc zero)) count s f h = eq-eqb (count * 2 % 4) 0 (omega arith)
frames-ok Pcm24 (suc (suc zero)) count s f h = eq-eqb (count * 3 % 6) 0 (omega arith)
frames-ok Float32 (suc (suc zero)) count s f h = eq-eqb (count * 4 % 8) 0 (omega arith)
frames-ok kind (suc (suc (suc n))) count s f h = absurd (omega arith)

-- The fields that are written are not refused by 13.
pub fields-ok : (kind : SampleKind) (channels count t : ℕ) (f : List ℕ)
    → 1 ≤ channels → channels ≤ 2 → count % channels ≡ 0
    → t ≡ tag_of kind → bits f ≡ 8 * width_of kind → channels_of f ≡ channels → block f ≡ frame_of kind channels
    → format_ok t f (format_size kind) (size_of kind count) ≡ true
unfolding format_ok
fields-ok kind channels count t f s w h p q r e =
    rw (p, q, r, e, frames-ok kind channels count s w h) (by kind channels s w)
  where
    by : (kind : SampleKind) (channels : ℕ) → 1 ≤ channels → channels ≤ 2
        → leb 16 (format_size kind) && ((listed (tag_of kind) (8 * width_of kind))
        && ((eqb channels 1 || eqb channels 2)
        && (eqb (frame_of kind channels) (channels * (8 * width_of kind / 8)) && true))) ≡ true
    by kind zero s w = absurd (omega arith)
    by Pcm16 (suc zero) s w = refl
    by Pcm24 (suc zero) s w = refl
    by Float32 (suc zero) s w = refl
    by Pcm16 (suc (suc zero)) s w = refl
    by Pcm24 (suc (suc zero)) s w = refl
    by Float32 (suc (suc zero)) s w = refl
    by kind (suc (suc (suc n))) s w = absurd (omega arith)
