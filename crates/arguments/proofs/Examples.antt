-- Arguments and what they mean, computed from the definitions alone, so that a wrong name or word shows here. Assumes
-- nothing.
use mathlib.Core.Path.{◌≡◌, refl}
use lib.Ieee.{binary64, of_bits, round}
use Rattle.std.specs.Prelude.{Some, None}
use Rattle.byte_marks.specs.Marks.{index_of}
use Rattle.text.specs.Text.{ascii}
use Rattle.sample_kind.specs.declared.SampleKind.TheVariants.{Pcm24}
use Rattle.decimals.specs.Reading.{all_digits, digits_after}
use Rattle.spelling.specs.Words.{same_bytes, all_in_name}
use Rattle.arguments.specs.Meaning.{meaning_of}
use Rattle.arguments.specs.declared.Setting.TheVariants.{WowRateHz, StereoAmount}
use Rattle.arguments.specs.declared.Name.TheVariants as name
use Rattle.arguments.specs.declared.Argument.TheVariants.{File, Unknown, Bad, Seed, Delay, Kind, Setting}
use Rattle.arguments.specs.declared.Argument.TheVariants.{FirstSkip, SecondSkip, Frames, Channel, Picture}

seed : meaning_of (ascii "seed=7") ≡ Seed 7
unfolding ascii index_of same_bytes all_in_name all_digits digits_after round of_bits
seed = refl

no-seed : meaning_of (ascii "seed=abc") ≡ Bad name.Seed
unfolding ascii index_of same_bytes all_in_name all_digits digits_after round of_bits
no-seed = refl

no_value : meaning_of (ascii "seed=") ≡ Bad name.Seed
unfolding ascii index_of same_bytes all_in_name all_digits digits_after round of_bits
no_value = refl

unknown : meaning_of (ascii "sed=7") ≡ Unknown
unfolding ascii index_of same_bytes all_in_name all_digits digits_after round of_bits
unknown = refl

letter-case : meaning_of (ascii "Seed=7") ≡ Unknown
unfolding ascii index_of same_bytes all_in_name all_digits digits_after round of_bits
letter-case = refl

file : meaning_of (ascii "A.wav") ≡ File
unfolding ascii index_of same_bytes all_in_name all_digits digits_after round of_bits
file = refl

path : meaning_of (ascii "./a=b.wav") ≡ File
unfolding ascii index_of same_bytes all_in_name all_digits digits_after round of_bits
path = refl

digit-in-front : meaning_of (ascii "2=b.wav") ≡ File
unfolding ascii index_of same_bytes all_in_name all_digits digits_after round of_bits
digit-in-front = refl

no_name : meaning_of (ascii "=b.wav") ≡ File
unfolding ascii index_of same_bytes all_in_name all_digits digits_after round of_bits
no_name = refl

delay : meaning_of (ascii "delay=-0") ≡ Delay (of_bits binary64 0x8000_0000_0000_0000)
unfolding ascii index_of same_bytes all_in_name all_digits digits_after round of_bits
delay = refl

rate : meaning_of (ascii "wow_rate_hz=0.55") ≡ Setting WowRateHz (of_bits binary64 0x3fe1_9999_9999_999a)
unfolding ascii index_of same_bytes all_in_name all_digits digits_after round of_bits
rate = refl

stereo : meaning_of (ascii "stereo_amount=x") ≡ Bad (name.Setting StereoAmount)
unfolding ascii index_of same_bytes all_in_name all_digits digits_after round of_bits
stereo = refl

kind : meaning_of (ascii "kind=pcm24") ≡ Kind (Some Pcm24)
unfolding ascii index_of same_bytes all_in_name all_digits digits_after round of_bits
kind = refl

same_kind : meaning_of (ascii "kind=same") ≡ Kind None
unfolding ascii index_of same_bytes all_in_name all_digits digits_after round of_bits
same_kind = refl

no_kind : meaning_of (ascii "kind=pcm8") ≡ Bad name.Kind
unfolding ascii index_of same_bytes all_in_name all_digits digits_after round of_bits
no_kind = refl

skip : meaning_of (ascii "first-skip=512") ≡ FirstSkip 512
unfolding ascii index_of same_bytes all_in_name all_digits digits_after round of_bits
skip = refl

other-skip : meaning_of (ascii "second-skip=0") ≡ SecondSkip 0
unfolding ascii index_of same_bytes all_in_name all_digits digits_after round of_bits
other-skip = refl

frames : meaning_of (ascii "frames=all") ≡ Frames None
unfolding ascii index_of same_bytes all_in_name all_digits digits_after round of_bits
frames = refl

so-many : meaning_of (ascii "frames=48000") ≡ Frames (Some 48000)
unfolding ascii index_of same_bytes all_in_name all_digits digits_after round of_bits
so-many = refl

channel : meaning_of (ascii "channel=2") ≡ Channel (Some 2)
unfolding ascii index_of same_bytes all_in_name all_digits digits_after round of_bits
channel = refl

no-channel : meaning_of (ascii "channel=0") ≡ Bad name.Channel
unfolding ascii index_of same_bytes all_in_name all_digits digits_after round of_bits
no-channel = refl

picture : meaning_of (ascii "picture=a=b.svg") ≡ Picture
unfolding ascii index_of same_bytes all_in_name all_digits digits_after round of_bits
picture = refl

no-picture : meaning_of (ascii "picture=") ≡ Bad name.Picture
unfolding ascii index_of same_bytes all_in_name all_digits digits_after round of_bits
no-picture = refl
