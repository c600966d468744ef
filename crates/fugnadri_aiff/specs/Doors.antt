-- W12. Definitions for the exports' contracts: an answer as a number and plain numbers, zeros if it is a refusal, and a
-- kind by its code. A record holds all that its export may write, so that one equation gives it. Definitions only.
use Rattle.std.specs.Prelude.{ℕ, cond, leb}
use Rattle.aiff.specs.declared.Found.{Found}
use Rattle.aiff.specs.declared.Found.TheVariants as found
use Rattle.aiff.specs.declared.Sound.{Sound}
use Rattle.aiff.specs.declared.Told.{Told}
use Rattle.sample_kind.specs.declared.SampleKind.TheVariants.{Pcm16}
use Rattle.sample_kind.specs.Kinds.{code_of}

abbrev pub number_of : Found → ℕ
number_of (found.Sound f) = 0
number_of (found.Refused k) = k

abbrev pub sound_of : Found → Sound
sound_of (found.Sound f) = f
sound_of (found.Refused k) = record { kind = Pcm16; channels = 0; rate = 0; start = 0; length = 0 }

-- What a reading leaves: the refusal number, which it returns, 0 for none, and what was found.
pub record Left : Type 0 where
  pub refusal : ℕ
  pub kind : ℕ
  pub channels : ℕ
  pub rate : ℕ
  pub start : ℕ
  pub size : ℕ

abbrev pub leaves : ℕ → ℕ → ℕ → ℕ → ℕ → ℕ → Left
leaves refusal kind channels rate start size =
    record { refusal = refusal; kind = kind; channels = channels; rate = rate; start = start; size = size }

abbrev pub left_by : Found → Left
left_by a =
    let f = sound_of a in
    leaves (number_of a) (code_of f.kind) f.channels f.rate f.start f.length

-- What a `COMM` and an `SSND` say.
abbrev pub tells : ℕ → ℕ → ℕ → ℕ → ℕ → ℕ → ℕ → ℕ → Told
tells comm channels frames bits exponent digits ssnd offset =
    record {
      comm = comm;
      channels = channels;
      frames = frames;
      bits = bits;
      exponent = exponent;
      digits = digits;
      ssnd = ssnd;
      offset = offset;
    }

-- A code that is none of the three gives no channels, so that it is refused by 1.
abbrev pub channels_of : ℕ → ℕ → ℕ
channels_of n channels = cond (leb n 2) channels 0
