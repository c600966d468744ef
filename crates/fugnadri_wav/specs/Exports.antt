-- W1. What the contracts of the exports name: an answer as plain numbers, zeros for a refusal, and a kind by its code.
-- A record holds everything that its export may write, so that one equation states it. Definitions only.
use Rattle.std.specs.Prelude.{ℕ, cond, leb}
use Rattle.wav.specs.declared.Found.{Found}
use Rattle.wav.specs.declared.Found.TheVariants as found
use Rattle.wav.specs.declared.Told.{Told}
use Rattle.wav.specs.declared.Wave.{Wave}
use Rattle.sample_kind.specs.declared.SampleKind.TheVariants.{Pcm16}
use Rattle.sample_kind.specs.Kinds.{code_of}

abbrev pub number_of : Found → ℕ
number_of (found.Wave w) = 0
number_of (found.Refused k) = k

abbrev pub wave_of : Found → Wave
wave_of (found.Wave w) = w
wave_of (found.Refused k) = record { kind = Pcm16; channels = 0; rate = 0; start = 0; length = 0 }

-- What a reading leaves: the refusal number that it returns, 0 for none, and what was found.
pub record Left : Type 0 where
  pub refusal : ℕ
  pub kind : ℕ
  pub channels : ℕ
  pub rate : ℕ
  pub start : ℕ
  pub size : ℕ

abbrev pub leaves : ℕ → ℕ → ℕ → ℕ → ℕ → ℕ → Left
leaves refusal kind channels rate start size =
    record { refusal = refusal; kind = kind; channels = channels; rate = rate; start = start; size = size }

abbrev pub left_by : Found → Left
left_by f =
    let w = wave_of f in
    leaves (number_of f) (code_of w.kind) w.channels w.rate w.start w.length

-- The numbers of a `fmt `.
abbrev pub tells : ℕ → ℕ → ℕ → ℕ → ℕ → ℕ → Told
tells size tag channels block bits samples =
    record { size = size; tag = tag; channels = channels; block = block; bits = bits; samples = samples }

-- A code that is none of the three counts as having no channels, so that 1 refuses it.
abbrev pub channels_of : ℕ → ℕ → ℕ
channels_of n channels = cond (leb n 2) channels 0
