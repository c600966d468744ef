-- W2c. A file of any length that `write` made gives the same file when it is read and written again, because storing
-- the samples that are read gives their bytes. Assumes nothing.
use mathlib.Core.Path.{◌≡◌, ap, ◌∙◌}
use mathlib.Core.Bool.{true}
use mathlib.Core.List.{List, ◌++◌}
use Prim.Native.Nat.{ℕ, ◌/◌, ◌<◌}
use native.Mathlib.Nat.{mul-div_cancel}
use native.Mathlib.Omega.{arith}
use lib.ListN.{length}
use lib.Ieee.{Float, Format}
use Rattle.loop_laws.proofs.Lists.{length-list}
use Rattle.sample_kind.specs.declared.SampleKind.{SampleKind}
use Rattle.sample_kind.specs.declared.SampleKind.TheVariants.{Pcm16, Pcm24, Float32}
use Rattle.sample_kind.specs.Kinds.{width_of}
use Rattle.wav.specs.Wave.{part_of}
use Rattle.wav.specs.declared.Wave.{Wave}
use Rattle.wav_store.specs.Storing.{all_fit, bytes_of}
use Rattle.wav_store.specs.Parts.{samples_of}
use Rattle.wav_store.proofs.Placed.{length-bytes}
use Rattle.wav_store.proofs.ReadBack.{read_back}
use Rattle.wav_header.specs.Header.{size_of}
use Rattle.long_header.specs.declared.Form.{Form}
use Rattle.wav_write.specs.Writing.{file_of, verdict}
use Rattle.wav_write.proofs.Order.{write-none}
use Rattle.wav_back.proofs.Written.{wave_of_any, part-read}
use Rattle.wav_back.proofs.Stored.{stored_bytes, stored-finite}

-- The samples of a file as they are read, in f64 or in f32.
abbrev pub samples_in : Format → List ℕ → Wave → List Float
samples_in f b w = samples_of f w.kind (part_of b w.start w.length) (w.length / width_of w.kind)

some_bytes : (kind : SampleKind) → 0 < width_of kind
some_bytes Pcm16 = omega arith
some_bytes Pcm24 = omega arith
some_bytes Float32 = omega arith

module _ (f : Format) (form : Form) (kind : SampleKind) (channels rate : ℕ) (samples : List Float) (room : ℕ)
    (v : verdict kind channels rate samples room ≡ 0) (behind : List ℕ) where
  abbrev again : List Float
  again =
      samples_in f (file_of form kind channels rate samples ++ behind) (wave_of_any kind channels rate (length samples))

  again-is : again ≡ samples_of f kind (bytes_of kind samples) (length samples)
  again-is =
      ap (λ (b : List ℕ). samples_of f kind b (size_of kind (length samples) / width_of kind))
      (part-read form kind channels rate samples behind)
      ∙ ap (λ (n : ℕ). samples_of f kind (bytes_of kind samples) n) (mul-div_cancel (length samples) (some_bytes kind))

  length-again : length again ≡ length samples
  length-again = ap length again-is ∙ length-list _ (length samples)

  stored-again : (all_fit kind again ≡ true) × (bytes_of kind again ≡ bytes_of kind samples)
  stored-again =
      let fit = (write-none kind channels rate samples room).0 v 4 in
      let r = read_back kind f (bytes_of kind samples) (stored_bytes kind samples) (length samples)
      (length-bytes kind samples) (stored-finite f kind samples fit) in
      (ap (all_fit kind) again-is ∙ r.0, ap (bytes_of kind) again-is ∙ r.1)

  -- W2c. Written again the samples give the same file, and nothing is refused.
  pub same-file : file_of form kind channels rate again ≡ file_of form kind channels rate samples
  unfolding file_of
  same-file = rw (length-again, stored-again.1)

  pub not-refused-again : verdict kind channels rate again room ≡ 0
  not-refused-again =
      let test = (write-none kind channels rate samples room).0 v in
      rw (length-again, stored-again.0, test 0, test 1, test 2, test 3)
