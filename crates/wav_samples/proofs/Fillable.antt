-- W1c. With one or two channels, an existing channel and a place for each frame nothing is refused; and 1 or 2 is
-- returned exactly when its test is the first that fails. Assumes nothing.
use mathlib.Core.Path.{◌≡◌, refl}
use mathlib.Core.Logic.{◌↔◌}
use mathlib.Core.Bool.{Bool, true, ◌&&◌}
use mathlib.Core.List.{List, [], ◌∷◌}
use Prim.Native.Nat.{ℕ, suc, ◌*◌, ◌≤◌, ◌<◌}
use borrow.Author.Tests.{le-leb, lt-ltb, eq-eqb}
use lib.Dec.{eqb, leb, ltb}
use Rattle.refusal_order.specs.Order.{Test, ◌unless◌, First}
use Rattle.refusal_order.proofs.First.{lowest}
use Rattle.sample_kind.specs.declared.SampleKind.{SampleKind}
use Rattle.sample_kind.specs.Kinds.{frame_of}
use Rattle.wav_samples.specs.Samples.{is_pcm}
use Rattle.wav_samples.specs.Filling.{refused_by, verdict, whole_verdict}

module _ (kind : SampleKind) (channels channel size n : ℕ) where
  -- The table of refusals, in the order of `refused_by`.
  abbrev pub tests : Bool → List Test
  tests asked = 1 unless (asked && (leb channels 2 && ltb channel channels)) ∷ 2 unless eqb size
      (n * frame_of kind channels) ∷ []

  pub exactly-when : (asked : Bool) (k : ℕ) → refused_by asked kind channels channel size n
      ≡ suc k ↔ First (tests asked) k
  exactly-when asked k = lowest (tests asked) refl k

  module _ (few : channels ≤ 2) (there : channel < channels) (whole : size ≡ n * frame_of kind channels) where
    pub fillable : verdict kind channels channel size n ≡ 0
    fillable = simp (
      le-leb channels 2 few,
      lt-ltb channel channels there,
      eq-eqb size (n * frame_of kind channels) whole,
    )

    pub whole-fillable : is_pcm kind ≡ true → whole_verdict kind channels channel size n ≡ 0
    whole-fillable pcm = simp (
      pcm,
      le-leb channels 2 few,
      lt-ltb channel channels there,
      eq-eqb size (n * frame_of kind channels) whole,
    )
