-- W2c for a call: the samples of a part, stored into a slice of the part's length, are not refused and give the part's
-- bytes. And the samples of one channel, frame by frame, are the part's samples in order. Assumes nothing.
use mathlib.Core.Path.{◌≡◌, refl, sym, ap, ◌∙◌}
use mathlib.Core.List.{List}
use Prim.Native.Nat.{ℕ, ◌+◌, ◌*◌}
use native.Mathlib.Nat.{one-mul, zero-mul}
use native.Mathlib.Omega.{arith}
use borrow.Author.Tests.{eq-eqb}
use lib.ListN.{length}
use lib.Ieee.{Format}
use Rattle.loop_laws.specs.Loops.{list_of}
use Rattle.loop_laws.proofs.Lists.{length-list, same-list}
use Rattle.sample_kind.specs.declared.SampleKind.{SampleKind}
use Rattle.sample_kind.specs.Kinds.{width_of, frame_of}
use Rattle.wav_samples.specs.Samples.{sample_of}
use Rattle.wav_store.specs.Storing.{verdict, stored}
use Rattle.wav_store.specs.Parts.{samples_of, AllFinite}
use Rattle.wav_store.proofs.ReadBack.{Bytes, read_back}
use Rattle.wav_store.proofs.Stores.{written}

module _ (f : Format) (kind : SampleKind) (b : List ℕ) (n : ℕ) where
  pub stores_back : Bytes b → length b ≡ n * width_of kind → AllFinite f kind b n
      → (old : List ℕ) → length old ≡ length b
      → (0 ≡ verdict kind (samples_of f kind b n) (length old)) × (b ≡ stored kind (samples_of f kind b n) old)
  stores_back h l t old e =
      let xs = samples_of f kind b n in
      let r = read_back kind f b h n l t in
      let k : length xs ≡ n = length-list _ n in
      let whole : length old ≡ length xs * width_of kind = e ∙ l ∙ ap (λ (m : ℕ). m * width_of kind) (sym k) in
      written kind xs old refl (eq-eqb (length old) (length xs * width_of kind) whole) refl r.0 (sym r.1)

  pub one-channel : list_of (λ (k : ℕ). sample_of f kind b (k * frame_of kind 1 + frame_of kind 0)) n
      ≡ samples_of f kind b n
  one-channel =
      same-list _ _ n
      (λ k l.
      let one = ap (λ (m : ℕ). k * m) (one-mul (width_of kind)) in
      ap (sample_of f kind b) (omega (arith, zero-mul (width_of kind))))
