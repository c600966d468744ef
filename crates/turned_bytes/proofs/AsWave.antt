-- W12f for a block: filling from an AIFF's part gives the same as reversing its samples and filling from it as a WAV's
-- part. By the sample at each place, which is reversed in place. Assumes nothing.
use mathlib.Core.Path.{◌≡◌, refl, sym, ap, ◌∙◌}
use mathlib.Core.Bool.{true, true≢false}
use mathlib.Core.List.{List, ◌++◌, reverse}
use Prim.Native.Nat.{ℕ, zero, suc, ◌+◌, ◌*◌, ◌/◌, ◌≤◌, ◌<◌}
use native.Mathlib.Nat.{suc-mul, zero-mul, add-mul, mul_assoc, mul-le-mul_right}
use native.Mathlib.Omega.{arith}
use lib.IntN.{ℤ}
use lib.ListN.{length, take, drop, length-append, length-drop, length-reverse}
use lib.Seq.{length-take-le, take_at, drop-append-add, drop-drop}
use lib.Ieee.{Float, Format}
use Rattle.word_bytes.specs.Bytes.{bytes_value}
use Rattle.high_first.specs.High.{big_number}
use Rattle.sample_kind.specs.declared.SampleKind.{SampleKind}
use Rattle.sample_kind.specs.declared.SampleKind.TheVariants.{Pcm16, Pcm24, Float32}
use Rattle.sample_kind.specs.Kinds.{width_of, frame_of}
use Rattle.wav_format.specs.Format.{number}
use Rattle.wav_samples.specs.Samples.{is_pcm}
use Rattle.wav_samples.specs.Filling as wav
use Rattle.aiff_samples.specs.Samples as aiff
use Rattle.aiff_samples.proofs.AsWave.{same-floats, same_numbers}
use Rattle.turned_bytes.specs.Turned.{turned_first, turned_round}

-- ---- the first sample is reversed, then the others behind it
module _ (w : ℕ) (b : List ℕ) (n : ℕ) (h : suc n * w ≤ length b) where
  fits : n * w + w ≤ length b
  fits = rw suc-mul at h

  first-long : length (reverse (take w b)) ≡ w
  first-long = length-reverse (take w b) ∙ length-take-le w b (omega (arith, fits))

  rest-fits : n * w ≤ length (drop w b)
  rest-fits = simp length-drop (omega (arith, fits))

same_length : (w n : ℕ) (b : List ℕ) → n * w ≤ length b → length (turned_first w n b) ≡ length b
unfolding turned_first
same_length w zero b h = refl
same_length w (suc n) b h =
    length-append (reverse (take w b)) _
    ∙ omega (arith, first-long w b n h, same_length w n (drop w b) (rest-fits w b n h), length-drop w b, fits w b n h)

at-sample : (w j n : ℕ) (b : List ℕ) → j < n → n * w ≤ length b
    → take w (drop (j * w) (turned_first w n b)) ≡ reverse (take w (drop (j * w) b))
unfolding turned_first
at-sample w j zero b l h = absurd (omega arith)
at-sample w zero (suc n) b l h =
    rw zero-mul (take_at (reverse (take w b)) (turned_first w n (drop w b)) w (first-long w b n h))
at-sample w (suc j) (suc n) b l h =
    let r = reverse (take w b) in
    let t = turned_first w n (drop w b) in
    let long : length r ≡ w = first-long w b n h in
    let place : suc j * w ≡ length r + j * w = suc-mul j w ∙ omega (arith, long) in
    let back : w + j * w ≡ suc j * w = omega (arith, suc-mul j w) in
    ap (take w) (ap (λ (m : ℕ). drop m (r ++ t)) place ∙ drop-append-add r t (j * w))
    ∙ at-sample w j n (drop w b) (omega arith) (rest-fits w b n h)
    ∙ ap (λ (l : List ℕ). reverse (take w l))
    (drop-drop (j * w) w b ∙ ap (λ (m : ℕ). drop m b) back)

-- ---- the number at a sample's place
turned-number : (kind : SampleKind) → is_pcm kind ≡ true → (b : List ℕ) (j : ℕ)
    → j * width_of kind + width_of kind ≤ length b
    → big_number (width_of kind) b (j * width_of kind) ≡ number (width_of kind) (turned_round kind b) (j * width_of
    kind)
turned-number Pcm16 p b j h =
    ap bytes_value (sym (at-sample 2 j (length b / 2) b (omega arith) (omega arith)))
turned-number Pcm24 p b j h =
    ap bytes_value (sym (at-sample 3 j (length b / 3) b (omega arith) (omega arith)))
turned-number Float32 p b j h = absurd (true≢false (sym p))

turned-long : (kind : SampleKind) (b : List ℕ) → length b ≡ length (turned_round kind b)
turned-long Pcm16 b = sym (same_length 2 (length b / 2) b (omega arith))
turned-long Pcm24 b = sym (same_length 3 (length b / 3) b (omega arith))
turned-long Float32 b = refl

-- ---- a part of n frames
module _ (kind : SampleKind) (pcm : is_pcm kind ≡ true) (channels channel n : ℕ) (part : List ℕ)
    (whole : n * frame_of kind channels ≤ length part) (there : channel < channels) where
  place : (k : ℕ) → k * frame_of kind channels + frame_of kind channel ≡ (k * channels + channel) * width_of kind
  place k = sym (add-mul (k * channels) channel (width_of kind) ∙ rw mul_assoc)

  inside : (k : ℕ) → k < n → (k * channels + channel) * width_of kind + width_of kind ≤ length part
  inside k l =
      let m : suc k ≤ n = omega arith in
      let c : k * channels + channels ≤ n * channels = rw suc-mul at (mul-le-mul_right channels m) in
      let s : suc (k * channels + channel) ≤ n * channels = omega arith in
      omega (
        arith,
        rw suc-mul at (mul-le-mul_right (width_of kind) s),
        mul_assoc n channels (width_of kind),
      )

  same : (k : ℕ) → k < n
      → big_number (width_of kind) part (k * frame_of kind channels + frame_of kind channel)
      ≡ number (width_of kind) (turned_round kind part) (k * frame_of kind channels + frame_of kind channel)
  same k l = rw (place k) (turned-number kind pcm part (k * channels + channel) (inside k l))

  pub floats-as-wave : (f : Format) (xs : List Float)
      → wav.filled f kind channels channel (turned_round kind part) n xs ≡ aiff.filled f kind channels channel part n xs
  floats-as-wave f xs =
      sym (same-floats kind pcm channels channel n part (turned_round kind part) (turned-long kind part) same f xs)

  pub numbers-as-wave : (zs : List ℤ)
      → wav.filled_whole kind channels channel (turned_round kind part) n zs
      ≡ aiff.filled_whole kind channels channel part n zs
  numbers-as-wave zs =
      sym (same_numbers kind pcm channels channel n part (turned_round kind part) (turned-long kind part) same zs)
