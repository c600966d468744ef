-- W2c for a block: storing the samples that were read from a part gives the part's bytes. For each sample the word is
-- the number that its bytes stand for, and the bytes of that number are these. Assumes nothing.
use mathlib.Core.Path.{◌≡◌, refl, sym, ap, ◌∙◌}
use mathlib.Core.Logic.{inl, inr}
use mathlib.Core.Bool.{Bool, true, ◌&&◌}
use mathlib.Core.List.{List, [], ◌∷◌, ◌++◌, append_assoc, append-nil}
use Prim.Native.Nat.{ℕ, zero, suc, ◌+◌, ◌-◌, ◌*◌, ◌/◌, ◌%◌, ◌^◌, ◌≤◌, ◌<◌}
use native.Mathlib.Nat.{pow-suc, add-mul, mul_assoc, suc-mul, zero-mul, mod-eq_of_lt}
use native.Mathlib.Omega.{arith}
use lib.Dec.{T, lit≤}
use lib.ListN.{length, take, drop, get_or, length-take, length-drop, get_or-eq_default}
use lib.Seq.{take-add, take_all, get_or-take, get_or-drop}
use lib.Ieee.{Float, Format}
use lib.Ieee.Scale.{finite}
use Rattle.rounding.proofs.NumberOrders.{lt-or-ge, and-true}
use Rattle.rounding.proofs.Values.{value-finite}
use Rattle.loop_laws.specs.Loops.{list_of}
use Rattle.loop_laws.proofs.Lists.{element}
use Rattle.word_bytes.specs.Bytes.{low_bytes, bytes_value}
use Rattle.sample_kind.specs.declared.SampleKind.{SampleKind}
use Rattle.sample_kind.specs.declared.SampleKind.TheVariants.{Pcm16, Pcm24, Float32}
use Rattle.sample_kind.specs.Kinds.{width_of, frame_of}
use Rattle.stored_samples.specs.Stored.{fits_in, word_of}
use Rattle.stored_samples.proofs.Back.{again16, again24, again-float}
use Rattle.whole_samples.specs.Whole.{negative, size, whole_of}
use Rattle.whole_samples.proofs.Exact.{exact}
use Rattle.wav_samples.specs.Samples.{sample_of}
use Rattle.wav_store.specs.Storing.{all_fit, bytes_of}
use Rattle.wav_store.specs.Parts.{samples_of, AllFinite}
use Rattle.wav_store.proofs.Looked.{and_assoc}

-- ---- bytes and the number that they stand for
abbrev pub Bytes : List ℕ → Type 0
Bytes bs = (i : ℕ) → get_or bs i 0 < 256

-- The number that k bytes at a place stand for.
abbrev number : ℕ → List ℕ → ℕ → ℕ
number k b at = bytes_value (take k (drop at b))

value-lt : (bs : List ℕ) → Bytes bs → bytes_value bs < 256 ^ length bs
unfolding bytes_value
value-lt [] h = omega arith
value-lt (b ∷ bs) h = rw (pow-suc 256 (length bs)) (omega (arith, value-lt bs (λ i. h (suc i)), h 0))

low-back : (bs : List ℕ) → Bytes bs → low_bytes (length bs) (bytes_value bs) ≡ bs
unfolding low_bytes bytes_value
low-back [] h = refl
low-back (b ∷ bs) h =
    let r : (bytes_value bs * 256 + b) % 256 ≡ b = omega (arith, h 0) in
    let q : (bytes_value bs * 256 + b) / 256 ≡ bytes_value bs = omega (arith, h 0) in
    rw (r, q, low-back bs (λ i. h (suc i)))

-- ---- one sample of a part
module _ (b : List ℕ) (h : Bytes b) (at k : ℕ) (l : at + k ≤ length b) where
  abbrev part : List ℕ
  part = take k (drop at b)

  long : length part ≡ k
  long = simp (length-take, length-drop) (omega arith)

  each : Bytes part
  each i = elim (lt-or-ge i k) [
    | inl m ↦ rw (get_or-take k (drop at b) i 0 m, get_or-drop at b i 0) (h (at + i))
    | inr g ↦ rw (get_or-eq_default part 0 {n = i} (omega (arith, long))) (lit≤ tt)
  ]

  few : number k b at < 256 ^ k
  few = rw long at (value-lt part each)

  its-bytes : low_bytes k (number k b at) ≡ part
  its-bytes = rw long at (low-back part each)

sample-back : (f : Format) (kind : SampleKind) (b : List ℕ) (at : ℕ) → Bytes b → at + width_of kind ≤ length b
    → T (finite (sample_of f kind b at)) → (fits_in kind (sample_of f kind b at) ≡ true)
    × (low_bytes (width_of kind) (word_of kind (sample_of f kind b at)) ≡ take (width_of kind) (drop at b))
sample-back f Pcm16 b at h l t =
    let n = number 2 b at in
    let r = again16 f n in
    (r.0, ap (low_bytes 2) (r.1 ∙ mod-eq_of_lt {m = 2 ^ 16} (few b h at 2 l)) ∙ its-bytes b h at 2 l)
sample-back f Pcm24 b at h l t =
    let n = number 3 b at in
    let r = again24 f n in
    (r.0, ap (low_bytes 3) (r.1 ∙ mod-eq_of_lt {m = 2 ^ 24} (few b h at 3 l)) ∙ its-bytes b h at 3 l)
sample-back f Float32 b at h l t =
    let r = again-float (number 4 b at) (few b h at 4 l) t in
    (r.0, ap (low_bytes 4) r.1 ∙ its-bytes b h at 4 l)

-- ---- all samples
module _ (kind : SampleKind) where
  all_append : (xs : List Float) (x : Float) → all_fit kind (xs ++ (x ∷ [])) ≡ (all_fit kind xs && fits_in kind x)
  unfolding all_fit
  all_append [] x = and-true (fits_in kind x)
  all_append (y ∷ xs) x =
      ap (λ (t : Bool). fits_in kind y && t) (all_append xs x)
      ∙ sym (and_assoc (fits_in kind y) (all_fit kind xs) (fits_in kind x))

  bytes-append : (xs : List Float) (x : Float)
      → bytes_of kind (xs ++ (x ∷ [])) ≡ bytes_of kind xs ++ low_bytes (width_of kind) (word_of kind x)
  unfolding bytes_of
  bytes-append [] x = append-nil (low_bytes (width_of kind) (word_of kind x))
  bytes-append (y ∷ xs) x =
      let first = low_bytes (width_of kind) (word_of kind y) in
      ap (λ (ys : List ℕ). first ++ ys) (bytes-append xs x)
      ∙ sym (append_assoc first (bytes_of kind xs) (low_bytes (width_of kind) (word_of kind x)))

  module _ (f : Format) (b : List ℕ) (h : Bytes b) where
    front : (n : ℕ) → n * width_of kind ≤ length b → AllFinite f kind b n
        → (all_fit kind (samples_of f kind b n) ≡ true)
        × (bytes_of kind (samples_of f kind b n) ≡ take (n * width_of kind) b)
    unfolding list_of all_fit bytes_of
    front zero l t = (refl, sym (ap (λ (z : ℕ). take z b) (zero-mul (width_of kind))))
    front (suc n) l t =
        let w = width_of kind in
        let e : suc n * w ≡ n * w + w = suc-mul n w in
        let r = front n (omega arith) (λ k m. t k (omega arith)) in
        let s = sample-back f kind b (n * w) h (omega arith) (t n (omega arith)) in (
          all_append (samples_of f kind b n) (sample_of f kind b (n * w)) ∙ rw (r.0, s.0),
          bytes-append (samples_of f kind b n) (sample_of f kind b (n * w))
              ∙ rw (r.1, s.1, e) (sym (take-add (n * w) w b)),
        )

    -- W2c. The n samples of a part, in their order: all fit, and their bytes are the part's.
    pub read_back : (n : ℕ) → length b ≡ n * width_of kind → AllFinite f kind b n
        → (all_fit kind (samples_of f kind b n) ≡ true) × (bytes_of kind (samples_of f kind b n) ≡ b)
    read_back n l t =
        let r = front n (omega arith) t in
        (r.0, r.1 ∙ take_all (n * width_of kind) b (omega arith))

-- ---- PCM has no NaN and no infinity
pcm-value : (f : Format) (w n : ℕ) → 0 < w → w ≤ 24 → T (finite (whole_of f w n))
pcm-value f w n p h = value-finite (whole_of f w n) (negative w n) (size w n) (2 ^ (w - 1)) (exact f w n p h)

pub pcm-finite : (f : Format) (kind : SampleKind) → (kind ≡ Float32 → ⊥) → (b : List ℕ) (n : ℕ) → AllFinite f kind b n
pcm-finite f Pcm16 p b n k l = pcm-value f 16 (number 2 b (k * 2)) (lit≤ tt) (lit≤ tt)
pcm-finite f Pcm24 p b n k l = pcm-value f 24 (number 3 b (k * 3)) (lit≤ tt) (lit≤ tt)
pcm-finite f Float32 p b n k l = absurd (p refl)

-- ---- the sample of frame q and channel c: its place among all samples
pub interleaved : (f : Format) (kind : SampleKind) (b : List ℕ) (n channels q c : ℕ) (d : Float) → q * channels + c < n
    → get_or (samples_of f kind b n) (q * channels + c) d
    ≡ sample_of f kind b (q * frame_of kind channels + frame_of kind c)
interleaved f kind b n channels q c d h =
    element _ n (q * channels + c) d h
    ∙ ap (sample_of f kind b)
    (add-mul (q * channels) c (width_of kind)
    ∙ ap (λ (z : ℕ). z + c * width_of kind) (mul_assoc q channels (width_of kind)))
