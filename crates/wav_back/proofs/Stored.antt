-- W2c. Stored samples are bytes, and a float that fits is stored as a finite one. Storing the samples again requires
-- both. Assumes nothing.
use mathlib.Core.Path.{◌≡◌, ap, ◌∙◌, subst⁻¹}
use mathlib.Core.Bool.{true}
use mathlib.Core.List.{List, [], ◌∷◌, ◌++◌}
use Prim.Native.Nat.{ℕ, zero, suc, ◌+◌, ◌*◌, ◌/◌, ◌^◌, ◌<◌}
use native.Mathlib.Nat.{mod-lt}
use native.Mathlib.Omega.{arith}
use denote.Floats.{passes}
use lib.Dec.{T, lit≤}
use lib.ListN.{length, take}
use lib.Seq.{drop-append-add}
use lib.Ieee.{Float, Format, nan, inf, fin, binary32, fits, of_bits, up, down}
use lib.Ieee.Bits.{of_bits-to_bits, to_bits-lt}
use lib.Ieee.Fits.{round-fits}
use lib.Ieee.Scale.{finite}
use Rattle.rounding.specs.Operations.{narrowed}
use Rattle.word_bytes.specs.Bytes.{low_bytes, bytes_value}
use Rattle.word_bytes.proofs.ReadBack.{bytes_back}
use Rattle.sample_kind.specs.declared.SampleKind.{SampleKind}
use Rattle.sample_kind.specs.declared.SampleKind.TheVariants.{Pcm16, Pcm24, Float32}
use Rattle.sample_kind.specs.Kinds.{width_of}
use Rattle.stored_samples.specs.Stored.{fits_in, word_of}
use Rattle.wav_format.specs.Format.{number}
use Rattle.wav_store.specs.Storing.{all_fit, bytes_of}
use Rattle.wav_store.specs.Parts.{AllFinite}
use Rattle.wav_store.proofs.ReadBack.{Bytes, pcm-finite}
use Rattle.wav_header.proofs.Planned.{both_hold}
use Rattle.wav_header.proofs.Pieces.{length-low}

-- ---- what is stored is bytes
low-bytes : (k n : ℕ) → Bytes (low_bytes k n)
unfolding low_bytes
low-bytes zero n i = lit≤ tt
low-bytes (suc k) n zero = mod-lt n (lit≤ tt)
low-bytes (suc k) n (suc i) = low-bytes k (n / 256) i

both_bytes : (xs ys : List ℕ) → Bytes xs → Bytes ys → Bytes (xs ++ ys)
both_bytes [] ys h k i = k i
both_bytes (x ∷ xs) ys h k zero = h zero
both_bytes (x ∷ xs) ys h k (suc i) = both_bytes xs ys (λ j. h (suc j)) k i

pub stored_bytes : (kind : SampleKind) (xs : List Float) → Bytes (bytes_of kind xs)
unfolding bytes_of
stored_bytes kind [] = λ i. lit≤ tt
stored_bytes kind (x ∷ xs) =
    both_bytes (low_bytes (width_of kind) (word_of kind x)) (bytes_of kind xs)
    (low-bytes (width_of kind) (word_of kind x))
    (stored_bytes kind xs)

-- ---- a float that fits is stored as a finite one
narrow-fits : (x : Float) → T (finite (narrowed x)) → T (fits binary32 (narrowed x))
unfolding narrowed
narrow-fits nan t = absurd t
narrow-fits (inf s) t = absurd t
narrow-fits (fin s m e) t = round-fits binary32 s (m * up e) (down e)

word-finite : (x : Float) → fits_in Float32 x ≡ true
    → (word_of Float32 x < 256 ^ 4) × T (finite (of_bits binary32 (word_of Float32 x)))
word-finite x h =
    let t = passes (finite (narrowed x)) h in
    let f = narrow-fits x t in
    rw h (to_bits-lt binary32 (narrowed x) f, rw (of_bits-to_bits binary32 (narrowed x) f) t)

-- The bytes of the first sample, and those of the others.
first-number : (w : ℕ) (rest : List ℕ) → w < 256 ^ 4 → number 4 (low_bytes 4 w ++ rest) 0 ≡ w
unfolding low_bytes
first-number w rest h = bytes_back 4 w h

later-number : (w : ℕ) (rest : List ℕ) (k : ℕ) → number 4 (low_bytes 4 w ++ rest) (suc k * 4) ≡ number 4 rest (k * 4)
later-number w rest k =
    let e : suc k * 4 ≡ length (low_bytes 4 w) + k * 4 = omega (arith, length-low 4 w) in
    ap (λ (n : ℕ). number 4 (low_bytes 4 w ++ rest) n) e
    ∙ ap (λ (l : List ℕ). bytes_value (take 4 l)) (drop-append-add (low_bytes 4 w) rest (k * 4))

floats-finite : (xs : List Float) → all_fit Float32 xs ≡ true → (k : ℕ) → k < length xs
    → T (finite (of_bits binary32 (number 4 (bytes_of Float32 xs) (k * 4))))
unfolding all_fit bytes_of
floats-finite [] h k l = absurd (omega arith)
floats-finite (x ∷ xs) h zero l =
    let w = word-finite x (both_hold (fits_in Float32 x) (all_fit Float32 xs) h).0 in
    subst⁻¹ (λ (n : ℕ). T (finite (of_bits binary32 n)))
    (first-number (word_of Float32 x) (bytes_of Float32 xs) w.0) w.1
floats-finite (x ∷ xs) h (suc k) l =
    subst⁻¹ (λ (n : ℕ). T (finite (of_bits binary32 n)))
    (later-number (word_of Float32 x) (bytes_of Float32 xs) k)
    (floats-finite xs (both_hold (fits_in Float32 x) (all_fit Float32 xs) h).1 k (omega arith))

not_16 : Pcm16 ≡ Float32 → ⊥
not_16 e = let z : ◌≡◌ {A = ℕ} 0 1 = cc in omega arith

not-24 : Pcm24 ≡ Float32 → ⊥
not-24 e = let z : ◌≡◌ {A = ℕ} 0 1 = cc in omega arith

pub stored-finite : (f : Format) (kind : SampleKind) (xs : List Float) → all_fit kind xs ≡ true
    → AllFinite f kind (bytes_of kind xs) (length xs)
stored-finite f Pcm16 xs h = pcm-finite f Pcm16 not_16 (bytes_of Pcm16 xs) (length xs)
stored-finite f Pcm24 xs h = pcm-finite f Pcm24 not-24 (bytes_of Pcm24 xs) (length xs)
stored-finite f Float32 xs h = floats-finite xs h
