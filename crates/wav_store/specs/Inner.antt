-- What the private functions of the crate need and promise. Definitions only.
use Rattle.std.specs.Prelude.{ℕ, zero, suc, ◌+◌, ◌*◌, ◌/◌, ◌%◌, ◌^◌, ◌≤◌, ◌<◌, ◌≡◌, true, false, List, ◌++◌, pos}
use Rattle.std.specs.Prelude.{negsuc, length, take, drop, get_or, Float}
use Rattle.std.specs.Float.{fin, binary64}
use Rattle.std.specs.Float.Ieee.{to_bits}
use Rattle.std.specs.List.{flat_map}
use Rattle.sample_kind.specs.declared.SampleKind.{SampleKind}
use Rattle.sample_kind.specs.declared.SampleKind.TheVariants.{Float32}
use Rattle.sample_kind.specs.Kinds.{width_of}
use Rattle.stored_samples.specs.Stored.{fits_in}
use Rattle.word_bytes.specs.Bytes.{low_bytes}
use Rattle.wav_store.specs.Storing.{all_fit, bytes_of}

-- Each result that a closure gives is that of h.
abbrev pub Computes : {A R : Type 0} → (A → R → Type 0) → (A → R) → Type 0
Computes gives h = (x : _) (r : _) → gives x r → r ≡ h x

-- The numbers of elements as bytes, the lowest `wide` bytes of each.
abbrev pub words_of : {A : Type 0} → ℕ → (A → ℕ) → List A → List ℕ
words_of wide v xs = flat_map (λ (x : _). low_bytes wide (v x)) xs

-- P holds of each element.
abbrev pub AtEach : {A : Type 0} → (A → Type 0) → List A → Type 0
AtEach P xs = (k : ℕ) (d : _) → k < length xs → P (get_or xs k d)

-- P holds of each element from the i-th on, before the j-th.
abbrev pub AtThese : {A : Type 0} → (A → Type 0) → List A → ℕ → ℕ → Type 0
AtThese P xs i j = (k : ℕ) (d : _) → i ≤ k → k < j → P (get_or xs k d)

-- What writing needs: a slice of the right length, and samples that fit.
pub record Ready (kind : SampleKind) (xs : List Float) (out : List ℕ) : Type 0 where
  pub long : length out ≡ length xs * width_of kind
  pub fit : all_fit kind xs ≡ true

-- 3 · 2^-98, the least that is added to a sample so that it rounds at an f32's last unit.
abbrev pub least_added : Float
least_added = fin false 3 (negsuc 97)

-- A sample is plain if its exponent shows that it is at least 2^-125; then storing it as an f32 takes fewer steps.
pub record Plain (x : Float) : Type 0 where
  pub fit : fits_in Float32 x ≡ true
  pub large : 897 < to_bits binary64 x / 2 ^ 52 % 2048

abbrev pub AllPlain : List Float → Type 0
AllPlain xs = (k : ℕ) → k < length xs → (d : Float) → Plain (get_or xs k d)

abbrev pub two : Float
two = fin false 1 (pos 1)

-- What the pattern of a sample, cut off at 2, shows. If the digit 2^62 is 0 the sample fits, and if the four digits
-- below it are all 1 it is also plain.
pub record Tells (x : Float) (b : ℕ) : Type 0 where
  pub fits : b / 2 ^ 62 % 2 ≡ 0 → fits_in Float32 x ≡ true
  pub plain : b / 2 ^ 62 % 2 ≡ 0 → b / 2 ^ 58 % 16 ≡ 15 → Plain x

-- What testing all samples shows. 0: some does not fit. 1: all fit. 2: all are plain, and are to be stored as floats.
abbrev pub Seen : SampleKind → List Float → ℕ → Type 0
Seen kind xs zero = all_fit kind xs ≡ false
Seen kind xs (suc zero) = all_fit kind xs ≡ true
Seen kind xs (suc (suc n)) = (kind ≡ Float32) × AllPlain xs

-- What writing plain samples as floats needs.
pub record PlainReady (xs : List Float) (out : List ℕ) : Type 0 where
  pub long : length out ≡ length xs * 4
  pub plain : AllPlain xs

-- ---- sixteen samples at a time
-- The first i samples are written.
pub record Placed (kind : SampleKind) (xs : List Float) (out : List ℕ) (i : ℕ) : Type 0 where
  pub long : length out ≡ length xs * width_of kind
  pub most : i ≤ length xs
  pub whole : bytes_of kind xs ≡ take (i * width_of kind) out ++ bytes_of kind (drop i xs)

-- There are n more samples from the i-th on, and all samples fit.
pub record Next (n : ℕ) (xs : List Float) (i : ℕ) : Type 0 where
  pub room : i + n ≤ length xs
  pub fit : all_fit Float32 xs ≡ true

abbrev pub PlainFrom : ℕ → List Float → ℕ → Type 0
PlainFrom n xs i = (k : ℕ) → k < n → (d : Float) → Plain (get_or xs (i + k) d)

pub record Turn (n : ℕ) (xs : List Float) (out : List ℕ) (i : ℕ) : Type 0 where
  pub next : Next n xs i
  pub placed : Placed Float32 xs out i

-- The four digits below 2^62.
abbrev pub four : ℕ
four = 0x3c00_0000_0000_0000
