-- W2. A block of samples as stored bytes, and by which number it is refused. Definitions only.
use Rattle.std.specs.Prelude.{ℕ, zero, suc, ◌*◌, Bool, true, ◌&&◌, List, [], ◌∷◌, ◌++◌, eqb, length, Float}
use Rattle.refusal_order.specs.Order.{◌unless◌, first_of}
use Rattle.sample_kind.specs.declared.SampleKind.{SampleKind}
use Rattle.sample_kind.specs.Kinds.{width_of}
use Rattle.stored_samples.specs.Stored.{fits_in, word_of}
use Rattle.word_bytes.specs.Bytes.{low_bytes}

-- W2e. Every sample fits: none is a NaN or out of range.
unfoldable pub all_fit : SampleKind → List Float → Bool
all_fit kind [] = true
all_fit kind (x ∷ xs) = fits_in kind x && all_fit kind xs

-- The bytes of each sample in order, the low one first.
unfoldable pub bytes_of : SampleKind → List Float → List ℕ
unfolding low_bytes
bytes_of kind [] = []
bytes_of kind (x ∷ xs) = low_bytes (width_of kind) (word_of kind x) ++ bytes_of kind xs

-- W2f. 2 means that a lent slice of n bytes is not as long as the samples' bytes, 15 that a sample is out of range or a
-- NaN.
unfoldable pub verdict : SampleKind → List Float → ℕ → ℕ
unfolding all_fit
verdict kind xs n = first_of (2 unless eqb n (length xs * width_of kind) ∷ 15 unless all_fit kind xs ∷ [])

-- What the lent slice holds after the call: a refusal writes nothing.
abbrev pub stored_by : ℕ → List ℕ → List ℕ → List ℕ
stored_by zero new old = new
stored_by (suc k) new old = old

abbrev pub stored : SampleKind → List Float → List ℕ → List ℕ
stored kind xs old = stored_by (verdict kind xs (length old)) (bytes_of kind xs) old
