-- X2. Headerless binary32, low byte first, as input and output. Definitions only.
use Rattle.std.specs.Prelude.{ℕ, zero, suc, ◌*◌, ◌/◌, List, [], ◌∷◌, ◌++◌, length, take, drop, Float}
use Rattle.std.specs.Float.{binary32}
use Rattle.std.specs.Float.Ieee.{of_bits, to_bits}
use Rattle.word_bytes.specs.Bytes.{low_bytes, bytes_value}
use Rattle.render_samples.specs.Samples.{Held, answers_for, after_samples}

-- The first n samples.
unfoldable pub samples_of : ℕ → List ℕ → List Float
samples_of zero bytes = []
samples_of (suc n) bytes = of_bits binary32 (bytes_value (take 4 bytes)) ∷ samples_of n (drop 4 bytes)

-- At the end a part of fewer than 4 bytes is ignored.
abbrev pub samples_in : List ℕ → List Float
samples_in bytes = samples_of (length bytes / 4) bytes

-- A NaN is written as 7FC00000, the one pattern that to_bits gives.
unfoldable pub bytes_of : List Float → List ℕ
bytes_of [] = []
bytes_of (y ∷ ys) = low_bytes 4 (to_bits binary32 y) ++ bytes_of ys

-- The rendering that a block of bytes leaves, and the bytes in its place; a part of a sample at its end stays as it
-- was.
abbrev pub after_block : List Float → Held → List ℕ → Held
after_block table h bytes = after_samples table h (samples_in bytes)

abbrev pub rendered_of : List Float → Held → List ℕ → List ℕ
rendered_of table h bytes = bytes_of (answers_for table h (samples_in bytes)) ++ drop (length bytes / 4 * 4) bytes
