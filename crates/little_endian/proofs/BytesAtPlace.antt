-- The number of k + 1 bytes at a place is made of its first byte and the number of the k bytes behind it, also past the
-- end. By induction over the place. Assumes nothing.
use mathlib.Core.Path.{◌≡◌, refl}
use mathlib.Core.List.{List, [], ◌∷◌}
use Prim.Native.Nat.{ℕ, zero, suc, ◌+◌, ◌*◌}
use native.Mathlib.Nat.{add-suc}
use native.Mathlib.Numerals.{add-one}
use native.Mathlib.Omega.{arith}
use lib.ListN.{take, drop, get_or}
use Rattle.word_bytes.specs.Bytes.{bytes_value}

none : (k : ℕ) → bytes_value (take k []) ≡ 0
unfolding bytes_value
none zero = refl
none (suc k) = refl

byte_at : (k : ℕ) (b : List ℕ) (at : ℕ) → bytes_value (take (suc k) (drop at b))
    ≡ bytes_value (take k (drop (suc at) b)) * 256 + get_or b at 0
unfolding bytes_value
byte_at k [] zero = omega (arith, none k)
byte_at k [] (suc at) = omega (arith, none k)
byte_at k (x ∷ xs) zero = refl
byte_at k (x ∷ xs) (suc at) = byte_at k xs at

-- The places as the code counts them: the first byte, and the one that stands j behind it.
pub first_byte : (k : ℕ) (b : List ℕ) (at : ℕ) → bytes_value (take (suc k) (drop at b))
    ≡ bytes_value (take k (drop (at + 1) b)) * 256 + get_or b at 0
first_byte k b at = rw add-one (byte_at k b at)

pub later-byte : (k : ℕ) (b : List ℕ) (at j : ℕ)
    → bytes_value (take (suc k) (drop (at + j) b))
    ≡ bytes_value (take k (drop (at + suc j) b)) * 256 + get_or b (at + j) 0
later-byte k b at j = rw (add-suc at j) (byte_at k b (at + j))
