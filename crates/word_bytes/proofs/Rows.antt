-- One more digit: what each turn of the loops adds to the number that is read, or to the digits that are written.
-- Assumes nothing.
use mathlib.Core.Path.{◌≡◌}
use mathlib.Core.List.{List, ◌++◌, append_assoc}
use Prim.Native.Nat.{ℕ, zero, suc, ◌+◌, ◌*◌, ◌/◌, ◌%◌, ◌^◌, ◌<◌, ◌≤◌}
use native.Mathlib.Nat.{pow-suc, pow-le-pow_right, lt_of_lt_of_le}
use native.Mathlib.Omega.{arith}
use lib.Arith.{digits_lt}
use lib.ListN.{length, take, drop, set, get_or, length-set}
use lib.Seq.{drop-cons, drop-set-lt, get_or-set_same, take-suc-set}
use Rattle.word_bytes.specs.Hex.{glyph, hex_digits, digit_of, hex_value}
use Rattle.word_bytes.specs.Bytes.{low_bytes, bytes_value}

-- A number of i digits to the base b, with one more digit.
pub one_more : (b i : ℕ) {v d : ℕ} → v < b ^ i → d < b → v * b + d < b ^ suc i
one_more b i hv hd = rw pow-suc (digits_lt hv hd)

-- A number of i digits is also one of j digits.
pub within : (b : ℕ) {i : ℕ} (j : ℕ) {v : ℕ} → v < b ^ i → i ≤ j → zero < b → v < b ^ j
within b j hv hj hb = lt_of_lt_of_le hv (pow-le-pow_right hb hj)

-- All but k digits of v are written; the next is written at k.
pub hex-written : (xs : List ℕ) (k v : ℕ) → k < length xs
    → hex_digits (suc k) v ++ drop (suc k) xs ≡ hex_digits k (v / 16) ++ drop k (set xs k (glyph (v % 16)))
unfolding hex_digits
hex-written xs k v h =
    let g = glyph (v % 16) in
    let s : k < length (set xs k g) = simp length-set (omega arith) in
    let l : k < suc k = omega arith in
    rw (drop-cons (set xs k g) k 0 s, get_or-set_same xs k g 0 h, drop-set-lt (suc k) xs k g l, append_assoc)

pub hex-read : (xs : List ℕ) (i v : ℕ) → i < length xs
    → hex_value v (drop i xs) ≡ hex_value (v * 16 + digit_of (get_or xs i 0)) (drop (suc i) xs)
unfolding hex_value
hex-read xs i v h = rw (drop-cons xs i 0 h)

pub byte-read : (xs : List ℕ) (k : ℕ) → k < length xs
    → bytes_value (drop k xs) ≡ bytes_value (drop (suc k) xs) * 256 + get_or xs k 0
unfolding bytes_value
byte-read xs k h = rw (drop-cons xs k 0 h)

pub byte-written : (xs : List ℕ) (i m v : ℕ) → i < length xs
    → take i xs ++ low_bytes (suc m) v ≡ take (suc i) (set xs i (v % 256)) ++ low_bytes m (v / 256)
unfolding low_bytes
byte-written xs i m v h = rw (take-suc-set xs i (v % 256) h, append_assoc)
