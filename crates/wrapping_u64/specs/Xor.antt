-- The exclusive or of two words, digit by digit. `lib.Bits.bit_xor`, which is what `^` gives, takes as many steps as
-- its first argument and so does not compute at a word; this one takes as many as a word has digits. The law `xor_is`
-- says that they are the same.
use Rattle.std.specs.Prelude.{ℕ, zero, suc, ◌+◌, ◌*◌, ◌/◌, ◌%◌}

-- The exclusive or of the k lowest digits.
unfoldable pub xor_to : ℕ → ℕ → ℕ → ℕ
xor_to zero a b = 0
xor_to (suc k) a b = xor_to k (a / 2) (b / 2) * 2 + (a % 2 + b % 2) % 2

abbrev pub xor : ℕ → ℕ → ℕ
xor a b = xor_to 64 a b
