-- W1, D3. What a stored PCM sample of width w means: two's complement of w digits, in units of 2^(1-w). So 16 bits are
-- whole multiples of 2^-15 and 24 bits of 2^-23. Definitions only.
use Rattle.std.specs.Prelude.{ℕ, ◌-◌, ◌%◌, ◌^◌, Bool, cond, leb, ℤ, pos, neg_ℤ, ◌*ℤ◌, Float}
use Rattle.std.specs.Float.{Format}
use Rattle.std.specs.Float.Ieee.{round}

-- Whether the highest of the last w digits of n is 1.
abbrev pub negative : ℕ → ℕ → Bool
negative w n = leb (2 ^ (w - 1)) (n % 2 ^ w)

abbrev pub size : ℕ → ℕ → ℕ
size w n = cond (negative w n) (2 ^ w - n % 2 ^ w) (n % 2 ^ w)

abbrev pub signed : ℕ → ℕ → ℤ
signed w n = cond (negative w n) (neg_ℤ (pos (size w n))) (pos (size w n))

-- `signed w n` / 2^(w-1), rounded to the format. Up to 24 digits nothing is rounded off, as the law `exact` of this
-- crate shows.
unfoldable pub whole_of : Format → ℕ → ℕ → Float
unfolding round
whole_of f w n = round f (negative w n) (size w n) (2 ^ (w - 1))

-- The same as a whole number in units of 2^-23, the unit of demand 3 and of the residual: 24 bits as they are, 16 bits
-- times 2^8.
abbrev pub units_of : ℕ → ℕ → ℤ
units_of w n = signed w n *ℤ pos (2 ^ (24 - w))
