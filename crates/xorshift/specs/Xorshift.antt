-- M3. The generator xorshift64*, as published: S. Vigna, "An experimental exploration of Marsaglia's xorshift
-- generators, scrambled", ACM Transactions on Mathematical Software 42(4), 2016: x ^= x >> 12; x ^= x << 25; x ^= x >>
-- 27; return x * 2685821657736338717. Words of 64 digits. Definitions only.
use Rattle.std.specs.Prelude.{ℕ, ◌*◌, ◌/◌, ◌%◌, ◌^◌}
use Rattle.wrapping_u64.specs.Xor.{xor}

abbrev pub shifted_right : ℕ → ℕ → ℕ
shifted_right n x = x / 2 ^ n

abbrev pub shifted_left : ℕ → ℕ → ℕ
shifted_left n x = x * 2 ^ n % 2 ^ 64

-- The state that follows x.
unfoldable pub step_of : ℕ → ℕ
step_of x =
    let a = xor x (shifted_right 12 x) in
    let b = xor a (shifted_left 25 a) in
    xor b (shifted_right 27 b)

-- What is handed out when the state has become x.
abbrev pub value_of : ℕ → ℕ
value_of x = x * 2685821657736338717 % 2 ^ 64
