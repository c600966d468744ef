-- M1. The seed that a generator starts from. Definitions only.
use Rattle.std.specs.Prelude.{ℕ, cond, eqb}
use Rattle.wrapping_u64.specs.Xor.{xor}

-- Seed 0 becomes A0761D6478BD642F.
abbrev pub seed_of : ℕ → ℕ
seed_of s = cond (eqb s 0) 0xA076_1D64_78BD_642F s

-- The flutter seed is the seed xor D1B54A32D192ED03 and is treated the same afterwards.
abbrev pub flutter_seed_of : ℕ → ℕ
flutter_seed_of s = seed_of (xor s 0xD1B5_4A32_D192_ED03)
