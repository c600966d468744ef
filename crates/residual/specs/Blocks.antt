-- A block of at most 256 differences that is counted at once. Definitions only.
use Rattle.std.specs.Prelude.{ℕ, ◌+◌, ◌*◌, ◌/◌, ◌%◌, ◌^◌, ◌<◌, Bool, true, ◌&&◌, List, [], ◌∷◌, nat_le}
use Rattle.residual.specs.declared.tally.Tally.{Tally}
use Rattle.residual.specs.declared.parts.Parts.{Parts}
use Rattle.residual.specs.Tallies.{tallied}

-- A difference below 2^24 in two parts: d = high * 2^12 + low.
abbrev pub high_part : ℕ → ℕ
high_part d = d / 4096 % 4096

abbrev pub low_part : ℕ → ℕ
low_part d = d % 4096

abbrev pub no_parts : Parts
no_parts = record { highs = 0; mixed = 0; lows = 0; quiet = true }

-- The sums with one more difference, and whether it is at most the bound.
unfoldable pub part_of : ℕ → Parts → ℕ → Parts
part_of top p d = record {
  highs = p.highs + high_part d * high_part d;
  mixed = p.mixed + high_part d * low_part d;
  lows = p.lows + low_part d * low_part d;
  quiet = p.quiet && nat_le d top;
}

-- The sum of all (high * 2^12 + low)^2.
abbrev pub sum_of_parts : Parts → ℕ
sum_of_parts p = p.highs * 2 ^ 24 + p.mixed * 2 ^ 13 + p.lows

-- Each sum has room for n more differences: a product of two parts is at most 4095^2.
pub record Space (p : Parts) (n : ℕ) : Type 0 where
  pub high : p.highs + n * 16769025 < 2 ^ 32
  pub mix : p.mixed + n * 16769025 < 2 ^ 32
  pub low : p.lows + n * 16769025 < 2 ^ 32

-- No difference is above the bound.
unfoldable pub none_above : ℕ → List ℕ → Bool
none_above top [] = true
none_above top (d ∷ ds) = nat_le d top && none_above top ds

-- A tally with n more differences, none of which is above its largest, and whose squares have the sum s.
unfoldable pub added_to : Tally → ℕ → ℕ → Tally
added_to t n s = record {
  number = t.number + n;
  largest = t.largest;
  index = t.index;
  high = (tallied t + s) / 2 ^ 64;
  low = (tallied t + s) % 2 ^ 64;
}
