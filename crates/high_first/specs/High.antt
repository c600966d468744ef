-- W12. A number whose high byte comes first: reversing its bytes puts the low byte first. Definitions only.
use Rattle.std.specs.Prelude.{ℕ, List, reverse, take, drop}
use Rattle.word_bytes.specs.Bytes.{bytes_value}

abbrev pub big_value : List ℕ → ℕ
big_value bs = bytes_value (reverse bs)

-- The number of k bytes at a place, or of fewer if the list ends earlier.
abbrev pub big_number : ℕ → List ℕ → ℕ → ℕ
big_number k b at = big_value (take k (drop at b))
