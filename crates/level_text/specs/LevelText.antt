-- A level as text: its sign, whole decibels, a point, the tenth and the unit. Definitions only.
use Rattle.std.specs.Prelude.{ℕ, ◌-◌, ◌/◌, ◌%◌, cond, List, ◌++◌, ltb, Option, Some, None}
use Rattle.text.specs.Text.{ascii, decimal}

-- A number of tenths, without a sign.
unfoldable pub size_text : ℕ → List ℕ
size_text t = decimal (t / 10) ++ (ascii "." ++ (decimal (t % 10) ++ ascii " dB"))

-- The level that lies j tenths below +6.1 dB. Above 0 it has a plus, below 0 a minus, and at 0 neither.
unfoldable pub tenths_text : ℕ → List ℕ
tenths_text j =
    cond (ltb j 61) (ascii "+" ++ size_text (61 - j)) (cond (ltb 61 j) (ascii "-" ++ size_text (j - 61)) (size_text 0))

-- Two stretches without a level are the same, sample for sample.
abbrev pub level_text : Option ℕ → List ℕ
level_text None = ascii "no difference"
level_text (Some j) = tenths_text j
