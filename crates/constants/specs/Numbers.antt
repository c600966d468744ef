-- The numbers of document 01 that several crates name, for definitions. A float `fin s m e` is m × 2^e, below zero if s
-- is true; zero, one and two are the same in either format. Definitions only.
use Rattle.std.specs.Prelude.{ℕ, ◌+◌, ◌^◌, true, false, pos, Float}
use Rattle.std.specs.Float.{fin, binary64}
use Rattle.std.specs.Float.Ieee.{of_bits}

-- These are +0.0, 1.0 and 2.0.
abbrev pub zero-f : Float
zero-f = fin false 0 (pos 0)

abbrev pub one-f : Float
one-f = fin false 1 (pos 0)

abbrev pub two-f : Float
two-f = fin false 1 (pos 1)

-- The same numbers by their f64 patterns, which is how a literal of the code is read. The law `same` in
-- proofs/Patterns.antt shows that both spellings are one float.
abbrev pub zero_bits : Float
zero_bits = of_bits binary64 0

abbrev pub one-bits : Float
one-bits = of_bits binary64 0x3ff0_0000_0000_0000

abbrev pub two-bits : Float
two-bits = of_bits binary64 0x4000_0000_0000_0000

-- 2^36: the largest number of samples that a reader accepts, the largest delay, and the largest distance of a position
-- from zero (01, 'Ranges').
abbrev pub limit : ℕ
limit = 2 ^ 36

abbrev pub limit-f : Float
limit-f = fin false 1 (pos 36)

abbrev pub minus-limit-f : Float
minus-limit-f = fin true 1 (pos 36)

-- T3. How many f32 one set of a bank has: those of Normal, of Hq and of Ultra.
abbrev pub set_length : ℕ
set_length = 163920 + 393312 + 524416
