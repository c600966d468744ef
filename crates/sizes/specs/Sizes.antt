-- The largest size. Definitions only.
use Rattle.std.specs.Prelude.{ℕ}

-- The largest word, 2^64 - 1.
abbrev pub most : ℕ
most = 0xffffffffffffffff
