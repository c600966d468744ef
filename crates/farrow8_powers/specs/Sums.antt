-- K4, K6. 000's sums over eight samples: one for each power, by the quotients of its column. Definitions only.
use Rattle.std.specs.Prelude.{ℕ, List, get_or, Float}
use Rattle.std.specs.Float.{nan, binary64}
use Rattle.std.specs.Float.Ieee.{add, mul}
use Rattle.farrow8_powers.specs.Table.{quotients, column_in}
use Rattle.farrow8_powers.specs.declared.Powers.{Powers}

-- One product of 000's `dot!`.
abbrev pub term : List Float → List Float → ℕ → Float
term x c k = mul binary64 (get_or x k nan) (get_or c k nan)

-- 000's `dot!`: eight samples by eight quotients, added from the first on.
unfoldable pub dot_of : List Float → List Float → Float
dot_of x c =
    add binary64 (add binary64 (add binary64 (add binary64 (add binary64 (add binary64 (add binary64
    (term x c 0) (term x c 1)) (term x c 2)) (term x c 3)) (term x c 4)) (term x c 5)) (term x c 6)) (term x c 7)

-- The sum that belongs to the power p.
abbrev pub power : List Float → ℕ → Float
power x p = dot_of x (column_in quotients p)

-- The sums of the powers 1 to 7, and for power 0 the sample at the integer itself, which the sum by column 0 equals
-- (`power-0` in proofs/Centre.antt).
abbrev pub powers_of : List Float → Powers
powers_of x =
    record {
      s2 = power x 2;
      s6 = power x 6;
      s4 = power x 4;
      s7 = power x 7;
      s1 = power x 1;
      s3 = power x 3;
      s5 = power x 5;
      s0 = get_or x 3 nan;
    }
