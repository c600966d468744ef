-- Four sums one after the other, each of which is accepted if it lies between two ends. Definitions only.
use Rattle.std.specs.Prelude.{◌≡◌, Bool, true, ◌&&◌, Float}
use Rattle.std.specs.Float.{binary64}
use Rattle.std.specs.Float.Ieee.{add, lt}

abbrev pub taken : Float → Float → Float → Bool
taken low high s = lt low s && lt s high

abbrev pub all_taken : Float → Float → Float → Float → Float → Float → Float → Bool
all_taken low high sum a b c d =
    (taken low high (add binary64 a sum) && taken low high (add binary64 b (add binary64 a sum)))
    && (taken low high (add binary64 c (add binary64 b (add binary64 a sum)))
    && taken low high (add binary64 d (add binary64 c (add binary64 b (add binary64 a sum)))))

-- x + sum lies between low and high.
pub record Between (low high x sum : Float) : Type 0 where
  pub lower : lt low (add binary64 x sum) ≡ true
  pub upper : lt (add binary64 x sum) high ≡ true

-- Four sums one after the other that all lie between low and high; r is the last of them.
pub record Advanced (low high sum a b c d r : Float) : Type 0 where
  pub first : Between low high a sum
  pub second : Between low high b (add binary64 a sum)
  pub third : Between low high c (add binary64 b (add binary64 a sum))
  pub fourth : Between low high d (add binary64 c (add binary64 b (add binary64 a sum)))
  pub is : r ≡ add binary64 d (add binary64 c (add binary64 b (add binary64 a sum)))
