-- Four turns whose sums are rounded on their bit patterns. Assumes nothing.
use Rattle.std.proofs.Common.{◌≡◌, ℕ, ◌+◌, List, get_or, refl, arith}
use lib.Ieee.{Float, nan}
use Rattle.fused_chain.specs.Chain.{coefficient_of}
use Rattle.fused_chain.specs.Blocks.{Carries, TapProduct, Multiplied}
use Rattle.fused_chain.specs.Rounding.{Nearest, FourNearest}
use Rattle.fused_chain.proofs.ChainParts.{on, once}

module _ (xs row0 row1 : List Float) (blend : Float) where
  one : (k j : ℕ) (p s r : Float) → k + 1 ≡ j → TapProduct xs row0 row1 blend k p → Nearest p s r
      → Carries xs row0 row1 blend k j s r
  one k j p s r e P N =
      once xs row0 row1 blend k j s r e (N.is (get_or xs k nan)
      (coefficient_of blend (get_or row0 k nan) (get_or row1 k nan)) P)

  pub four : (k : ℕ) (s a b c d r : Float) → Multiplied xs row0 row1 blend k a b c d → FourNearest a b c d s r
      → Carries xs row0 row1 blend k (k + 4) s r
  four k s a b c d r M N =
      let C1 = one k (k + 1) a s N.one refl M.first N.first in
      let C2 = one (k + 1) (k + 2) b N.one N.two (omega arith) M.second N.second in
      let C3 = one (k + 2) (k + 3) c N.two N.three (omega arith) M.third N.third in
      let C4 = one (k + 3) (k + 4) d N.three r (omega arith) M.fourth N.fourth in
      on xs row0 row1 blend (on xs row0 row1 blend (on xs row0 row1 blend C1 C2) C3) C4
