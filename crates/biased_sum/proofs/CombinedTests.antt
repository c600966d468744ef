-- What combined tests show. Assumes nothing.
use mathlib.Core.Path.{◌≡◌, refl, sym, ◌∙◌}
use mathlib.Core.Bool.{Bool, true, false, ◌&&◌, false≢true}
use lib.Ieee.{Float, binary64, add, lt}
use Rattle.biased_sum.specs.Sums.{all_taken, Between, Advanced}

-- ---- both of two tests
pub first_of : (z a b : Bool) → z ≡ (a && b) → z ≡ true → a ≡ true
first_of z true b e t = refl
first_of z false b e t = sym e ∙ t

pub second-of : (z a b : Bool) → z ≡ (a && b) → z ≡ true → b ≡ true
second-of z true b e t = sym e ∙ t
second-of z false b e t = absurd (false≢true (sym e ∙ t))

pub between : (low high x sum : Float) (z : Bool) → z ≡ (lt low (add binary64 x sum) && lt (add binary64 x sum) high)
    → z ≡ true → Between low high x sum
between low high x sum z e t =
    record {
      lower = first_of z (lt low (add binary64 x sum)) (lt (add binary64 x sum) high) e t;
      upper = second-of z (lt low (add binary64 x sum)) (lt (add binary64 x sum) high) e t;
    }

-- Four sums are tested in pairs.
module _ (low high sum a b c d : Float) where
  abbrev s1 : Float
  s1 = add binary64 a sum

  abbrev s2 : Float
  s2 = add binary64 b s1

  abbrev s3 : Float
  s3 = add binary64 c s2

  abbrev s4 : Float
  s4 = add binary64 d s3

  pub advanced : (z1 z2 z3 z4 z5 z6 z7 : Bool) → z1 ≡ (lt low s1 && lt s1 high) → z2 ≡ (lt low s2 && lt s2 high)
      → z3 ≡ (z1 && z2) → z4 ≡ (lt low s3 && lt s3 high) → z5 ≡ (lt low s4 && lt s4 high)
      → z6 ≡ (z4 && z5) → z7 ≡ (z3 && z6) → z7 ≡ true → Advanced low high sum a b c d s4
  advanced z1 z2 z3 z4 z5 z6 z7 e1 e2 e3 e4 e5 e6 e7 t =
      let t3 = first_of z7 z3 z6 e7 t in
      let t6 = second-of z7 z3 z6 e7 t in
      record {
        first = between low high a sum z1 e1 (first_of z3 z1 z2 e3 t3);
        second = between low high b s1 z2 e2 (second-of z3 z1 z2 e3 t3);
        third = between low high c s2 z4 e4 (first_of z6 z4 z5 e6 t6);
        fourth = between low high d s3 z5 e5 (second-of z6 z4 z5 e6 t6);
        is = refl;
      }

  pub all-taken : (z1 z2 z3 z4 z5 z6 z7 : Bool) → z1 ≡ (lt low s1 && lt s1 high) → z2 ≡ (lt low s2 && lt s2 high)
      → z3 ≡ (z1 && z2) → z4 ≡ (lt low s3 && lt s3 high) → z5 ≡ (lt low s4 && lt s4 high)
      → z6 ≡ (z4 && z5) → z7 ≡ (z3 && z6) → z7 ≡ all_taken low high sum a b c d
  all-taken z1 z2 z3 z4 z5 z6 z7 e1 e2 e3 e4 e5 e6 e7 = rw (e7, e3, e6, e1, e2, e4, e5) refl
