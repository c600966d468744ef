-- Equal sums and products of fractions. Assumes nothing.
use Prim.Native.Nat.{◌<◌}
use native.Mathlib.Nat.{mul-pos}
use native.Mathlib.Omega.{arith}
use Rattle.rounding_error.specs.Fraction.{Frac, nil, plus, times, opp, Same}
use Rattle.rounding_error.proofs.Same.{ring, same_refl, same-sym, same-trans, plus-same, plus_comm, times-same}

assoc : (x y z : Frac) → 0 < x.d → 0 < y.d → 0 < z.d → Same (plus (plus x y) z) (plus x (plus y z))
assoc x y z X Y Z =
    record { left = mul-pos (mul-pos X Y) Z; right = mul-pos X (mul-pos Y Z); cross = simp ring (omega arith) }

restore : (x y : Frac) → 0 < x.d → 0 < y.d → Same (plus x (plus y (opp x))) y
restore x y X Y = record { left = mul-pos X (mul-pos Y X); right = Y; cross = simp ring (omega arith) }

module _ (x y : Frac) (X : 0 < x.d) (Y : 0 < y.d) where
  pub restored : Same (plus x (plus y (opp x))) y
  restored = restore x y X Y

  pub apart : Same (plus (plus x y) (opp x)) y
  apart = record { left = mul-pos (mul-pos X Y) X; right = Y; cross = simp ring (omega arith) }

  -- x - (x - y) is y.
  pub twice-apart : Same (plus x (opp (plus x (opp y)))) y
  twice-apart = record { left = mul-pos X (mul-pos X Y); right = Y; cross = simp ring (omega arith) }

  module _ (z : Frac) (Z : 0 < z.d) where
    pub plus_assoc : Same (plus (plus x y) z) (plus x (plus y z))
    plus_assoc = assoc x y z X Y Z

    pub times-plus : Same (plus (times x y) (times x z)) (times x (plus y z))
    times-plus =
        record {
          left = mul-pos (mul-pos X Y) (mul-pos X Z);
          right = mul-pos X (mul-pos Y Z);
          cross = simp ring (omega arith);
        }

    pub plus_times : Same (plus (times x z) (times y z)) (times (plus x y) z)
    plus_times =
        record {
          left = mul-pos (mul-pos X Z) (mul-pos Y Z);
          right = mul-pos (mul-pos X Y) Z;
          cross = simp ring (omega arith);
        }

    -- x - (y - z) is z - (y - x).
    pub crossed : Same (plus x (opp (plus y (opp z)))) (plus z (opp (plus y (opp x))))
    crossed =
        same-trans (same-sym (assoc x (opp y) z X Y Z))
        (same-trans (plus_comm (plus x (opp y)) z (mul-pos X Y) Z) (plus-same (same_refl Z) (plus_comm x (opp y) X Y)))

    -- (x - (y - z)) + (w - z) is x + w - y.
    pub folded : (w : Frac) → 0 < w.d
        → Same (plus (plus x (opp (plus y (opp z)))) (plus w (opp z))) (plus (plus x w) (opp y))
    folded w W =
        same-trans (plus-same (same-sym (assoc x (opp y) z X Y Z)) (same_refl (mul-pos W Z)))
        (same-trans (assoc (plus x (opp y)) z (plus w (opp z)) (mul-pos X Y) Z (mul-pos W Z))
        (same-trans (plus-same (same_refl (mul-pos X Y)) (restore z w Z W))
        (same-trans (assoc x (opp y) w X Y W)
        (same-trans (plus-same (same_refl X) (plus_comm (opp y) w Y W)) (same-sym (assoc x w (opp y) X W Y))))))

pub none : (x : Frac) → 0 < x.d → Same (plus x (opp x)) nil
none x X = record { left = mul-pos X X; right = omega arith; cross = simp ring (omega arith) }

-- v * m is h * k + (h * (m - k) + (v - h) * m).
pub split-product : (v h m k : Frac) → 0 < v.d → 0 < h.d → 0 < m.d → 0 < k.d
    → Same (plus (times h k) (plus (times h (plus m (opp k))) (times (plus v (opp h)) m))) (times v m)
split-product v h m k W H M K =
    same-trans (same-sym (plus_assoc (times h k) (times h (plus m (opp k))) (mul-pos H K) (mul-pos H (mul-pos M K))
    (times (plus v (opp h)) m) (mul-pos (mul-pos W H) M)))
    (same-trans (plus-same
    (same-trans (times-plus h k H K (plus m (opp k)) (mul-pos M K)) (times-same (same_refl H) (restored k m K M)))
    (same_refl (mul-pos (mul-pos W H) M)))
    (same-trans (plus_times h (plus v (opp h)) H (mul-pos W H) m M) (times-same (restored h v H W) (same_refl M))))
