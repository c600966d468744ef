-- An f64 that is v of the smallest f64, 2 ^ -1074, as an f32: it is units of 2 ^ -149, or an infinity. Assumes nothing.
use mathlib.Core.Path.{◌≡◌, sym, ap, ◌∙◌}
use mathlib.Core.Bool.{Bool}
use Prim.Native.Nat.{ℕ, ◌+◌, ◌*◌, ◌^◌, ◌≤◌, ◌<◌}
use native.Mathlib.Nat.{le_trans, le_of_eq, lt_of_lt_of_le, mul_assoc, mul_right_comm, mul-le-mul_right}
use native.Mathlib.Nat.{mul-lt-mul_of_pos_right, lt_irrefl}
use native.Mathlib.Omega.{arith}
use lib.Pow.{pow-add, pow_pos, pow_mono}
use lib.Ieee.{Float, nan, inf, fin, binary32, up, down, units, round}
use lib.Ieee.Fits.{down_pos}
use lib.Ieee.Exact.{HasValue}
use lib.Ieee.Nearest.{closest, closest_same}
use lib.Ieee.Scale.{round_same}
use Rattle.rounding.specs.Operations.{narrowed}
use Rattle.rounding.proofs.NearestWhole.{closest-ge, closest-le}
use Rattle.rounding.proofs.DroppedDigits.{round-finer}
use Rattle.rounding.proofs.Units.{units-over}

-- ---- by any fraction that the value equals
pub narrowed-value : (v : Float) (s : Bool) (a c : ℕ) → 0 < c → HasValue v s a c → narrowed v ≡ round binary32 s a c
unfolding narrowed
narrowed-value nan s a c C h = absurd h
narrowed-value (inf t) s a c C h = absurd h
narrowed-value (fin t m e) s a c C h =
    round_same binary32 t (m * up e) (down e) a c (down_pos e) C h.1 ∙ ap (λ (z : Bool). round binary32 z a c) h.0

-- ---- below 2 ^ 949 the f32 counts 2 ^ 925
pub low-units : (s : Bool) (v : ℕ) → v < 2 ^ 949
    → round binary32 s v (2 ^ 1074) ≡ units binary32 s (closest v (2 ^ 925)) 0
low-units s v h = round-finer binary32 s v 925 0 (λ (k : 0 < 0). absurd (lt_irrefl 0 k)) h

-- ---- q * 2 ^ (896 + k), for a q of 53 digits, is normal
module _ (s : Bool) (q k : ℕ) (lo : 2 ^ 52 ≤ q) (hi : q < 2 ^ 53) where
  in-unit : (p : ℕ) → p * 2 ^ 29 * 2 ^ (896 + k) ≡ p * 2 ^ (925 + k)
  in-unit p =
      mul_assoc p (2 ^ 29) (2 ^ (896 + k))
      ∙ ap (λ (z : ℕ). p * z) (sym (pow-add 2 29 (896 + k)) ∙ ap (λ (z : ℕ). 2 ^ z) (omega arith))

  pub normal-units : round binary32 s (q * 2 ^ (896 + k)) (2 ^ 1074) ≡ units binary32 s (closest q (2 ^ 29)) k
  normal-units =
      round-finer binary32 s (q * 2 ^ (896 + k)) 925 k
      (λ _. le_trans (le_of_eq (sym (in-unit (2 ^ 23)))) (mul-le-mul_right (2 ^ (896 + k)) lo))
      (lt_of_lt_of_le (mul-lt-mul_of_pos_right hi (pow_pos (896 + k))) (le_of_eq (in-unit (2 ^ 24))))
      ∙ ap (λ (z : ℕ). units binary32 s z k)
      (closest_same (q * 2 ^ (896 + k)) (2 ^ (925 + k)) q (2 ^ 29) (pow_pos (925 + k)) (pow_pos 29)
      (mul_right_comm q (2 ^ (896 + k)) (2 ^ 29) ∙ in-unit q))

  pub digits-ge : 2 ^ 23 ≤ closest q (2 ^ 29)
  digits-ge = closest-ge q (2 ^ 29) (2 ^ 23) (pow_pos 29) lo

  pub digits_le : closest q (2 ^ 29) ≤ 2 ^ 24
  digits_le = closest-le q (2 ^ 29) (2 ^ 24) (pow_pos 29) hi

  pub normal-over : 254 ≤ k → round binary32 s (q * 2 ^ (896 + k)) (2 ^ 1074) ≡ inf s
  normal-over K =
      let m : 277 ≤ 23 + k = omega arith in
      normal-units
      ∙ units-over binary32 s (closest q (2 ^ 29)) k
      (le_trans (pow_mono m) (le_trans (le_of_eq (pow-add 2 23 k)) (mul-le-mul_right (2 ^ k) digits-ge)))
