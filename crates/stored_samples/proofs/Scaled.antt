-- For any format: powers of two near the number of its digits; the rounding of a fraction where its values are the
-- whole numbers; and a value times a power of two, which is exact. Assumes nothing.
use mathlib.Core.Path.{◌≡◌, refl, sym, ap, ◌∙◌, subst}
use mathlib.Core.Bool.{Bool, true, false}
use Prim.Native.Nat.{ℕ, suc, ◌+◌, ◌-◌, ◌*◌, ◌^◌, ◌≤◌, ◌<◌}
use native.Mathlib.Nat.{mul_assoc, mul_comm, mul-one, one-mul, mul_right_comm, mul-pos}
use native.Mathlib.Nat.{mul-le-mul_right, mul-lt-mul_of_pos_right, lt_of_mul-lt-mul_right}
use native.Mathlib.Nat.{lt_of_le_of_lt, lt_of_lt_of_le, le_of_eq, le_trans}
use lib.Dec.{T, lit≤, lit<}
use lib.Pow.{pow-add, pow_pos}
use lib.IntN.{ℤ, pos}
use lib.Ieee.{fin, Format, binary32, binary64, prec, emax, low, hid, up, down, unlike}
use lib.Ieee.{round, units, mul, fits}
use lib.Ieee.Exact.{HasValue, round_exact}
use lib.Ieee.Fits.{down_pos}
use lib.Ieee.Nearest.{closest, closest_same}
use Rattle.rounding.proofs.DroppedDigits.{round-at}
use Rattle.rounding.proofs.Values.{fits-units, rescale}

-- ---- what is known of a format, where q stands for 2 ^ (prec - 3)
pub record Room (f : Format) (q : ℕ) : Type 0 where
  pub added : 2 ^ (prec f - 2) ≡ q * 2
  pub hidden : hid f ≡ q * 4
  pub digits : 2 ^ prec f ≡ q * 8
  pub below : 2 ^ prec f < 2 ^ suc (emax f)

pub room : (f : Format) → Room f (2 ^ (prec f - 3))
room binary32 = record { added = refl; hidden = refl; digits = refl; below = lit< tt }
room binary64 = record { added = refl; hidden = refl; digits = refl; below = lit< tt }

-- ---- a fraction where the format's values are the whole numbers
pub whole-units : (f : Format) (v D : ℕ) → 0 < D → hid f * D ≤ v → v < 2 ^ prec f * D
    → round f false v D ≡ units f false (closest v D) (low f)
whole-units f v D P lo hi =
    let l = 2 ^ low f in
    let move : (n : ℕ) → n * (D * l) ≡ n * D * l = λ n. sym (mul_assoc n D l) in
    round-at f false v D (low f) P
    (λ _. le_trans (le_of_eq (move (hid f))) (mul-le-mul_right l lo))
    (lt_of_lt_of_le (mul-lt-mul_of_pos_right hi (pow_pos (low f))) (le_of_eq (sym (move (2 ^ prec f)))))
    ∙ ap (λ (z : ℕ). units f false z (low f))
    (closest_same (v * l) (D * l) v D (mul-pos P (pow_pos (low f))) P (mul_right_comm v l D ∙ mul_assoc v D l))

-- ---- x · 2 ^ j
same_sign : (s : Bool) → unlike s false ≡ s
same_sign true = refl
same_sign false = refl

module _ (f : Format) (s : Bool) (m : ℕ) (e : ℤ) (j : ℕ) (held : T (fits f (fin s m e)))
    (small : m * up e * 2 ^ j < 2 ^ suc (emax f) * down e) where
  pub product : HasValue (mul f (fin s m e) (fin false 1 (pos j))) s (m * up e * 2 ^ j) (down e)
  unfolding mul
  product =
      let n = m * up e in
      let d = down e in
      let l = 2 ^ low f in
      let (i, y, few, below) = fits-units f s m e held in
      let p : 2 ^ (i + j) ≡ 2 ^ i * 2 ^ j = pow-add 2 i j in
      let base : n * 2 ^ j * l ≡ m * 2 ^ (i + j) * d =
      mul_right_comm n (2 ^ j) l
      ∙ ap (λ (z : ℕ). z * 2 ^ j) y.1
      ∙ mul_right_comm (m * 2 ^ i) d (2 ^ j)
      ∙ ap (λ (z : ℕ). z * d) (mul_assoc m (2 ^ i) (2 ^ j) ∙ ap (λ (z : ℕ). m * z) (sym p)) in
      let is : n * (1 * 2 ^ j) * l ≡ m * 2 ^ (i + j) * (d * 1) =
      ap (λ (z : ℕ). n * z * l) (one-mul (2 ^ j)) ∙ base ∙ ap (λ (z : ℕ). m * 2 ^ (i + j) * z) (sym (mul-one d)) in
      let largest : 2 ^ suc (emax f) * l ≡ 2 ^ (low f + suc (emax f)) =
      mul_comm (2 ^ suc (emax f)) l ∙ sym (pow-add 2 (low f) (suc (emax f))) in
      let fine : m * 2 ^ (i + j) < 2 ^ (low f + suc (emax f)) =
      lt_of_mul-lt-mul_right d
      (lt_of_le_of_lt (le_of_eq (sym base))
      (lt_of_lt_of_le (mul-lt-mul_of_pos_right small (pow_pos (low f)))
      (le_of_eq (mul_right_comm (2 ^ suc (emax f)) d l ∙ ap (λ (z : ℕ). z * d) largest)))) in
      let a = n * (1 * 2 ^ j) in
      rescale (mul f (fin s m e) (fin false 1 (pos j))) s a (d * 1) (n * 2 ^ j) d (mul-pos (down_pos e) (lit≤ tt))
      (ap (λ (z : ℕ). n * z * d) (one-mul (2 ^ j)) ∙ ap (λ (z : ℕ). n * 2 ^ j * z) (sym (mul-one d)))
      (subst (λ (t : Bool). HasValue (round f t a (d * 1)) s a (d * 1)) (sym (same_sign s))
      (round_exact f s a (d * 1) m (i + j) (mul-pos (down_pos e) (lit≤ tt)) few fine is))
