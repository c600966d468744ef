-- What `pack` means: a number of 55 digits, of which the last is odd if digits were cut off, becomes the exact value
-- rounded once, carry and overflow included. Assumes nothing.
use mathlib.Core.Path.{◌≡◌, refl, sym, ap, ◌∙◌}
use mathlib.Core.Logic.{dite}
use mathlib.Core.Bool.{Bool, true, false, cond}
use Prim.Native.Nat.{ℕ, zero, suc, ◌+◌, ◌*◌, ◌/◌, ◌%◌, ◌^◌, ◌≤◌, ◌<◌}
use native.Mathlib.Nat.{le_refl, le_trans, le_of_eq, zero-lt-suc, mul-le-mul, mod-lt, mod-eq_of_lt}
use native.Mathlib.Decide.{dec_lt}
use native.Mathlib.Omega.{arith}
use borrow.Author.Tests.{lt-ltb, le-ltb}
use lib.Dec.{eqb}
use lib.Pow.{pow-add, pow_pos, pow_mono}
use lib.Bits.{bit_and, and_mask}
use lib.Ieee.{inf, binary64, round, units, of_fields, of_bits}
use lib.Ieee.Nearest.{closest}
use Rattle.rounding.proofs.NearestWhole.{closest-by-add, closest-le, closest-ge}
use Rattle.rounding.proofs.Units.{units-over}
use Rattle.rounding.proofs.Pack.{pack}
use Rattle.rounding.proofs.Jammed.{jammed}
use Rattle.float_digits.specs.Pattern.{magnitude_of, packed}
use Rattle.float_digits.specs.Jam.{Jam}

pub quarter : (v : ℕ) → (v + (1 + bit_and (v / 4) 1)) / 4 ≡ closest v 4
quarter v = ap (λ (z : ℕ). (v + (1 + z)) / 4) (and_mask (v / 4) 1) ∙ sym (closest-by-add v 2 (zero-lt-suc 1))

-- The pattern does not lie above an infinity's.
pub magnitude-le : (w k : ℕ) → magnitude_of w k ≤ 0x7ff0_0000_0000_0000
magnitude-le w k =
    let q : closest (w % 2 ^ 55) 4 ≤ 2 ^ 53 =
    closest-le (w % 2 ^ 55) 4 (2 ^ 53) (zero-lt-suc 3) (mod-lt w (pow_pos 55)) in
    dite (dec_lt k 2046) (λ h. rw (lt-ltb k 2046 h) (omega arith))
    (λ n. rw (le-ltb k 2046 (omega arith)) (le_refl 0x7ff0_0000_0000_0000))

infinity : (b : Bool) → of_bits binary64 (cond b (2 ^ 63) 0 + 0x7ff0_0000_0000_0000) ≡ inf b
unfolding of_bits of_fields
infinity true = refl
infinity false = refl

module _ (w k : ℕ) (W : w < 2 ^ 55) (L : 0 < k → 2 ^ 54 ≤ w) where
  with-sign : (b : Bool) → of_bits binary64 (cond b (2 ^ 63) 0 + magnitude_of w k) ≡ units binary64 b (closest w 4) k
  with-sign b =
      let q-ge : 0 < k → 2 ^ 52 ≤ closest w 4 = λ h. closest-ge w 4 (2 ^ 52) (zero-lt-suc 3) (L h) in
      dite (dec_lt k 2046)
      (λ h. rw (lt-ltb k 2046 h, mod-eq_of_lt W)
      (pack binary64 b (closest w 4) k (closest-le w 4 (2 ^ 53) (zero-lt-suc 3) W) q-ge h))
      (λ n.
      let over : 2046 ≤ k = omega arith in
      rw (
        le-ltb k 2046 over,
        units-over binary64 b (closest w 4) k
            (le_trans (le_of_eq (pow-add 2 52 2046)) (mul-le-mul (q-ge (omega arith)) (pow_mono over))),
      ) (infinity b))

  signed : (s : ℕ) → s < 2 → packed s w k ≡ units binary64 (eqb s 1) (closest w 4) k
  signed zero h = with-sign false
  signed (suc zero) h = with-sign true
  signed (suc (suc s)) h = absurd (omega arith)

  pub packed-rounds : (s num den : ℕ) → s < 2 → 0 < den → Jam (num * 2 ^ 1074 * 4) (den * 2 ^ k) w
      → packed s w k ≡ round binary64 (eqb s 1) num den
  packed-rounds s num den S D J = signed s S ∙ sym (jammed binary64 (eqb s 1) num den w k 2 D (le_refl 2) refl L W J)
