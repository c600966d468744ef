-- A number of 56 to 63 digits at a place. Moved up to 63 digits, with the last ten rounded off by an addition, and put
-- below an exponent field, it is every value that it stands for, rounded once. Assumes nothing.
use Rattle.std.proofs.Common.{◌≡◌, ℕ, zero, suc, ◌+◌, ◌-◌, ◌*◌, ◌/◌, ◌%◌, ◌^◌, ◌<◌, ◌≤◌, cond, eqb, sym, refl, ap, ◌∙◌}
use Rattle.std.proofs.Common.{le_trans, le_of_eq, lt_of_lt_of_le, lt_of_le_of_lt, mod-eq_of_lt, mul_assoc, mul-pos}
use Rattle.std.proofs.Common.{pow-suc, arith, pow_pos, pow_mono, pow-add}
use native.Mathlib.Nat.{mul-mod_left}
use lib.Bits.{bit_and, and_mask}
use lib.Count.{count_leading_zeros}
use lib.Ieee.{binary64, size, of_bits}
use lib.Ieee.Digits.{size-lt, size-le, size_reaches}
use lib.Ieee.Nearest.{closest, closest_same}
use Rattle.rounding.proofs.NumberOrders.{pow_lt_back}
use Rattle.rounding.proofs.NearestWhole.{closest-by-add, closest-ge, closest-le}
use Rattle.rounding.proofs.Pack.{pack}
use Rattle.rounding.proofs.Jammed.{jammed}
use Rattle.float_digits.specs.Jam.{Jam}
use Rattle.float_digits.proofs.Jams.{jam-scale}
use Rattle.float_digits.proofs.Lengths.{zeros-and-size, filled-below}
use Rattle.fused64.specs.Word.{Headed, Placed}

sign-weight : (b : ℕ) → b < 2 → cond (eqb b 1) (2 ^ 63) 0 ≡ b * 2 ^ 63
sign-weight zero h = refl
sign-weight (suc zero) h = refl
sign-weight (suc (suc b)) h = absurd (omega arith)

module _ (n g : ℕ) (H : Headed n g) (N : 2 ^ 55 ≤ n) where
  abbrev l : ℕ
  l = count_leading_zeros 64 n

  pub zeros : (1 ≤ l) × (l ≤ 8) × (l + size n ≡ 64)
  zeros =
      let a : size n ≤ 63 = size-le n 63 H.below in
      let b : 55 < size n = pow_lt_back 55 (size n) (lt_of_le_of_lt N (size-lt n)) in
      let e = zeros-and-size 64 n (omega (arith, H.below)) in
      (omega arith, omega arith, e)

  filled : n * 2 ^ (l - 1) < 2 ^ 63
  filled =
      let z = zeros in
      let e : l - 1 ≡ 63 - size n = omega arith in
      rw e (filled-below n 63 (omega arith) (omega arith))

  pub moved : n * 2 ^ (l - 1) % 2 ^ 64 ≡ n * 2 ^ (l - 1)
  moved = mod-eq_of_lt (lt_of_lt_of_le filled (pow_mono {i = 63} {j = 64} (omega arith)))

  pub moved-lt : n * 2 ^ (l - 1) % 2 ^ 64 < 2 ^ 63
  moved-lt = rw moved filled

  -- The unit of the last digit that is kept, in units of n.
  abbrev h : ℕ
  h = 2 ^ (10 - l)

  unit : h + h ≡ 2 ^ (11 - l)
  unit =
      let z = zeros in
      let e : 11 - l ≡ 10 - l + 1 = omega arith in
      sym (ap (λ (x : ℕ). 2 ^ x) e ∙ pow-add 2 (10 - l) 1 ∙ omega arith)

  rounded : (n * 2 ^ (l - 1) % 2 ^ 64 + (0x1ff + bit_and (n * 2 ^ (l - 1) % 2 ^ 64 / 2 ^ 10) 1)) / 2 ^ 10
      ≡ closest n (h + h)
  rounded =
      let z = zeros in
      let t = n * 2 ^ (l - 1) % 2 ^ 64 in
      let e : l - 1 + (11 - l) ≡ 10 = omega arith in
      let same : n * 2 ^ (l - 1) * (h + h) ≡ n * 2 ^ 10 =
      rw unit
      (mul_assoc n (2 ^ (l - 1)) (2 ^ (11 - l))
      ∙ ap (λ (x : ℕ). n * x) (sym (pow-add 2 (l - 1) (11 - l)) ∙ ap (λ (x : ℕ). 2 ^ x) e)) in
      ap (λ (x : ℕ). (t + (0x1ff + x)) / 2 ^ 10) (and_mask (t / 2 ^ 10) 1)
      ∙ sym (closest-by-add t (2 ^ 9) (pow_pos 9))
      ∙ ap (λ (x : ℕ). closest x (2 ^ 10)) moved
      ∙ closest_same (n * 2 ^ (l - 1)) (2 ^ 10) n (h + h) (pow_pos 10) (rw unit (pow_pos (11 - l))) same

  least : 2 ^ 52 * (h + h) ≤ n
  least =
      let z = zeros in
      let e : 52 + (11 - l) ≡ size n - 1 = omega arith in
      rw unit (le_trans (le_of_eq (sym (pow-add 2 52 (11 - l)) ∙ ap (λ (x : ℕ). 2 ^ x) e))
      (size_reaches n (size n - 1) (omega arith)))

  below : n < 2 ^ 53 * (h + h)
  below =
      let z = zeros in
      let e : size n ≡ 53 + (11 - l) = omega arith in
      rw unit (lt_of_lt_of_le (size-lt n) (le_of_eq (ap (λ (x : ℕ). 2 ^ x) e ∙ pow-add 2 53 (11 - l))))

  jams : (v : ℕ) → Jam v (2 ^ (g % 2 ^ 11 + 1189)) n → Jam (v * 2 ^ 1074 * (h + h)) (2 ^ 2274 * 2 ^ (g % 2 ^ 11 - l)) n
  jams v J =
      let z = zeros in
      let o = H.low in
      let e : g % 2 ^ 11 + 1189 + (1074 + (11 - l)) ≡ 2274 + (g % 2 ^ 11 - l) = omega arith in
      let u : 2 ^ (g % 2 ^ 11 + 1189) * (2 ^ 1074 * 2 ^ (11 - l)) ≡ 2 ^ 2274 * 2 ^ (g % 2 ^ 11 - l) =
      ap (λ (x : ℕ). 2 ^ (g % 2 ^ 11 + 1189) * x) (sym (pow-add 2 1074 (11 - l)))
      ∙ sym (pow-add 2 (g % 2 ^ 11 + 1189) (1074 + (11 - l)))
      ∙ ap (λ (x : ℕ). 2 ^ x) e
      ∙ pow-add 2 2274 (g % 2 ^ 11 - l) in
      rw (unit, ← u, mul_assoc v (2 ^ 1074) (2 ^ (11 - l)))
      (jam-scale v (2 ^ (g % 2 ^ 11 + 1189)) n (2 ^ 1074 * 2 ^ (11 - l))
      (mul-pos (pow_pos 1074) (pow_pos (11 - l))) J)

  pub is-placed : Placed n g ((g - l) * 2 ^ 52 % 2 ^ 64
      + (n * 2 ^ (l - 1) % 2 ^ 64 + (0x1ff + bit_and (n * 2 ^ (l - 1) % 2 ^ 64 / 2 ^ 10) 1)) / 2 ^ 10)
  is-placed =
      let z = zeros in
      let q = closest n (h + h) in
      let k = g % 2 ^ 11 - l in
      let b = g / 2 ^ 11 in
      let P : 0 < h + h = rw unit (pow_pos (11 - l)) in
      let most : q ≤ 2 ^ 53 = closest-le n (h + h) (2 ^ 53) P below in
      let bit : b < 2 = omega (arith, H.word) in
      let two : 2 ≤ h = pow_mono {i = 1} {j = 10 - l} (omega arith) in
      let next : 10 - l ≡ suc (9 - l) = omega arith in
      let even : h % 2 ≡ 0 =
      ap (λ (x : ℕ). 2 ^ x % 2) next ∙ ap (λ (x : ℕ). x % 2) (pow-suc 2 (9 - l)) ∙ mul-mod_left (2 ^ (9 - l)) 2 in
      let word : (g - l) * 2 ^ 52 % 2 ^ 64 + q ≡ b * 2 ^ 63 + (k * 2 ^ 52 + q) = head g l q H.word H.low z.1 in
      let pattern : (g - l) * 2 ^ 52 % 2 ^ 64 + q ≡ cond (eqb b 1) (2 ^ 63) 0 + (k * 2 ^ 52 + q) =
      word ∙ ap (λ (x : ℕ). x + (k * 2 ^ 52 + q)) (sym (sign-weight b bit)) in
      rw rounded record {
        some = omega arith;
        finite = rw word (low-enough b k q (omega (arith, H.high)) most);
        rounds = λ v J.
            ap (of_bits binary64) pattern
            ∙ pack binary64 (eqb b 1) q k most (λ _. closest-ge n (h + h) (2 ^ 52) P least) (omega (arith, H.high))
            ∙ sym (jammed binary64 (eqb b 1) v (2 ^ 2274) n k h (pow_pos 2274) two even (λ _. least) below (jams v J));
      }
    where
      head : (g i q : ℕ) → g < 2 ^ 12 → 9 ≤ g % 2 ^ 11 → i ≤ 8
          → (g - i) * 2 ^ 52 % 2 ^ 64 + q ≡ g / 2 ^ 11 * 2 ^ 63 + ((g % 2 ^ 11 - i) * 2 ^ 52 + q)
      head g i q W L M = omega arith

      low-enough : (b k q : ℕ) → k < 1600 → q ≤ 2 ^ 53
          → (b * 2 ^ 63 + (k * 2 ^ 52 + q)) % 2 ^ 63 ≤ 0x7ff0_0000_0000_0000
      low-enough b k q K Q = omega arith
