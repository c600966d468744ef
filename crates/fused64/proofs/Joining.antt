-- The sum of a number that may have been cut short and an even one that was not, both at one place: in each case of
-- signs and sizes what is packed is the exact sum, rounded once. Assumes nothing.
use Rattle.std.proofs.Common.{◌≡◌, ℕ, ◌+◌, ◌-◌, ◌*◌, ◌/◌, ◌%◌, ◌^◌, ◌<◌, false, eqb, sym, ap, ◌∙◌, subst, add_comm}
use Rattle.std.proofs.Common.{arith, pow_pos}
use mathlib.Core.Bool.{beq}
use lib.Ieee.{binary64, round, of_bits}
use Rattle.rounding.proofs.Sums.{sum_like, sum_less, sum_over}
use Rattle.float_digits.specs.Jam.{Jam}
use Rattle.fused64.specs.Word.{Placed, Beside, Joined}
use Rattle.fused64.proofs.TwoWords.{unlike-bits}
use Rattle.fused64.proofs.JammedSums.{jam-plus, jam-less, jam-more, less-kept, more-kept}

-- A head is a sign and a place.
head-place : (s e : ℕ) → s % 2 ^ 11 ≡ 0 → e < 1600 → (e + s) % 2 ^ 11 ≡ e
head-place s e h l = omega arith

head-sign : (s e : ℕ) → s % 2 ^ 11 ≡ 0 → e < 1600 → (e + s) / 2 ^ 11 ≡ s / 2 ^ 11
head-sign s e h l = omega arith

module _ (s p t z e r : ℕ) (B : Beside s p t z e) where
  abbrev U : ℕ
  U = 2 ^ (e + 1189)

  -- What `placed` rounds, with the head taken apart.
  rounds : (n x : ℕ) → x % 2 ^ 11 ≡ 0 → Placed n (e + x) r → (v : ℕ) → Jam v U n
      → of_bits binary64 r ≡ round binary64 (eqb (x / 2 ^ 11) 1) v (2 ^ 2274)
  rounds n x X P v J =
      P.rounds v (subst (λ (y : ℕ). Jam v (2 ^ (y + 1189)) n) (sym (head-place x e X B.place.1)) J)
      ∙ ap (λ (y : ℕ). round binary64 (eqb y 1) v (2 ^ 2274)) (head-sign x e X B.place.1)

  unlike : (s ≡ t → ⊥) → beq (eqb (s / 2 ^ 11) 1) (eqb (t / 2 ^ 11) 1) ≡ false
  unlike n =
      let a = B.first in
      let b = B.second in
      unlike-bits (s / 2 ^ 11) (t / 2 ^ 11) (omega arith) (omega arith) (λ q. n (omega arith))

  pub alike : s ≡ t → Placed (z + p) (e + s) r → Joined s p t z e r
  alike E P = record {
    finite = P.finite;
    sums = λ q J.
        rounds (z + p) s B.first.0 P (z * U + q) (jam-plus z p q U B.even J)
        ∙ ap (λ (v : ℕ). round binary64 (eqb (s / 2 ^ 11) 1) v (2 ^ 2274)) (add_comm (z * U) q)
        ∙ sym (sum_like binary64 (eqb (s / 2 ^ 11) 1) (eqb (t / 2 ^ 11) 1) q (z * U) (2 ^ 2274)
        (ap (λ (x : ℕ). eqb (x / 2 ^ 11) 1) E));
  }

  module _ (n : s ≡ t → ⊥) where
    pub first-less : p < z → Placed (z - p) (e + t) r → Joined s p t z e r
    first-less l P = record {
      finite = P.finite;
      sums = λ q J.
          rounds (z - p) t B.second.0 P (z * U - q) (jam-less z p q U B.even J l)
          ∙ sym (sum_over binary64 (eqb (s / 2 ^ 11) 1) (eqb (t / 2 ^ 11) 1) q (z * U) (2 ^ 2274) (unlike n)
          (less-kept z p q U B.even (pow_pos (e + 1189)) J l));
    }

    pub second-less : Placed (p - z) (e + s) r → Joined s p t z e r
    second-less P =
        let l : z < p = omega (arith, P.some) in
        record {
          finite = P.finite;
          sums = λ q J.
              rounds (p - z) s B.first.0 P (q - z * U) (jam-more z p q U B.even J l)
              ∙ sym (sum_less binary64 (eqb (s / 2 ^ 11) 1) (eqb (t / 2 ^ 11) 1) q (z * U) (2 ^ 2274) (unlike n)
              (more-kept z p q U B.even (pow_pos (e + 1189)) J l));
        }
