-- The digits that `quick` finds, below the exponent field of the root, are the root's pattern. Assumes nothing.
use Rattle.std.proofs.Common.{◌≡◌, ℕ, ◌+◌, ◌*◌, ◌/◌, ◌%◌, ◌^◌, ◌<◌, ◌≤◌, Bool, true, false, T, eqb, sym, ap, ◌∙◌}
use Rattle.std.proofs.Common.{le_trans, lt_of_lt_of_le, mod-eq_of_lt, zero-add, mul_right_comm, le-mul_of_pos_right}
use Rattle.std.proofs.Common.{arith, pow_pos, pow_mono, shl_lt, lt-ltb}
use mathlib.Core.Logic.{dite}
use native.Mathlib.Decide.{dec_lt}
use borrow.Author.Tests.{eqb-false}
use lib.Bits.{bit_and, and_mask}
use lib.Ieee.{Float, nan, inf, fin, binary64, fits, of_bits, to_bits}
use lib.Ieee.Bits.{to_bits-lt}
use lib.Ieee.Exact.{HasValue}
use lib.Ieee.Positive.{positive}
use Rattle.rounding.specs.Operations.{root}
use Rattle.float_digits.specs.Pattern.{unpacked, magnitude_of, packed}
use Rattle.float_digits.proofs.UnpackNormal.{normal-place, normal-digits}
use Rattle.float_digits.proofs.PlainValues.{positive-plain}
use Rattle.float_digits.proofs.UnpackMeaning.{Scaling, scaling}
use Rattle.square_root.specs.Digits.{RootDigits, Quick, evened}
use Rattle.square_root.proofs.GuessCheck.{Marked, marked}
use Rattle.square_root.proofs.PackedRoot.{root-code}

-- The pattern of a positive value has no sign.
unsigned : (x : Float) (s : Bool) (v c : ℕ) → T (positive x) → HasValue x s v c → s ≡ false
unsigned nan s v c p h = absurd p
unsigned (inf t) s v c p h = absurd p
unsigned (fin true m e) s v c p h = absurd p
unsigned (fin false m e) s v c p h = sym h.0

module _ (x : Float) (held : T (fits binary64 x)) (pos : T (positive x)) where
  abbrev n : ℕ
  n = to_bits binary64 x

  S : Scaling x (unpacked n)
  S = scaling x held (positive-plain x pos)

  pub pattern_lt : n < 2 ^ 63
  pattern_lt =
      let none = eqb-false (n / 2 ^ 63) 1 (unsigned x (eqb (n / 2 ^ 63) 1) _ _ pos S.value) in
      let all : n < 2 ^ 64 = to_bits-lt binary64 x held in
      dite (dec_lt n (2 ^ 63)) (λ l. l) (λ g. absurd (none (omega arith)))

  module _ (F : 2 ^ 52 ≤ n) where
    abbrev d : ℕ
    d = n % 2 ^ 52 + 2 ^ 52

    rest : 2 ^ 52 ≤ n % 2 ^ 63
    rest =
        let l = pattern_lt in
        omega arith

    place : (unpacked n).e ≡ n / 2 ^ 52 + 52
    place =
        let l = pattern_lt in
        omega (arith, normal-place n rest)

    evened-lt : evened n < 2 ^ 54
    evened-lt =
        lt_of_lt_of_le (shl_lt {a = d} 53 ((n / 2 ^ 52 + 1) % 2) (omega arith)) (pow_mono {j = 54} (omega arith))

    evened-ge : 2 ^ 52 ≤ evened n
    evened-ge = le_trans (omega arith) (le-mul_of_pos_right d (pow_pos ((n / 2 ^ 52 + 1) % 2)))

    whole : (unpacked n).m * 2 ^ bit_and ((unpacked n).e + 1) 1 % 2 ^ 64 ≡ evened n * 2 ^ 10
    whole =
        let odd : bit_and ((unpacked n).e + 1) 1 ≡ (n / 2 ^ 52 + 1) % 2 =
        omega (arith, and_mask ((unpacked n).e + 1) 1, place) in
        rw (odd, normal-digits n rest, mul_right_comm d (2 ^ 10) (2 ^ ((n / 2 ^ 52 + 1) % 2)))
        (mod-eq_of_lt (omega (arith, evened-lt)))

  pub quick-root : (y : ℕ) → Quick n y
      → of_bits binary64 ((n / 2 ^ 52 + 1021) / 2 * 2 ^ 52 % 2 ^ 64 + y) ≡ root binary64 x
  quick-root y Q =
      let F = Q.field in
      let l = pattern_lt in
      let k = (n / 2 ^ 52 + 1021) / 2 in
      let m = marked (evened n) y (evened-ge F) (evened-lt F) Q.digits in
      let w = m.0 in
      let M = m.1 in
      let scale : evened n * 2 ^ 10 * 2 ^ 46 ≡ evened n * 2 ^ 56 = omega arith in
      let found : RootDigits ((unpacked n).m * 2 ^ bit_and ((unpacked n).e + 1) 1 % 2 ^ 64) w =
      record { least = M.least; below = M.below; near = rw (whole F, scale) M.near } in
      let field : ((unpacked n).e + 969) / 2 ≡ k = omega (arith, place F) in
      let fits : k * 2 ^ 52 % 2 ^ 64 ≡ k * 2 ^ 52 = omega arith in
      ap (of_bits binary64)
      (ap (λ (z : ℕ). z + y) fits ∙ sym (pattern w k (omega arith) M) ∙ sym (zero-add (magnitude_of w k)))
      ∙ ap (packed 0 w) (sym field)
      ∙ root-code x (unpacked n) S w pos found
    where
      pattern : (w k : ℕ) → k < 2046 → Marked (evened n) y w → magnitude_of w k ≡ k * 2 ^ 52 + y
      pattern w k K M = rw (lt-ltb k 2046 K, mod-eq_of_lt M.below, M.nearest)
