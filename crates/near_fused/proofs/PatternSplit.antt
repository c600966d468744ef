-- A float without its lower digits, and without its sign, read from its pattern. Assumes nothing.
use mathlib.Core.Path.{◌≡◌, sym, ap, ◌∙◌, subst}
use mathlib.Core.Bool.{Bool, true, false, cond}
use Prim.Native.Nat.{ℕ, ◌+◌, ◌-◌, ◌*◌, ◌/◌, ◌%◌, ◌^◌, ◌≤◌, ◌<◌}
use native.Mathlib.Nat.{lt_of_lt_of_le, zero-add}
use native.Mathlib.Omega.{arith}
use lib.Dec.{T, leb}
use lib.Pow.{pow_mono, shl_lt}
use lib.Ieee.{Float, binary64, fits, units, of_bits, to_bits}
use lib.Ieee.Bits.{of_bits-to_bits, to_bits-lt}
use lib.Ieee.Exact.{HasValue, units_val}
use lib.Ieee.Scale.{finite, overflow}
use Rattle.rounding.proofs.Patterns.{sign-rest, finite-rest, unpacked}
use Rattle.near_fused.specs.Parts.{lower, high, sized}

-- x, its upper part and its size, in units of 2 ^ -1074.
pub record Split (x : Float) : Type 0 where
  pub sign : Bool
  pub q : ℕ
  pub k : ℕ
  pub digits : q < 2 ^ 53
  pub normal : 0 < k → 2 ^ 52 ≤ q
  pub under : q * 2 ^ k < overflow binary64
  pub value : HasValue x sign (q * 2 ^ k) (2 ^ 1074)
  pub upper : HasValue (high x) sign (q / 2 ^ lower * 2 ^ lower * 2 ^ k) (2 ^ 1074)
  pub size : HasValue (sized x) false (q * 2 ^ k) (2 ^ 1074)

-- The digits and the place below a pattern's field.
pub split : (x : Float) → T (fits binary64 x) → T (finite x) → Split x
split x held f =
    let n = to_bits binary64 x in
    let r = n % 2 ^ 63 in
    let b = leb (2 ^ 63) n in
    let k = r / 2 ^ 52 - 1 in
    let q = r - k * 2 ^ 52 in
    let back : of_bits binary64 n ≡ x = of_bits-to_bits binary64 x held in
    let F : r < 0x7ff0_0000_0000_0000 = finite-rest binary64 n (rw back f) in
    let whole : n ≡ cond b (2 ^ 63) 0 + r = sign-rest binary64 n (to_bits-lt binary64 x held) in
    let K : k ≤ 2045 = omega arith in
    let Q : q < 2 ^ 53 = omega arith in
    let O : (d : ℕ) → d < 2 ^ 53 → d * 2 ^ k < overflow binary64 =
    (λ d D. lt_of_lt_of_le (shl_lt 53 k D) (pow_mono {j = 2098} (omega arith))) in
    let reads : x ≡ units binary64 b q k = sym back ∙ ap (of_bits binary64) whole ∙ unpacked binary64 b r F in
    record {
      sign = b;
      q = q;
      k = k;
      digits = Q;
      normal = λ h. omega arith;
      under = O q Q;
      value = subst (λ (z : Float). HasValue z b (q * 2 ^ k) (2 ^ 1074)) (sym reads) (units_val binary64 b q k (O q Q));
      upper = cut n r b whole F O;
      size =
          subst (λ (z : Float). HasValue z false (q * 2 ^ k) (2 ^ 1074))
          (sym (ap (of_bits binary64) (sym (zero-add r)) ∙ unpacked binary64 false r F))
          (units_val binary64 false q k (O q Q));
    }
  where
    cut : (n r : ℕ) (b : Bool) → n ≡ cond b (2 ^ 63) 0 + r → r < 0x7ff0_0000_0000_0000
        → ((d : ℕ) → d < 2 ^ 53 → d * 2 ^ (r / 2 ^ 52 - 1) < overflow binary64)
        → HasValue (of_bits binary64 (n / 2 ^ lower * 2 ^ lower)) b
        ((r - (r / 2 ^ 52 - 1) * 2 ^ 52) / 2 ^ lower * 2 ^ lower * 2 ^ (r / 2 ^ 52 - 1)) (2 ^ 1074)
    cut n r b w F O =
        let t = r / 2 ^ lower * 2 ^ lower in
        let G : t < 0x7ff0_0000_0000_0000 = omega arith in
        let kk : t / 2 ^ 52 - 1 ≡ r / 2 ^ 52 - 1 = omega arith in
        let qq : t - (t / 2 ^ 52 - 1) * 2 ^ 52
        ≡ (r - (r / 2 ^ 52 - 1) * 2 ^ 52) / 2 ^ lower * 2 ^ lower = omega arith in
        let D : (r - (r / 2 ^ 52 - 1) * 2 ^ 52) / 2 ^ lower * 2 ^ lower < 2 ^ 53 = omega arith in
        let reads : of_bits binary64 (n / 2 ^ lower * 2 ^ lower)
        ≡ units binary64 b ((r - (r / 2 ^ 52 - 1) * 2 ^ 52) / 2 ^ lower * 2 ^ lower) (r / 2 ^ 52 - 1) =
        ap (of_bits binary64) (moved n r b w)
        ∙ unpacked binary64 b t G
        ∙ ap (λ (z : ℕ). units binary64 b z (t / 2 ^ 52 - 1)) qq
        ∙ ap (λ (z : ℕ). units binary64 b ((r - (r / 2 ^ 52 - 1) * 2 ^ 52) / 2 ^ lower * 2 ^ lower) z) kk in
        rw reads (units_val binary64 b ((r - (r / 2 ^ 52 - 1) * 2 ^ 52) / 2 ^ lower * 2 ^ lower) (r / 2 ^ 52 - 1)
        (O ((r - (r / 2 ^ 52 - 1) * 2 ^ 52) / 2 ^ lower * 2 ^ lower) D))
      where
        moved : (n r : ℕ) (b : Bool) → n ≡ cond b (2 ^ 63) 0 + r
            → n / 2 ^ lower * 2 ^ lower ≡ cond b (2 ^ 63) 0 + r / 2 ^ lower * 2 ^ lower
        moved n r true w = omega arith
        moved n r false w = omega arith
