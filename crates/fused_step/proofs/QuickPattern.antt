-- The fast path over a whole pattern: it leaves the sign alone, because no carry reaches it. Assumes nothing.
use Rattle.std.proofs.Common.{◌≡◌, ℕ, ◌+◌, ◌*◌, ◌/◌, ◌%◌, ◌^◌, ◌<◌, ◌≤◌, Bool, true, false, cond, not, T, leb, sym, ap}
use Rattle.std.proofs.Common.{◌∙◌, subst, arith}
use lib.Bits.{bit_and, and_high}
use lib.Ieee.{Float, binary64, fits, to_bits, of_bits, nan_bits, is_nan}
use lib.Ieee.Bits.{of_bits-to_bits, to_bits-lt}
use lib.Ieee.Scale.{finite}
use Rattle.rounding.specs.Operations.{narrowed}
use Rattle.rounding.proofs.Patterns.{no-nan-rest, rest-no-nan, sign-rest, value-bits}
use Rattle.rounding.proofs.Values.{value-finite}
use Rattle.narrowing.proofs.Patterns.{value}
use Rattle.fused_step.specs.Steps.{Plain}
use Rattle.fused_step.proofs.HalfUnitAdded.{d, cut}

module _ (x : Float) (held : T (fits binary64 x)) (number : T (not (is_nan x))) where
  abbrev n : ℕ
  n = to_bits binary64 x

  N : n < 2 ^ 64
  N = to_bits-lt binary64 x held

  R : n % 2 ^ 63 ≤ 0x7ff0_0000_0000_0000
  R = no-nan-rest binary64 n (value-bits binary64 x held number)

  pub half-fits : n + 0x1000_0000 < 2 ^ 64
  half-fits = omega (arith, N, R)

  module _ (h : Plain (n + 0x1000_0000)) where
    abbrev r : ℕ
    r = n % 2 ^ 63

    rest : (n + 0x1000_0000) % 2 ^ 63 ≡ r + 2 ^ 28
    rest = omega (arith, N, R)

    pub normal : 0x3810_0000_0000_0000 ≤ r
    normal = omega (arith, rest, h.normal)

    small : r < 0x47e0_0000_0000_0000
    small = omega (arith, rest, h.small)

    pub no-midpoint : n % 2 ^ 29 ≡ 2 ^ 28 → ⊥
    no-midpoint e = h.no-midpoint (omega arith)

    masked : bit_and (n + 0x1000_0000) 0xffff_ffff_e000_0000 ≡ (n + 2 ^ 28) / d * d
    masked = and_high (n + 0x1000_0000) 35 29 ∙ omega (arith, half-fits)

    pub plain-no-nan : T (not (nan_bits binary64 (bit_and (n + 0x1000_0000) 0xffff_ffff_e000_0000)))
    plain-no-nan =
        rest-no-nan binary64 (bit_and (n + 0x1000_0000) 0xffff_ffff_e000_0000) (omega (arith, masked, N, small))

    pub plain-finite : T (finite (of_bits binary64 (bit_and (n + 0x1000_0000) 0xffff_ffff_e000_0000)))
    plain-finite =
        let b = bit_and (n + 0x1000_0000) 0xffff_ffff_e000_0000 in
        let r = b % 2 ^ 63 in
        let s = leb (2 ^ 63) b in
        let B : b < 2 ^ 64 = omega (arith, masked, half-fits) in
        let R : r < 0x7ff0_0000_0000_0000 = omega (arith, masked, N, small) in
        subst (λ (z : ℕ). T (finite (of_bits binary64 z))) (sym (sign-rest binary64 b B))
        (value-finite (of_bits binary64 (cond s (2 ^ 63) 0 + r)) s _ _ (value r R s))

    pub plain-cut : of_bits binary64 (bit_and (n + 0x1000_0000) 0xffff_ffff_e000_0000) ≡ narrowed x
    plain-cut =
        let s = leb (2 ^ 63) n in
        let parts : n ≡ cond s (2 ^ 63) 0 + r = sign-rest binary64 n N in
        ap (of_bits binary64) (masked ∙ beside s r n parts)
        ∙ cut s r normal small (λ e. no-midpoint (omega arith))
        ∙ ap (λ (z : ℕ). narrowed (of_bits binary64 z)) (sym parts)
        ∙ ap narrowed (of_bits-to_bits binary64 x held)
      where
        -- The sign does not take part.
        beside : (s : Bool) (r n : ℕ) → n ≡ cond s (2 ^ 63) 0 + r
            → (n + 2 ^ 28) / d * d ≡ cond s (2 ^ 63) 0 + (r + 2 ^ 28) / d * d
        beside true r n e = omega arith
        beside false r n e = omega arith
