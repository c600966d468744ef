-- The sign bit moves from the pattern of an f64 to that of the f32. Assumes nothing.
use mathlib.Core.Path.{◌≡◌, sym, ap, ◌∙◌, subst}
use mathlib.Core.Bool.{Bool, true, false, not, cond}
use Prim.Native.Nat.{ℕ, ◌+◌, ◌-◌, ◌*◌, ◌/◌, ◌%◌, ◌^◌, ◌≤◌, ◌<◌}
use native.Mathlib.Omega.{arith}
use lib.Dec.{T, leb, leb→le, nleb→lt}
use lib.Bits.{bit_and, and_mask}
use lib.Ieee.{Float, binary32, binary64, fits, to_bits, of_bits, div, nan_bits, ne}
use lib.Ieee.Bits.{to_bits-lt, of_bits-to_bits}
use lib.Ieee.Compare.{differs_from_itself}
use Rattle.narrowing.specs.Nearest.{Rounds}
use Rattle.rounding.specs.Operations.{narrowed}
use Rattle.rounding.proofs.Comparing.{differs-no-nan}
use Rattle.rounding.proofs.Patterns.{no-nan-rest, sign-no-nan, sign-rest, value-bits}

pub of_nan : (x : Float) → ne x x ≡ true → div binary32 (of_bits binary32 0) (of_bits binary32 0) ≡ narrowed x
unfolding div of_bits narrowed
of_nan x h = sym (ap narrowed (differs_from_itself x (subst T (sym h) tt)))

module _ (x : Float) (held : T (fits binary64 x)) where
  abbrev n : ℕ
  n = to_bits binary64 x

  pub size_of : ne x x ≡ false → bit_and n (2 ^ 63 - 1) ≤ 0x7ff0_0000_0000_0000
  size_of h =
      subst (λ (z : ℕ). z ≤ 0x7ff0_0000_0000_0000) (sym (and_mask n 63))
      (no-nan-rest binary64 n (value-bits binary64 x held (differs-no-nan x h)))

  module _ (r : ℕ) (R : Rounds (bit_and n (2 ^ 63 - 1)) r) where
    abbrev joined : ℕ
    joined = n / 2 ^ 63 * 2 ^ 31 % 2 ^ 64 + r

    N : n < 2 ^ 64
    N = to_bits-lt binary64 x held

    joined_is : joined ≡ cond (leb (2 ^ 63) n) 0x8000_0000 0 + r
    joined_is = go (leb (2 ^ 63) n) (leb→le (2 ^ 63) n) (nleb→lt (2 ^ 63) n)
      where
        go : (b : Bool) → (T b → 2 ^ 63 ≤ n) → (T (not b) → n < 2 ^ 63) → joined ≡ cond b 0x8000_0000 0 + r
        go true h k = omega (arith, N, h tt)
        go false h k = omega (arith, k tt)

    pub joined-lt : joined < 2 ^ 32
    joined-lt = omega (arith, N, R.small)

    pub joined-no-nan : T (not (nan_bits binary32 joined))
    joined-no-nan =
        subst (λ (z : ℕ). T (not (nan_bits binary32 z))) (sym joined_is)
        (sign-no-nan binary32 (leb (2 ^ 63) n) r R.small)

    pub joined-reads : of_bits binary32 joined ≡ narrowed x
    joined-reads =
        ap (of_bits binary32) joined_is
        ∙ R.reads (leb (2 ^ 63) n)
        ∙ ap (λ (z : ℕ). narrowed (of_bits binary64 (cond (leb (2 ^ 63) n) (2 ^ 63) 0 + z))) (and_mask n 63)
        ∙ ap (λ (z : ℕ). narrowed (of_bits binary64 z)) (sym (sign-rest binary64 n N))
        ∙ ap narrowed (of_bits-to_bits binary64 x held)
