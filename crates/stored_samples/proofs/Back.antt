-- W2c for one sample: what was read from stored digits is stored as the same digits, for any format and width, and so
-- is a finite f32. By the law `exact` of `whole_samples`: a whole number of units is its own nearest. Assumes nothing.
use mathlib.Core.Path.{◌≡◌, refl, ap, ◌∙◌}
use mathlib.Core.Bool.{Bool, true, false, cond}
use Prim.Native.Nat.{ℕ, zero, suc, ◌-◌, ◌*◌, ◌%◌, ◌^◌, ◌≤◌, ◌<◌}
use native.Mathlib.Nat.{pow-suc, mod-lt}
use native.Mathlib.Omega.{arith}
use borrow.Author.Tests.{leb-true, leb-false, lt-ltb}
use lib.Dec.{T, leb, lit≤}
use lib.Pow.{pow_pos}
use lib.IntN.{ℤ, pos, neg_ℤ}
use lib.Ieee.{Float, nan, inf, fin, Format, binary32, up, down, of_bits, to_bits}
use lib.Ieee.Bits.{is_true, of_bits-fits, to_bits-of_bits}
use lib.Ieee.Exact.{HasValue}
use lib.Ieee.Fits.{down_pos}
use lib.Ieee.Nearest.{closest}
use lib.Ieee.Scale.{finite}
use Rattle.magnitude.proofs.Comparisons.{finite_number}
use Rattle.rounding.specs.Operations.{narrowed}
use Rattle.rounding.proofs.RoundsToItself.{narrowed-own}
use Rattle.rounding.proofs.Values.{value-finite}
use Rattle.rounding.proofs.WithinHalfDivisor.{closest-multiple}
use Rattle.whole_samples.specs.Whole.{negative, size, whole_of}
use Rattle.whole_samples.proofs.Exact.{exact}
use Rattle.sample_kind.specs.declared.SampleKind.{SampleKind}
use Rattle.sample_kind.specs.declared.SampleKind.TheVariants.{Pcm16, Pcm24, Float32}
use Rattle.stored_samples.specs.Stored.{nearest_whole, in_digits, digits_of, fits_whole, fits_in, digits_in, word_of}

-- ---- a whole number of units
pub own-nearest : (w : ℕ) (x : Float) (s : Bool) (a : ℕ) → HasValue x s a (2 ^ (w - 1))
    → nearest_whole w x ≡ cond s (neg_ℤ (pos a)) (pos a)
unfolding nearest_whole
own-nearest w nan s a v = absurd v
own-nearest w (inf t) s a v = absurd v
own-nearest w (fin t m e) s a v =
    let q = closest (m * up e * 2 ^ (w - 1)) (down e) in
    let is : q ≡ a = ap (λ (z : ℕ). closest z (down e)) v.1 ∙ closest-multiple a (down e) (down_pos e) in
    ap (λ (u : Bool). cond u (neg_ℤ (pos q)) (pos q)) v.0 ∙ ap (λ (z : ℕ). cond s (neg_ℤ (pos z)) (pos z)) is

-- ---- two's complement, there and back
module _ (w n : ℕ) (P : 0 < w) where
  abbrev r : ℕ
  r = n % 2 ^ w

  twice : 2 ^ w ≡ 2 ^ (w - 1) * 2
  twice = let e : w ≡ suc (w - 1) = omega arith in ap (λ (v : ℕ). 2 ^ v) e ∙ pow-suc 2 (w - 1)

  abbrev Kept : ℤ → Type 0
  Kept z = (in_digits w z ≡ true) × (digits_of w z ≡ r)

  below-zero : (k : ℕ) → k ≡ 2 ^ w - r → 2 ^ (w - 1) ≤ r → Kept (neg_ℤ (pos k))
  below-zero zero e h = absurd (omega (arith, mod-lt n (pow_pos w)))
  below-zero (suc k) e h = (lt-ltb k (2 ^ (w - 1)) (omega (arith, twice)), omega (arith, mod-lt n (pow_pos w)))

  kept : Kept (cond (negative w n) (neg_ℤ (pos (size w n))) (pos (size w n)))
  kept = go (leb (2 ^ (w - 1)) r) refl
    where
      go : (t : Bool) → leb (2 ^ (w - 1)) r ≡ t
          → Kept (cond t (neg_ℤ (pos (cond t (2 ^ w - r) r))) (pos (cond t (2 ^ w - r) r)))
      go true e = below-zero (2 ^ w - r) refl (leb-true (2 ^ (w - 1)) r e)
      go false e = (lt-ltb r (2 ^ (w - 1)) (leb-false (2 ^ (w - 1)) r e), refl)

  module _ (f : Format) (h : w ≤ 24) where
    abbrev x : Float
    x = whole_of f w n

    nearest : nearest_whole w x ≡ cond (negative w n) (neg_ℤ (pos (size w n))) (pos (size w n))
    nearest = own-nearest w x (negative w n) (size w n) (exact f w n P h)

    pub whole-fits : fits_whole w x ≡ true
    unfolding fits_whole
    whole-fits =
        let t = value-finite x (negative w n) (size w n) (2 ^ (w - 1)) (exact f w n P h) in
        rw (nearest, is_true (finite x) t) kept.0

    pub whole-digits : digits_of w (nearest_whole w x) ≡ n % 2 ^ w
    whole-digits = rw nearest kept.1

-- ---- the word of a kind
abbrev Again : SampleKind → Float → ℕ → Type 0
Again kind x n = (fits_in kind x ≡ true) × (word_of kind x ≡ n)

again : (kind : SampleKind) (x : Float) (n : ℕ) → fits_in kind x ≡ true → digits_in kind x ≡ n → Again kind x n
again kind x n t e = (t, ap (λ (b : Bool). cond b (digits_in kind x) 0) t ∙ e)

pub again16 : (f : Format) (n : ℕ) → Again Pcm16 (whole_of f 16 n) (n % 2 ^ 16)
again16 f n =
    again Pcm16 (whole_of f 16 n) _ (whole-fits 16 n (lit≤ tt) f (lit≤ tt)) (whole-digits 16 n (lit≤ tt) f (lit≤ tt))

pub again24 : (f : Format) (n : ℕ) → Again Pcm24 (whole_of f 24 n) (n % 2 ^ 24)
again24 f n =
    again Pcm24 (whole_of f 24 n) _ (whole-fits 24 n (lit≤ tt) f (lit≤ tt)) (whole-digits 24 n (lit≤ tt) f (lit≤ tt))

pub again-float : (n : ℕ) → n < 2 ^ 32 → T (finite (of_bits binary32 n)) → Again Float32 (of_bits binary32 n) n
again-float n l t =
    let x = of_bits binary32 n in
    let own : narrowed x ≡ x = narrowed-own x (of_bits-fits binary32 n) in
    again Float32 x n (ap finite own ∙ is_true (finite x) t)
    (ap (to_bits binary32) own ∙ to_bits-of_bits binary32 n l (finite_number x t))
