-- What the digits of patterns show of all samples: the digits that some sample has, and those that all have. Assumes
-- nothing.
use mathlib.Core.Path.{◌≡◌, refl, sym, ap, ◌∙◌, subst}
use mathlib.Core.Logic.{inl, inr}
use mathlib.Core.Bool.{Bool, true, false, cond, not, true≢false}
use mathlib.Core.List.{List, [], ◌∷◌}
use Prim.Native.Nat.{ℕ, zero, suc, ◌+◌, max, ◌*◌, ◌/◌, ◌%◌, ◌^◌, ◌≤◌, ◌<◌}
use native.Mathlib.Omega.{arith}
use native.Mathlib.Nat.{le-max_left, le-max_right, max-le}
use lib.Bits.{bit_and, bit_or, or_step, or_shr, and_high, and_comm, and_le_l}
use lib.Dec.{T, leb}
use lib.ListN.{length, get_or}
use lib.Ieee.{Float, nan, inf, fin, binary64, fits, lt, is_nan, of_bits, to_bits}
use lib.Ieee.Bits.{is_true, of_bits-to_bits, to_bits-lt}
use lib.Ieee.Scale.{finite}
use Rattle.rounding.specs.Operations.{narrowed}
use Rattle.rounding.proofs.NumberOrders.{lt-or-ge}
use Rattle.rounding.proofs.Patterns.{sign-rest}
use Rattle.sample_kind.specs.declared.SampleKind.TheVariants.{Float32}
use Rattle.stored_samples.specs.Stored.{fits_in}
use Rattle.wav_store.specs.Inner.{Plain, AllPlain, Tells, two, four}
use Rattle.wav_store.specs.Storing.{all_fit}
use Rattle.wav_store.proofs.Rounded.{below_two}

-- ---- one sample
module _ (x : Float) (held : T (fits binary64 x)) where
  abbrev n : ℕ
  n = to_bits binary64 x

  own : of_bits binary64 (cond (leb (2 ^ 63) n) (2 ^ 63) 0 + n % 2 ^ 63) ≡ x
  own = ap (of_bits binary64) (sym (sign-rest binary64 n (to_bits-lt binary64 x held))) ∙ of_bits-to_bits binary64 x
      held

  pub fits_below : n / 2 ^ 62 % 2 ≡ 0 → fits_in Float32 x ≡ true
  fits_below e =
      is_true _
      (subst (λ (z : Float). T (finite (narrowed z))) own
      (below_two (leb (2 ^ 63) n) (n % 2 ^ 63) (omega (arith, e)) (omega (arith, e))))

  pub own-digits : Tells x n
  own-digits =
      record {
        fits = fits_below;
        plain = λ e h. record { fit = fits_below e; large = omega (arith, e, h) };
      }

-- The number 2 has the digit 2^62.
two-tells : (x : Float) → Tells x (to_bits binary64 two)
unfolding to_bits
two-tells x = record { fits = λ e. absurd (omega (arith, e)); plain = λ e h. absurd (omega (arith, e)) }

below_no_nan : (x : Float) → lt x two ≡ true → T (not (is_nan x))
unfolding lt is_nan
below_no_nan nan e = absurd (true≢false (sym e))
below_no_nan (inf s) e = tt
below_no_nan (fin s m k) e = tt

pub cut-no-nan : (x : Float) → T (not (is_nan (cond (lt x two) x two)))
unfolding is_nan
cut-no-nan x = go (lt x two) refl
  where
    go : (t : Bool) → lt x two ≡ t → T (not (is_nan (cond t x two)))
    go true e = below_no_nan x e
    go false e = tt

pub cut-tells : (x : Float) → T (fits binary64 x) → Tells x (to_bits binary64 (cond (lt x two) x two))
cut-tells x held = go (lt x two)
  where
    go : (t : Bool) → Tells x (to_bits binary64 (cond t x two))
    go true = own-digits x held
    go false = two-tells x

-- ---- digits
-- If the digit 2^62 is not in the `or` of two numbers, it is in neither.
or-away : (a b : ℕ) → bit_or a b / 2 ^ 62 % 2 ≡ 0 → (a / 2 ^ 62 % 2 ≡ 0) × (b / 2 ^ 62 % 2 ≡ 0)
or-away a b e =
    let u = a / 2 ^ 62 in
    let v = b / 2 ^ 62 in
    let t : bit_or u v % 2 ≡ 0 = ap (λ (z : ℕ). z % 2) (sym (or_shr a b 62)) ∙ e in
    none (bit_or (u / 2) (v / 2)) (max (u % 2) (v % 2)) (u % 2) (v % 2)
    (ap (λ (z : ℕ). z % 2) (sym (or_step u v)) ∙ t) (le-max_left (u % 2) (v % 2)) (le-max_right (u % 2) (v % 2))
    (max-le (omega arith) (omega arith))
  where
    none : (q m c d : ℕ) → (q * 2 + m) % 2 ≡ 0 → c ≤ m → d ≤ m → m ≤ 1 → (c ≡ 0) × (d ≡ 0)
    none q m c d h l k o = (omega arith, omega arith)

-- If the four digits from 2^58 on are in the `and` of two numbers, they are in both.
and-there : (a b : ℕ) → a ≤ four → bit_and a b ≡ four → (a ≡ four) × (b / 2 ^ 58 % 16 ≡ 15)
and-there a b l e =
    let i : a ≡ four = omega (arith, and_le_l a b, e, l) in
    let h : (b / 2 ^ 58 % 16) * 2 ^ 58 ≡ four =
    sym (and_high b 4 58) ∙ and_comm b four ∙ ap (λ (z : ℕ). bit_and z b) (sym i) ∙ e in
    (i, omega (arith, h))

-- ---- all samples
same-get : (xs : List Float) (k : ℕ) (c d : Float) → k < length xs → get_or xs k c ≡ get_or xs k d
same-get [] k c d h = absurd (omega arith)
same-get (x ∷ xs) zero c d h = refl
same-get (x ∷ xs) (suc k) c d h = same-get xs k c d (omega arith)

gather : (xs : List Float) → ((k : ℕ) → k < length xs → (d : Float) → fits_in Float32 (get_or xs k d) ≡ true)
    → all_fit Float32 xs ≡ true
unfolding all_fit
gather [] f = refl
gather (x ∷ xs) f = rw (f 0 (omega arith) x) (gather xs (λ k h d. f (suc k) (omega (arith, h)) d))

pub plain-fit : (xs : List Float) → AllPlain xs → all_fit Float32 xs ≡ true
plain-fit xs p = gather xs (λ k h d. (p k h d).fit)

-- The first i samples have been looked at.
pub record Sighted (xs : List Float) (some every i : ℕ) : Type 0 where
  pub most : i ≤ length xs
  pub under : every ≤ four
  pub fit : some / 2 ^ 62 % 2 ≡ 0 → (k : ℕ) → k < i → (d : Float) → fits_in Float32 (get_or xs k d) ≡ true
  pub plain : some / 2 ^ 62 % 2 ≡ 0 → every ≡ four → (k : ℕ) → k < i → (d : Float) → Plain (get_or xs k d)

pub unsighted : {xs : List Float} → Sighted xs 0 four 0
unsighted =
    record {
      most = omega arith;
      under = omega arith;
      fit = λ e k h d. absurd (omega (arith, h));
      plain = λ e i k h d. absurd (omega (arith, h));
    }

module _ {xs : List Float} {some every i : ℕ} (l : Sighted xs some every i) where
  pub sighted-more : (c : Float) {b : ℕ} → i < length xs → Tells (get_or xs i c) b
      → Sighted xs (bit_or some b) (bit_and every b) (i + 1)
  sighted-more c {b} h t =
      record {
        most = omega arith;
        under = omega (arith, and_le_l every b, l.under);
        fit =
            λ e k m d. elim (lt-or-ge k i) [
              | inl n ↦ l.fit (or-away some b e).0 k n d
              | inr g ↦ subst (λ (x : Float). fits_in Float32 x ≡ true) (here k d (omega (arith, m, g)))
                  (t.fits (or-away some b e).1)
            ];
        plain =
            λ e j k m d. elim (lt-or-ge k i) [
              | inl n ↦ l.plain (or-away some b e).0 (and-there every b l.under j).0 k n d
              | inr g ↦ subst Plain (here k d (omega (arith, m, g)))
                  (t.plain (or-away some b e).1 (and-there every b l.under j).1)
            ];
      }
    where
      here : (k : ℕ) (d : Float) → i ≡ k → get_or xs i c ≡ get_or xs k d
      here k d e = same-get xs i c d h ∙ ap (λ (z : ℕ). get_or xs z d) e

  module _ (end : length xs ≤ i) (away : some / 2 ^ 62 % 2 ≡ 0) where
    pub all-fit : all_fit Float32 xs ≡ true
    all-fit = gather xs (λ k h d. l.fit away k (omega (arith, h, end)) d)

    pub all_plain : every ≡ four → AllPlain xs
    all_plain e k h d = l.plain away e k (omega (arith, h, end)) d

-- ---- sixteen samples from the i-th on, of which the first k have been looked at
pub record Shared (xs : List Float) (i all k : ℕ) : Type 0 where
  pub under : all ≤ four
  pub most : k ≤ 16
  pub plain : all ≡ four → (m : ℕ) → m < k → (d : Float) → Plain (get_or xs (i + m) d)

pub unshared : {xs : List Float} {i : ℕ} → Shared xs i four 0
unshared = record { under = omega arith; most = omega arith; plain = λ e m h d. absurd (omega (arith, h)) }

pub shared-more : {xs : List Float} {i all k : ℕ} → Shared xs i all k → (c : Float) {b : ℕ} → k < 16
    → i + k < length xs → fits_in Float32 (get_or xs (i + k) c) ≡ true → b ≡ to_bits binary64 (get_or xs (i + k) c)
    → Shared xs i (bit_and all b) (k + 1)
shared-more {xs} {i} {all} {k} l c {b} few h f e =
    record {
      under = omega (arith, and_le_l all b, l.under);
      most = omega arith;
      plain =
          λ j m n d. elim (lt-or-ge m k) [
            | inl o ↦ l.plain (and-there all b l.under j).0 m o d
            | inr g ↦
                let a : k ≡ m = omega (arith, n, g) in
                subst Plain (same-get xs (i + k) c d h ∙ ap (λ (z : ℕ). get_or xs (i + z) d) a)
                (record { fit = f; large = omega (arith, sym e, (and-there all b l.under j).1) })
          ];
    }
