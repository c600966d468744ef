-- The cases of `sum32` where the f64 sum is clear or not finite, and those of `is_clear`. Assumes nothing.
use Rattle.std.proofs.Common.{◌≡◌, ℕ, ◌-◌, ◌%◌, ◌^◌, ◌<◌, ◌≤◌, Bool, true, false, cond, not, T, eqb, sym, refl, ◌∙◌}
use Rattle.std.proofs.Common.{subst, true≢false, arith, eqb-true}
use mathlib.Core.Bool.{beq, false≢true}
use lib.Bits.{bit_and, and_mask}
use lib.Ieee.{Float, nan, inf, fin, binary32, binary64, add, fits, to_bits, ne}
use lib.Ieee.Compare.{differs_from_itself}
use lib.Ieee.Scale.{finite}
use borrow.Author.Tests.{not-true, not-false, eqb-false}
use Rattle.fused32.specs.Parts.{Clear, Tested}
use Rattle.rounding.specs.Operations.{narrowed}
use Rattle.fused32.proofs.Parts.{short}
use Rattle.fused32.proofs.Sums.{clear-sum}
use Rattle.rounding.proofs.Comparing.{differs-no-nan}
use Rattle.rounding.proofs.Patterns.{bits-finite, no-nan-rest, no_value, value-bits}

-- ---- what is not finite is not rounded
narrowed-pick : (b : Bool) (s : Bool) → narrowed (cond b (inf s) nan) ≡ cond b (inf s) nan
unfolding narrowed
narrowed-pick true s = refl
narrowed-pick false s = refl

not-both : (p c : Float) → (T (finite p) → T (finite c) → ⊥) → narrowed (add binary64 p c) ≡ add binary32 p c
unfolding add narrowed
not-both nan c n = refl
not-both (inf s) nan n = refl
not-both (inf s) (inf t) n = narrowed-pick (beq s t) s
not-both (inf s) (fin t m e) n = refl
not-both (fin s m e) nan n = refl
not-both (fin s m e) (inf t) n = refl
not-both (fin s m e) (fin t k d) n = absurd (n tt tt)

pub both : (p c : Float) → T (finite (add binary64 p c)) → (T (finite p)) × (T (finite c))
unfolding add
both nan c h = absurd h
both (inf s) nan h = absurd h
both (inf s) (inf t) h = absurd (no_value (beq s t) (inf s) nan (λ z. z) (λ z. z) h)
both (inf s) (fin t m e) h = absurd h
both (fin s m e) nan h = absurd h
both (fin s m e) (inf t) h = absurd h
both (fin s m e) (fin t k d) h = (tt, tt)

pub clear-code : (p c : Float) → T (fits binary64 p) → T (fits binary64 c) → Clear (add binary64 p c)
    → narrowed (add binary64 p c) ≡ add binary32 p c
clear-code p c P C h = go (finite p) refl (finite c) refl
  where
    go : (x : Bool) → finite p ≡ x → (y : Bool) → finite c ≡ y → narrowed (add binary64 p c) ≡ add binary32 p c
    go false e y f = not-both p c (λ a b. subst T e a)
    go true e false f = not-both p c (λ a b. subst T f b)
    go true e true f = clear-sum p c (short p P (subst T (sym e) tt)) (short c C (subst T (sym f) tt)) h

-- ---- `is_clear`
nan-no-value : (s : Float) → ne s s ≡ true → T (finite s) → ⊥
nan-no-value s e h = subst (λ (z : Float). T (finite z)) (differs_from_itself s (subst T (sym e) tt)) h

pub nan-tested : (s : Float) → ne s s ≡ true → Tested s true
nan-tested s e = record { clear = λ _ h. absurd (nan-no-value s e h); plain = λ h. absurd (true≢false h) }

module _ (s : Float) (held : T (fits binary64 s)) (d : ne s s ≡ false) where
  abbrev n : ℕ
  n = to_bits binary64 s

  pub small-tested : bit_and n (2 ^ 63 - 1) < 0x3810_0000_0000_0000 → Tested s false
  small-tested h =
      record {
        clear = λ e. absurd (false≢true e);
        plain = λ _. bits-finite binary64 s (differs-no-nan s d) (omega (arith, and_mask n 63));
      }

  pub other-tested : 0x3810_0000_0000_0000 ≤ bit_and n (2 ^ 63 - 1)
      → Tested s (not (eqb (bit_and (bit_and n (2 ^ 63 - 1)) (2 ^ 29 - 1)) 0x1000_0000))
  other-tested h = record {
    clear =
        λ e _. (
          omega (arith, and_mask n 63),
          λ m. eqb-false (bit_and (bit_and n (2 ^ 63 - 1)) (2 ^ 29 - 1)) 0x1000_0000
              (not-true (eqb (bit_and (bit_and n (2 ^ 63 - 1)) (2 ^ 29 - 1)) 0x1000_0000) e) (lower ∙ m),
        );
    plain =
        λ e. bits-finite binary64 s (differs-no-nan s d)
        (small (eqb-true (bit_and (bit_and n (2 ^ 63 - 1)) (2 ^ 29 - 1)) 0x1000_0000
        (not-false (eqb (bit_and (bit_and n (2 ^ 63 - 1)) (2 ^ 29 - 1)) 0x1000_0000) e)));
  }
    where
      lower : bit_and (bit_and n (2 ^ 63 - 1)) (2 ^ 29 - 1) ≡ n % 2 ^ 29
      lower = and_mask (bit_and n (2 ^ 63 - 1)) 29 ∙ omega (arith, and_mask n 63)

      -- The lower digits of an infinity are 0.
      small : bit_and (bit_and n (2 ^ 63 - 1)) (2 ^ 29 - 1) ≡ 0x1000_0000 → n % 2 ^ 63 < 0x7ff0_0000_0000_0000
      small e = omega (arith, lower, no-nan-rest binary64 n (value-bits binary64 s held (differs-no-nan s d)))
