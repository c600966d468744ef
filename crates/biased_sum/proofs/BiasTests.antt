-- What the tests of `with_bias` show of a sum: whether it has a bias, and so what is returned. If it is accepted, the
-- biased sum holds it exactly. Assumes nothing.
use mathlib.Core.Path.{◌≡◌, refl, sym, ap, ◌∙◌, subst}
use mathlib.Core.Bool.{Bool, true, false, not, ◌&&◌, false≢true}
use Prim.Native.Nat.{ℕ, ◌-◌, ◌%◌, ◌≤◌, ◌<◌}
use native.Mathlib.Omega.{arith}
use lib.Dec.{T, leb}
use lib.Ieee.{Float, binary32, binary64, add, fits, is_nan, lt, ne}
use lib.Ieee.Compare.{differs_from_itself}
use borrow.Author.Tests.{lt-leb, le-leb, leb-true}
use Rattle.biased_sum.specs.declared.Ends.{Ends}
use Rattle.biased_sum.specs.declared.Start.{Start}
use Rattle.biased_sum.specs.Beginning.{power_of, has_bias, ends_for, biased_by, no_bias, pick_start, with_bias}
use Rattle.biased_sum.specs.Biased.{Biased}
use Rattle.biased_sum.specs.Sums.{taken}
use Rattle.biased_sum.proofs.ExactFrames.{framed}
use Rattle.biased_sum.proofs.Steps.{start}
use Rattle.biased_sum.proofs.CombinedTests.{first_of, second-of}

none_of : (a : Bool) → (a && false) ≡ false
none_of true = refl
none_of false = refl

pub nan-without : (x : Float) → ne x x ≡ true → has_bias x ≡ false
unfolding is_nan
nan-without x h = ap has_bias (differs_from_itself x (subst T (sym h) tt))

module _ (x : Float) where
  abbrev f : ℕ
  f = power_of x % 2048

  pub low-without : f < 899 → has_bias x ≡ false
  low-without h = ap (λ (z : Bool). not (is_nan x) && (z && leb f 1148)) (lt-leb 899 f h) ∙ none_of (not (is_nan x))

  pub high-without : 1148 < f → has_bias x ≡ false
  high-without h =
      ap (λ (z : Bool). not (is_nan x) && (leb 899 f && z)) (lt-leb f 1148 h)
      ∙ ap (λ (z : Bool). not (is_nan x) && z) (none_of (leb 899 f))
      ∙ none_of (not (is_nan x))

  with-one : T (not (is_nan x)) → 899 ≤ f → f ≤ 1148 → has_bias x ≡ true
  with-one n lo hi = all (not (is_nan x)) (leb 899 f) (leb f 1148) n (le-leb 899 f lo) (le-leb f 1148 hi)
    where
      all : (a b c : Bool) → T a → b ≡ true → c ≡ true → (a && (b && c)) ≡ true
      all true b c t e g = ap (λ (z : Bool). z && c) e ∙ g
      all false b c t e g = absurd t

  -- ---- what is returned
  abbrev found : Ends
  found = ends_for (leb 2048 (power_of x)) (f - 898)

  pub nothing : (r : Start) → has_bias x ≡ false → r ≡ no_bias → r ≡ with_bias x
  nothing r h e = e ∙ sym (ap (λ (z : Bool). pick_start z (biased_by found x) no_bias) h)

  abbrev given : Bool → Ends → Start
  given z e = record { fine = z; bias = e.bias; low = e.low; high = e.high; sum = add binary64 x e.bias }

  pub something : (z : Bool) (e : Ends) → T (not (is_nan x)) → 899 ≤ f → f ≤ 1148 → e ≡ found
      → z ≡ taken e.low e.high (add binary64 x e.bias) → given z e ≡ with_bias x
  something z e n lo hi is t =
      ap (λ (b : Bool). given b e) t
      ∙ ap (λ (b : Ends). biased_by b x) is
      ∙ sym (ap (λ (b : Bool). pick_start b (biased_by found x) no_bias) (with-one n lo hi))

  -- ---- what is accepted
  abbrev IsBiased : Start → Type 0
  IsBiased r = r.fine ≡ true → Biased r.bias r.low r.high r.sum x

  pub begins : (r : Start) → r ≡ with_bias x → T (fits binary32 x) → IsBiased r
  begins r is held = subst IsBiased (sym is) (go (has_bias x) refl)
    where
      go : (b : Bool) → has_bias x ≡ b → IsBiased (pick_start b (biased_by found x) no_bias)
      go false h t = absurd (false≢true t)
      go true h t =
          let top : leb f 1148 ≡ true =
          second-of (leb 899 f && leb f 1148) (leb 899 f) (leb f 1148) refl
          (second-of (has_bias x) (not (is_nan x)) (leb 899 f && leb f 1148) refl h) in
          let s = add binary64 x found.bias in
          let lo = lt found.low s in
          let hi = lt s found.high in
          start (leb 2048 (power_of x)) (f - 898) found.bias found.low found.high x
          (framed (f - 898) (omega (arith, leb-true f 1148 top)) (leb 2048 (power_of x))) held
          (first_of (lo && hi) lo hi refl t) (second-of (lo && hi) lo hi refl t)
