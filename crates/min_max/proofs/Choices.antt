-- Which argument `chosen` returns, by the tests of the code; and what is known of the result: whatever holds for both
-- arguments, and on which side of the second it lies. Assumes nothing.
use mathlib.Core.Path.{◌≡◌, refl, sym}
use mathlib.Core.Bool.{Bool, true, false, not, cond, true≢false}
use lib.Dec.{T}
use lib.Ieee.{Float, nan, inf, fin, lt, eq, le, ne, is_nan}
use lib.Ieee.Bits.{is_false}
use lib.Ieee.Compare.{differs_from_itself}
use Rattle.magnitude.proofs.Comparisons.{le_itself, lt→le}
use Rattle.min_max.specs.Choice.{chosen, larger, smaller}

-- ---- by the tests
pub first : {t : Bool} (x y : Float) → t ≡ true → T (not (is_nan x)) → T (not (is_nan y)) → x ≡ chosen t x y
unfolding chosen
first x y h p q = rw (h, is_false (is_nan x) p, is_false (is_nan y) q)

either_way : (t : Bool) (y : Float) → y ≡ cond t y y
either_way true y = refl
either_way false y = refl

pub second : {t : Bool} (x y : Float) → t ≡ false → eq y y ≡ true → y ≡ chosen t x y
unfolding chosen eq is_nan
second x nan h k = absurd (true≢false (sym k))
second x (inf s) h k = rw h (either_way (is_nan x) (inf s))
second x (fin s n d) h k = rw h (either_way (is_nan x) (fin s n d))

beside-nan : (x : Float) → x ≡ chosen false x nan
unfolding chosen is_nan
beside-nan nan = refl
beside-nan (inf s) = refl
beside-nan (fin s m e) = refl

pub lone : {t : Bool} (x y : Float) → t ≡ false → eq y y ≡ false → x ≡ chosen t x y
unfolding ne
lone x y h k = rw (h, differs_from_itself y (rw k tt)) (beside-nan x)

-- ---- what is known of the result
pub chosen-keeps : (P : Float → Type 0) (t : Bool) (x y : Float) → P x → P y → P (chosen t x y)
unfolding chosen
chosen-keeps P t x y p q =
    pick (is_nan x) y (cond (is_nan y) x (cond t x y)) q (pick (is_nan y) x (cond t x y) p (pick t x y p q))
  where
    pick : (t : Bool) (x y : Float) → P x → P y → P (cond t x y)
    pick true x y p q = p
    pick false x y p q = q

pub larger-ge : (x y : Float) → T (not (is_nan y)) → T (le y (larger x y))
unfolding larger chosen
larger-ge x y q = go (is_nan x) (lt y x) (lt→le y x)
  where
    go : (s t : Bool) → (T t → T (le y x)) → T (le y (cond s y (cond (is_nan y) x (cond t x y))))
    go true t h = le_itself y q
    go false true h = rw (is_false (is_nan y) q) (h tt)
    go false false h = rw (is_false (is_nan y) q) (le_itself y q)

pub smaller-le : (x y : Float) → T (not (is_nan y)) → T (le (smaller x y) y)
unfolding smaller chosen
smaller-le x y q = go (is_nan x) (lt x y) (lt→le x y)
  where
    go : (s t : Bool) → (T t → T (le x y)) → T (le (cond s y (cond (is_nan y) x (cond t x y))) y)
    go true t h = le_itself y q
    go false true h = rw (is_false (is_nan y) q) (h tt)
    go false false h = rw (is_false (is_nan y) q) (le_itself y q)
