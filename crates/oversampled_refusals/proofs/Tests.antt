-- If the factor is out of range no other test counts, so that the code need not know the numbers' test there. Assumes
-- nothing.
use mathlib.Core.Path.{◌≡◌, refl}
use mathlib.Core.Bool.{Bool, true, false, ◌&&◌}
use Prim.Native.Nat.{ℕ}
use lib.Dec.{eqb, ltb}
use lib.Ieee.{Float, nan, inf, fin, lt, eq, le}
use lib.Ieee.Scale.{finite}
use Rattle.constants.specs.Numbers.{zero-f}
use Rattle.answer.specs.Refusals.{lowest_of}
use Rattle.filter_settings.specs.Ranges.{factor_ok}
use Rattle.oversampled_refusals.specs.Outer.{outer_limit, outer_limit-f, counts_ok, verdict, reset_verdict}
use Rattle.oversampled_refusals.specs.declared.Outer.{Outer}

if-factor : (f own lent r s p t4 t5 t6 t8 : Bool) → (f ≡ true → r ≡ s)
    → lowest_of (f && own) lent (r && p) t4 t5 t6 true t8 ≡ lowest_of (f && own) lent (s && p) t4 t5 t6 true t8
if-factor true own lent r s p t4 t5 t6 t8 h = rw (h refl)
if-factor false own lent r s p t4 t5 t6 t8 h = refl

-- There is no refusal if every test passes.
none_of : (own lent c w t4 t5 t6 t8 : Bool)
    → (own && lent) && (((c && t8) && w) && (t4 && (t5 && t6))) ≡ eqb (lowest_of own lent (c && w) t4 t5 t6 true t8) 0
none_of false lent c w t4 t5 t6 t8 = refl
none_of true false c w t4 t5 t6 t8 = refl
none_of true true false w t4 t5 t6 t8 = refl
none_of true true true false t4 t5 t6 false = refl
none_of true true true false t4 t5 t6 true = refl
none_of true true true true false t5 t6 false = refl
none_of true true true true false t5 t6 true = refl
none_of true true true true true false t6 false = refl
none_of true true true true true false t6 true = refl
none_of true true true true true true false false = refl
none_of true true true true true true false true = refl
none_of true true true true true true true false = refl
none_of true true true true true true true true = refl

if_none : (f own lent r c w t4 t5 t6 t8 : Bool) → (f ≡ true → r ≡ c && t8)
    → ((f && own) && lent) && ((r && w) && (t4 && (t5 && t6)))
    ≡ eqb (lowest_of (f && own) lent (c && w) t4 t5 t6 true t8) 0
if_none true own lent r c w t4 t5 t6 t8 h = rw (h refl) (none_of own lent c w t4 t5 t6 t8)
if_none false own lent r c w t4 t5 t6 t8 h = refl

-- A delay from 0 to 2^34 is finite.
bounded : (y : Float)
    → (finite y && le zero-f y) && le y outer_limit-f ≡ le zero-f y && le y outer_limit-f
unfolding le lt eq
bounded nan = refl
bounded (inf true) = refl
bounded (inf false) = refl
bounded (fin s m e) = refl

-- r is what the code has for the test of the two numbers.
module _ (own lent : Bool) (factor : ℕ) (s : Outer) (r : Bool)
    (counts : factor_ok factor ≡ true → r ≡ counts_ok factor s.accepted s.inner) where
  pub by_tests : (x y : Float)
      → lowest_of (factor_ok factor && own) lent (r && (le zero-f s.previous && le s.previous outer_limit-f))
      (finite x) (finite y && le zero-f y) (le y outer_limit-f) true (ltb s.accepted outer_limit)
      ≡ verdict own lent factor s x y
  by_tests x y =
      if-factor (factor_ok factor) own lent r (counts_ok factor s.accepted s.inner)
      (le zero-f s.previous && le s.previous outer_limit-f) (finite x) (finite y && le zero-f y)
      (le y outer_limit-f) (ltb s.accepted outer_limit) counts

  pub by-reset-tests : lowest_of (factor_ok factor && own) lent
      (r && (le zero-f s.previous && le s.previous outer_limit-f)) true true true true true
      ≡ reset_verdict own lent factor s
  by-reset-tests =
      if-factor (factor_ok factor) own lent r (counts_ok factor s.accepted s.inner)
      (le zero-f s.previous && le s.previous outer_limit-f) true true true true counts

-- Whether nothing is due; r is what the code has for the test of the two numbers and for that of a full reader.
pub none-due : (own lent : Bool) (factor : ℕ) (s : Outer) (r : Bool)
    → (factor_ok factor ≡ true → r ≡ counts_ok factor s.accepted s.inner && ltb s.accepted outer_limit)
    → (x y : Float)
    → ((factor_ok factor && own) && lent)
    && ((r && (le zero-f s.previous && le s.previous outer_limit-f))
    && (finite x && (le zero-f y && le y outer_limit-f)))
    ≡ eqb (verdict own lent factor s x y) 0
none-due own lent factor s r counts x y =
    rw (← bounded y)
    (if_none (factor_ok factor) own lent r (counts_ok factor s.accepted s.inner)
    (le zero-f s.previous && le s.previous outer_limit-f) (finite x) (finite y && le zero-f y) (le y outer_limit-f)
    (ltb s.accepted outer_limit) counts)

-- Tests that count only if those before them pass may be made in any way there: F is a table of tests whose first two
-- are given.
pub settled : {A : Type 0} (F : Bool → Bool → A) → ((a b : Bool) → F false a ≡ F false b)
    → (f own lent own' lent' : Bool) → (f ≡ true → own' ≡ own) → (f ≡ true → own ≡ true → lent' ≡ lent)
    → F (f && own') lent' ≡ F (f && own) lent
settled F still true own lent own' lent' p q = rw (p refl) (go own (q refl))
  where
    go : (o : Bool) → (o ≡ true → lent' ≡ lent) → F o lent' ≡ F o lent
    go true h = rw (h refl)
    go false h = still lent' lent
settled F still false own lent own' lent' p q = still lent' lent
