-- `same_q` says whether two qualities are equal, and a quality is determined by its number, because no two share one.
-- Assumes nothing.
use mathlib.Core.Path.{◌≡◌, refl, sym}
use mathlib.Core.Bool.{true, false}
use borrow.Author.Tests.{eqb-true, eqb-false, eq-eqb, ne_eqb}
use Rattle.quality_mode.specs.declared.QualityMode.{QualityMode}
use Rattle.quality_mode.specs.declared.QualityMode.TheVariants.{Draft, Normal, Hq, Ultra}
use Rattle.std.specs.Prelude.{Ok}
use Rattle.quality_mode.specs.Quality.{code_of, same_q}
use Rattle.quality_mode.specs.Names.{named_of}

-- The number of a quality names it.
pub named : (q : QualityMode) → named_of (code_of q) ≡ Ok q
named Draft = refl
named Normal = refl
named Hq = refl
named Ultra = refl

pub same-eq : (a b : QualityMode) → same_q a b ≡ true → a ≡ b
same-eq a b h = let e = eqb-true (code_of a) (code_of b) h in cc (named a, named b)

pub same_refl : (a : QualityMode) → same_q a a ≡ true
same_refl a = eq-eqb (code_of a) (code_of a) refl

-- The same for the two qualities exchanged.
pub same_not : (a b : QualityMode) → same_q a b ≡ false → same_q b a ≡ false
same_not a b h = ne_eqb (code_of b) (code_of a) (λ e. eqb-false (code_of a) (code_of b) h (sym e))
