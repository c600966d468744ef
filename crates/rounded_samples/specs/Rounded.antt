-- W2. Samples that a kind cannot hold, and samples as whole numbers of 24 bits. Definitions only.
use Rattle.std.specs.Prelude.{ℕ, suc, cond, List, [], ◌∷◌, ℤ, get_or, Float}
use Rattle.constants.specs.Numbers.{zero-f}
use Rattle.sample_kind.specs.declared.SampleKind.{SampleKind}
use Rattle.sample_kind.specs.declared.SampleKind.TheVariants.{Pcm24}
use Rattle.stored_samples.specs.Stored.{fits_in, word_of}
use Rattle.whole_samples.specs.Whole.{units_of}

-- W2e. The place of the first sample that does not fit its kind; the number of samples if all fit.
unfoldable pub misfit_in : SampleKind → List Float → ℕ
misfit_in kind [] = 0
misfit_in kind (x ∷ xs) = cond (fits_in kind x) (suc (misfit_in kind xs)) 0

-- W2d. A sample as the whole number of units of 2^-23 that 24 bits store for it; 0 for one that does not fit.
abbrev pub rounded_of : Float → ℤ
rounded_of x = units_of 24 (word_of Pcm24 x)

abbrev pub rounded_at : List Float → ℕ → ℤ
rounded_at xs k = rounded_of (get_or xs k zero-f)
