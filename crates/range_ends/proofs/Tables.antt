-- G3, G5, N1, N2. Lagrange's taps and tables of the windowed sinc at the ends of their ranges, and 1 before 2, by
-- computing. Assumes nothing.
use mathlib.Core.Path.{◌≡◌, refl}
use mathlib.Core.Bool.{false, true}
use mathlib.Core.List.{[], ◌∷◌, map}
use Prim.Native.Nat.{ℕ, ◌+◌, ◌*◌}
use lib.Ieee.{nan, le, lt}
use Rattle.sinc_settings.specs.Ranges.{passband_ok}
use Rattle.sinc_settings.specs.Refusals.{table_verdict}
use Rattle.sinc_read.specs.Reading.{sample_verdict}
use Rattle.range_ends.specs.Floats.{f64, zero, one, limit, about, across, from_zero}
use Rattle.range_ends.specs.Readers.{called_by, lagrange_called, lagrange_sampled, built_in, built, built_for_in}
use Rattle.range_ends.specs.Readers.{built_for}

-- G5. Lagrange's taps are even and from 2 to 16, for a reader and for a slice, whose position is tested too.
pub lagrange-taps : map lagrange_called (0 ∷ 1 ∷ 2 ∷ 3 ∷ 15 ∷ 16 ∷ 17 ∷ 18 ∷ []) ≡ 1 ∷ 1 ∷ 0 ∷ 1 ∷ 1 ∷ 0 ∷ 1 ∷ 1 ∷ []
unfolding called_by f64
lagrange-taps = refl

pub lagrange-slices : map (λ (t : ℕ). lagrange_sampled t limit) (0 ∷ 2 ∷ 3 ∷ 16 ∷ 18 ∷ []) ≡ 1 ∷ 0 ∷ 1 ∷ 0 ∷ 1 ∷ []
unfolding le f64
lagrange-slices = refl

pub lagrange-positions : map (lagrange_sampled 2) (about 0x4230_0000_0000_0000) ≡ 0 ∷ 1 ∷ 0 ∷ 1 ∷ 1 ∷ 1 ∷ 1 ∷ []
unfolding le f64
lagrange-positions = refl

-- G5. The taps of a table are even and from 4 to 128, and its phases from 2 to 4096, when it is built and when it is
-- lent to a reader.
pub taps : map (λ (t : ℕ). built t 64 one one) (2 ∷ 3 ∷ 4 ∷ 5 ∷ 127 ∷ 128 ∷ 129 ∷ 130 ∷ [])
    ≡ 1 ∷ 1 ∷ 0 ∷ 1 ∷ 1 ∷ 0 ∷ 1 ∷ 1 ∷ []
unfolding built_in f64
taps = refl

pub phases : map (λ (p : ℕ). built 32 p one one) (0 ∷ 1 ∷ 2 ∷ 4096 ∷ 4097 ∷ []) ≡ 1 ∷ 1 ∷ 0 ∷ 0 ∷ 1 ∷ []
unfolding built_in f64
phases = refl

pub lent-taps : map (λ (t : ℕ). table_verdict t 64 (65 * t)) (2 ∷ 3 ∷ 4 ∷ 5 ∷ 127 ∷ 128 ∷ 129 ∷ 130 ∷ [])
    ≡ 1 ∷ 1 ∷ 0 ∷ 1 ∷ 1 ∷ 0 ∷ 1 ∷ 1 ∷ []
lent-taps = refl

pub lent-phases : map (λ (p : ℕ). table_verdict 32 p ((p + 1) * 32)) (0 ∷ 1 ∷ 2 ∷ 4096 ∷ 4097 ∷ [])
    ≡ 1 ∷ 1 ∷ 0 ∷ 0 ∷ 1 ∷ []
lent-phases = refl

-- G5. The cutoff is from 1/1024 to 1, beta from 0 to 20.
pub cutoffs : map (λ x. built 4 2 x one) (across 0x3f50_0000_0000_0000 0x3ff0_0000_0000_0000)
    ≡ 1 ∷ 0 ∷ 0 ∷ 1 ∷ 1 ∷ 1 ∷ 1 ∷ []
unfolding built_in f64
cutoffs = refl

pub betas : map (λ x. built 4 2 one x) (from_zero 0x4034_0000_0000_0000) ≡ 1 ∷ 0 ∷ 0 ∷ 0 ∷ 1 ∷ 1 ∷ 1 ∷ 1 ∷ []
unfolding built_in f64
betas = refl

-- G5. In for_max_rate the rate is from 1 to 2, and the passband above 0 and at most 1. At the rate 2 the number next
-- above 1 would still give a cutoff in range.
pub max-rates : map (λ r. built_for r one) (across 0x3ff0_0000_0000_0000 0x4000_0000_0000_0000)
    ≡ 1 ∷ 0 ∷ 0 ∷ 1 ∷ 1 ∷ 1 ∷ 1 ∷ []
unfolding built_for_in f64
max-rates = refl

pub passbands : map passband_ok (zero ∷ f64 1 ∷ one ∷ f64 0x3ff0_0000_0000_0001 ∷ nan ∷ [])
    ≡ false ∷ true ∷ true ∷ false ∷ false ∷ []
unfolding le lt f64
passbands = refl

pub passbands-above : map (built_for (f64 0x4000_0000_0000_0000)) (one ∷ f64 0x3ff0_0000_0000_0001 ∷ []) ≡ 0 ∷ 1 ∷ []
unfolding built_for_in f64
passbands-above = refl

-- G5. The quotient must be in the range of the cutoff: the passband is at least 1/1024 at the rate 1, and 2/1024 at the
-- rate 2.
pub quotients : map (built_for one) (f64 0x3f50_0000_0000_0000 ∷ f64 0x3f4f_ffff_ffff_ffff ∷ f64 1 ∷ [])
    ≡ 0 ∷ 1 ∷ 1 ∷ []
unfolding built_for_in f64
quotients = refl

pub quotients-halved : map (built_for (f64 0x4000_0000_0000_0000))
    (f64 0x3f60_0000_0000_0000 ∷ f64 0x3f5f_ffff_ffff_ffff ∷ [])
    ≡ 0 ∷ 1 ∷ []
unfolding built_for_in f64
quotients-halved = refl

-- N2, N9. There is a row for each phase from 0 on; 1 comes before 2, also when a slice is read.
pub lengths : map (table_verdict 32 64) (0 ∷ 2079 ∷ 2080 ∷ 2081 ∷ []) ≡ 2 ∷ 2 ∷ 0 ∷ 2 ∷ []
lengths = refl

pub order : table_verdict 130 64 0 ∷ table_verdict 32 4097 0 ∷ table_verdict 32 64 0 ∷ [] ≡ 1 ∷ 1 ∷ 2 ∷ []
order = refl

pub build-order : built_in 130 64 one one 0 ∷ built_in 32 64 nan one 0 ∷ built_in 32 64 one nan 0
    ∷ built_in 32 64 one one 0 ∷ []
    ≡ 1 ∷ 1 ∷ 1 ∷ 2 ∷ []
unfolding built_in f64
build-order = refl

pub rate-order : built_for_in nan one 0 ∷ built_for_in one nan 0 ∷ built_for_in one one 0 ∷ built_for_in one one 12 ∷ []
    ≡ 1 ∷ 1 ∷ 2 ∷ 0 ∷ []
unfolding built_for_in f64
rate-order = refl

pub slice-order : sample_verdict 130 64 0 one ∷ sample_verdict 32 64 0 nan ∷ sample_verdict 32 64 0 one
    ∷ sample_verdict 32 64 2080 limit ∷ []
    ≡ 1 ∷ 1 ∷ 2 ∷ 0 ∷ []
unfolding le f64
slice-order = refl

pub slice-positions : map (sample_verdict 32 64 2080) (about 0x4230_0000_0000_0000) ≡ 0 ∷ 1 ∷ 0 ∷ 1 ∷ 1 ∷ 1 ∷ 1 ∷ []
unfolding le f64
slice-positions = refl
