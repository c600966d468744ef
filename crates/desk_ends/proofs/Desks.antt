-- W4, N1 to N9. A desk's call at the ends of its ranges, and the order of its refusals, about given numbers, so that an
-- end that is moved in code and definition together is noticed. Of the slots only the number of their floats is looked
-- at, so that they are any. By computing. Assumes nothing.
use mathlib.Core.Path.{◌≡◌, refl}
use mathlib.Core.Bool.{false}
use mathlib.Core.List.{List, [], ◌∷◌, map}
use Prim.Native.Nat.{ℕ, ◌-◌, ◌^◌}
use lib.ListN.{length}
use lib.Ieee.{Float, nan, inf}
use Rattle.room_grants.proofs.Ends.{f64, one, two, ends}
use Rattle.desk_ends.specs.Calls.{due}

-- The number next above 2^36.
abbrev pub above-limit : Float
above-limit = f64 0x4230_0000_0000_0001

-- W4. The desk reads a set that it holds, alone or with the other desk, in its mode; any other is missing, by 2.
pub marks : (slots : List Float) → length slots ≡ 1081648
    → map (λ (m : ℕ). due slots (one ∷ []) (m ∷ []) one 0 one one one) (0 ∷ 1 ∷ 2 ∷ 3 ∷ 4 ∷ 5 ∷ 7 ∷ 8 ∷ [])
    ≡ 2 ∷ 0 ∷ 2 ∷ 0 ∷ 2 ∷ 2 ∷ 2 ∷ 2 ∷ []
unfolding due f64
marks slots h = rw h refl

-- W4j. Beside it, a slot with a mark of 4 or above 7 is 3.
pub other-marks : (slots : List Float) → length slots ≡ 2163296
    → map (λ (m : ℕ). due slots (one ∷ two ∷ []) (1 ∷ m ∷ []) one 0 one one one) (0 ∷ 1 ∷ 4 ∷ 7 ∷ 8 ∷ 255 ∷ [])
    ≡ 0 ∷ 0 ∷ 3 ∷ 0 ∷ 3 ∷ 3 ∷ []
unfolding due f64
other-marks slots h = rw h refl

-- W4j. So is a held slot's rate that is not from 1 to 2, and the same rate again; the rate of a free slot says nothing.
pub other-rates : (slots : List Float) → length slots ≡ 2163296
    → map (λ r. due slots (one ∷ r ∷ []) (1 ∷ 2 ∷ []) one 0 one one one) ends ≡ 3 ∷ 3 ∷ 0 ∷ 3 ∷ 3 ∷ []
unfolding due f64
other-rates slots h = rw h refl

pub free-rates : (slots : List Float) → length slots ≡ 2163296
    → map (λ r. due slots (one ∷ r ∷ []) (1 ∷ 0 ∷ []) one 0 one one one) ends ≡ 0 ∷ 0 ∷ 0 ∷ 0 ∷ 0 ∷ []
unfolding due f64
free-rates slots h = rw h refl

-- W4a, N2. One float too few, or too many, is 2.
pub too_short : (slots : List Float) → length slots ≡ 1081647 → due slots (one ∷ []) (1 ∷ []) one 0 one one one ≡ 2
unfolding due f64
too_short slots h = rw h refl

pub too_long : (slots : List Float) → length slots ≡ 1081649 → due slots (one ∷ []) (1 ∷ []) one 0 one one one ≡ 2
unfolding due f64
too_long slots h = rw h refl

-- N1. The maximum rate is from 1 to 2: below and above it, and as a NaN, it is 1; otherwise a set that is not held is
-- missing.
pub maximum-rates : (slots : List Float) → length slots ≡ 1081648
    → map (λ r. due slots (one ∷ []) (0 ∷ []) r 0 one one one) ends ≡ 1 ∷ 2 ∷ 2 ∷ 1 ∷ 1 ∷ []
unfolding due f64
maximum-rates slots h = rw h refl

-- N7. For a rate that is a NaN no set is looked for: 7, and not 2.
pub no-rate : (slots : List Float) → length slots ≡ 1081648
    → map (λ (m : ℕ). due slots (one ∷ []) (m ∷ []) one 0 one one nan) (0 ∷ 1 ∷ []) ≡ 7 ∷ 7 ∷ []
unfolding due f64
no-rate slots h = rw h refl

-- N9. Each call has one fault fewer than the one above it: the maximum rate, a missing set, a mark of 4, a NaN, an
-- infinite delay, one above 2^36, the rate, and a full state.
pub order : (slots : List Float) → length slots ≡ 2163296
    → due slots (one ∷ two ∷ []) (0 ∷ 4 ∷ []) nan (2 ^ 36) nan (inf false) one
    ∷ due slots (one ∷ two ∷ []) (0 ∷ 4 ∷ []) one (2 ^ 36) nan (inf false) one
    ∷ due slots (one ∷ two ∷ []) (1 ∷ 4 ∷ []) one (2 ^ 36) nan (inf false) nan
    ∷ due slots (one ∷ two ∷ []) (1 ∷ 0 ∷ []) one (2 ^ 36) nan (inf false) nan
    ∷ due slots (one ∷ two ∷ []) (1 ∷ 0 ∷ []) one (2 ^ 36) one (inf false) nan
    ∷ due slots (one ∷ two ∷ []) (1 ∷ 0 ∷ []) one (2 ^ 36) one above-limit nan
    ∷ due slots (one ∷ two ∷ []) (1 ∷ 0 ∷ []) one (2 ^ 36) one one nan
    ∷ due slots (one ∷ two ∷ []) (1 ∷ 0 ∷ []) one (2 ^ 36) one one one
    ∷ due slots (one ∷ two ∷ []) (1 ∷ 0 ∷ []) one (2 ^ 36 - 1) one one one
    ∷ []
    ≡ 1 ∷ 2 ∷ 3 ∷ 4 ∷ 5 ∷ 6 ∷ 7 ∷ 8 ∷ 0 ∷ []
unfolding due f64
order slots h = rw h refl
