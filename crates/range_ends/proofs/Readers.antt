-- N1 to N6, N8, N9, G1, G3. The delay readers at the ends of their ranges, and the order of their refusals, by
-- computing. Assumes nothing.
use mathlib.Core.Path.{◌≡◌, refl}
use mathlib.Core.Bool.{false, true}
use mathlib.Core.List.{[], ◌∷◌, map}
use Prim.Native.Nat.{ℕ, ◌+◌, ◌-◌, ◌^◌}
use lib.Ieee.{nan, inf, le}
use Rattle.ring.specs.Places.{position_ok}
use Rattle.range_ends.specs.Floats.{f32, f64, one, limit, above-limit, about, from_zero, finite_ends, finite_ends_f32}
use Rattle.range_ends.specs.Readers.{called_by, called, opened, restarted}

-- N9. Each call has one fault fewer than the one above it: the settings, the ring's length, a count above 2^36, a NaN,
-- an infinite delay, one above 2^36, and a full state.
pub order : called 16777209 0 7 (2 ^ 36 + 1) nan (inf false)
    ∷ called 0 0 7 (2 ^ 36 + 1) nan (inf false)
    ∷ called 0 0 8 (2 ^ 36 + 1) nan (inf false)
    ∷ called 0 0 8 (2 ^ 36) nan (inf false)
    ∷ called 0 0 8 (2 ^ 36) one (inf false)
    ∷ called 0 0 8 (2 ^ 36) one above-limit
    ∷ called 0 0 8 (2 ^ 36) one limit
    ∷ called 0 0 8 0 one limit
    ∷ []
    ≡ 1 ∷ 2 ∷ 3 ∷ 4 ∷ 5 ∷ 6 ∷ 8 ∷ 0 ∷ []
unfolding called_by f64
order = refl

-- N9. A kernel's own settings give 1 and its table gives 2, before all that follows.
pub kernel-order : called_by false false 0 0 8 (2 ^ 36 + 1) nan nan ∷ called_by true false 0 0 8 (2 ^ 36 + 1) nan nan
    ∷ called_by true true 0 0 8 0 one one ∷ []
    ≡ 1 ∷ 2 ∷ 0 ∷ []
unfolding called_by f64
kernel-order = refl

-- N9. The same for a reset and an opening; a full state may be reset.
pub reset-order : restarted 16777209 0 7 (2 ^ 36 + 1) ∷ restarted 0 0 7 (2 ^ 36 + 1) ∷ restarted 0 0 8 (2 ^ 36 + 1)
    ∷ restarted 0 0 8 (2 ^ 36) ∷ []
    ≡ 1 ∷ 2 ∷ 3 ∷ 0 ∷ []
unfolding restarted
reset-order = refl

pub open_order : opened 16777209 0 7 ∷ opened 0 0 7 ∷ opened 0 0 8 ∷ [] ≡ 1 ∷ 2 ∷ 0 ∷ []
unfolding opened
open_order = refl

-- G1, N1. The sum is at most 2^24, by the maximum delay and by the margin; no setting makes it overflow.
pub delay-settings : map (λ (n : ℕ). called n 0 16777216 0 one one) (16777208 ∷ 16777209 ∷ (2 ^ 64 - 1) ∷ [])
    ≡ 0 ∷ 1 ∷ 1 ∷ []
unfolding called_by f64
delay-settings = refl

pub margin-settings : map (λ (n : ℕ). called 0 n 16777216 0 one one) (8388604 ∷ 8388605 ∷ (2 ^ 63) ∷ [])
    ≡ 0 ∷ 1 ∷ 1 ∷ []
unfolding called_by f64
margin-settings = refl

pub open-settings : map (λ (n : ℕ). opened n 0 16777216) (16777208 ∷ 16777209 ∷ (2 ^ 64 - 1) ∷ []) ≡ 0 ∷ 1 ∷ 1 ∷ []
unfolding opened
open-settings = refl

-- G1, N2. The length that is lent is exactly the next power of two.
pub ring-lengths : map (λ (n : ℕ). called 1016 0 n 0 one one) (0 ∷ 1023 ∷ 1024 ∷ 1025 ∷ 2048 ∷ [])
    ≡ 2 ∷ 2 ∷ 0 ∷ 2 ∷ 2 ∷ []
unfolding called_by f64
ring-lengths = refl

pub longer-rings : map (λ (n : ℕ). called 1017 0 n 0 one one) (1024 ∷ 2047 ∷ 2048 ∷ 2049 ∷ []) ≡ 2 ∷ 2 ∷ 0 ∷ 2 ∷ []
unfolding called_by f64
longer-rings = refl

pub open-lengths : map (opened 1017 0) (2047 ∷ 2048 ∷ 2049 ∷ []) ≡ 2 ∷ 0 ∷ 2 ∷ []
unfolding opened
open-lengths = refl

-- N3, N8. The state at 2^36 is valid and full.
pub counts : map (λ (n : ℕ). called 0 0 8 n one one) ((2 ^ 36 - 1) ∷ (2 ^ 36) ∷ (2 ^ 36 + 1) ∷ (2 ^ 64 - 1) ∷ [])
    ≡ 0 ∷ 8 ∷ 3 ∷ 3 ∷ []
unfolding called_by f64
counts = refl

pub reset-counts : map (restarted 0 0 8) (0 ∷ (2 ^ 36) ∷ (2 ^ 36 + 1) ∷ (2 ^ 64 - 1) ∷ []) ≡ 0 ∷ 0 ∷ 3 ∷ 3 ∷ []
unfolding restarted
reset-counts = refl

-- N4. The input is finite.
pub inputs : map (λ x. called 0 0 8 0 x one) finite_ends ≡ 0 ∷ 0 ∷ 4 ∷ 4 ∷ 4 ∷ []
unfolding called_by f64
inputs = refl

pub inputs-f32 : map (λ x. called 0 0 8 0 x one) finite_ends_f32 ≡ 0 ∷ 0 ∷ 4 ∷ 4 ∷ 4 ∷ []
unfolding called_by f64 f32
inputs-f32 = refl

-- N5, N6. -0.0 is accepted, and so is 2^36.
pub delays : map (λ y. called 0 0 8 0 one y) (from_zero 0x4230_0000_0000_0000) ≡ 5 ∷ 0 ∷ 0 ∷ 0 ∷ 6 ∷ 5 ∷ 5 ∷ 5 ∷ []
unfolding called_by f64
delays = refl

-- G3. The positions at which a slice is read are from -2^36 to 2^36.
pub positions : map position_ok (about 0x4230_0000_0000_0000) ≡ true ∷ false ∷ true ∷ false ∷ false ∷ false ∷ false ∷ []
unfolding le f64
positions = refl
