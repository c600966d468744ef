-- G2, G6, N1 to N9. The reader whose quality may change at the ends of its ranges, and the order of its refusals, by
-- computing. Assumes nothing.
use mathlib.Core.Path.{◌≡◌, refl}
use mathlib.Core.Bool.{false}
use mathlib.Core.List.{[], ◌∷◌, map}
use Prim.Native.Nat.{ℕ, ◌+◌, ◌-◌, ◌^◌}
use lib.Ieee.{nan, inf}
use Rattle.quality_codes.specs.Codes.{state_of}
use Rattle.range_ends.specs.Floats.{f32, f64, one, above-limit, across, from_zero, finite_ends, finite_ends_f32}
use Rattle.range_ends.specs.Readers.{asked, renewed, ported_state, faded, returned}

-- N9. Each call has a fault fewer than the one above it: maximum delay, crossfade and the bank's rate by 1; the lengths
-- of ring and bank by 2; count and fade place by 3; then the sample, the delay twice, the rate, and a full state.
pub order : asked (ported_state 16777209 0 (2 ^ 36 + 1) 0 1 16777217 16777217) 7 0 nan nan (inf false) nan
    ∷ asked (ported_state 0 0 (2 ^ 36 + 1) 0 1 16777217 16777217) 7 0 nan nan (inf false) nan
    ∷ asked (ported_state 0 0 (2 ^ 36 + 1) 0 1 9 9) 7 0 nan nan (inf false) nan
    ∷ asked (ported_state 0 0 (2 ^ 36 + 1) 0 1 9 9) 7 0 one nan (inf false) nan
    ∷ asked (ported_state 0 0 (2 ^ 36 + 1) 0 1 9 9) 8 0 one nan (inf false) nan
    ∷ asked (ported_state 0 0 (2 ^ 36 + 1) 0 1 9 9) 8 1081648 one nan (inf false) nan
    ∷ asked (ported_state 0 0 (2 ^ 36) 0 1 9 9) 8 1081648 one nan (inf false) nan
    ∷ asked (ported_state 0 0 (2 ^ 36) 0 1 8 9) 8 1081648 one nan (inf false) nan
    ∷ asked (ported_state 0 0 (2 ^ 36) 0 1 8 9) 8 1081648 one one (inf false) nan
    ∷ asked (ported_state 0 0 (2 ^ 36) 0 1 8 9) 8 1081648 one one above-limit nan
    ∷ asked (ported_state 0 0 (2 ^ 36) 0 1 8 9) 8 1081648 one one one nan
    ∷ asked (ported_state 0 0 (2 ^ 36) 0 1 8 9) 8 1081648 one one one one
    ∷ asked (ported_state 0 0 (2 ^ 36 - 1) 0 1 8 9) 8 1081648 one one one one
    ∷ []
    ≡ 1 ∷ 1 ∷ 1 ∷ 2 ∷ 2 ∷ 3 ∷ 3 ∷ 4 ∷ 5 ∷ 6 ∷ 7 ∷ 8 ∷ 0 ∷ []
unfolding asked f64
order = refl

pub reset-order : renewed (ported_state 16777209 0 (2 ^ 36 + 1) 0 1 16777217 16777217) 7
    ∷ renewed (ported_state 0 0 (2 ^ 36 + 1) 0 1 16777217 16777217) 7
    ∷ renewed (ported_state 0 0 (2 ^ 36 + 1) 0 1 9 9) 7
    ∷ renewed (ported_state 0 0 (2 ^ 36 + 1) 0 1 9 9) 8
    ∷ renewed (ported_state 0 0 (2 ^ 36) 0 1 9 9) 8
    ∷ renewed (ported_state 0 0 (2 ^ 36) 0 1 8 9) 8
    ∷ []
    ≡ 1 ∷ 1 ∷ 2 ∷ 3 ∷ 3 ∷ 0 ∷ []
unfolding renewed
reset-order = refl

-- G2, N1. The crossfade is from 0 to 16777216 samples, in a call and in a reset, which an opening is.
pub crossfades : map (faded 0 0 0) (0 ∷ 16777215 ∷ 16777216 ∷ 16777217 ∷ (2 ^ 32 - 1) ∷ []) ≡ 0 ∷ 0 ∷ 0 ∷ 1 ∷ 1 ∷ []
unfolding asked f64
crossfades = refl

pub reset-crossfades : map (λ (n : ℕ). renewed (ported_state 0 0 0 0 0 n n) 8)
    (0 ∷ 16777215 ∷ 16777216 ∷ 16777217 ∷ (2 ^ 32 - 1) ∷ [])
    ≡ 0 ∷ 0 ∷ 0 ∷ 1 ∷ 1 ∷ []
unfolding renewed
reset-crossfades = refl

-- G2, N3. The fade position is from 0 to the length, and below it if current and target differ; at length 0 they do
-- not.
pub places : map (λ (p : ℕ). faded 2 2 p 9) (0 ∷ 9 ∷ 10 ∷ []) ≡ 0 ∷ 0 ∷ 3 ∷ []
unfolding asked f64
places = refl

pub places-between : map (λ (p : ℕ). faded 2 3 p 9) (0 ∷ 8 ∷ 9 ∷ 10 ∷ []) ≡ 0 ∷ 0 ∷ 3 ∷ 3 ∷ []
unfolding asked f64
places-between = refl

pub places-at-0 : faded 2 2 0 0 ∷ faded 2 2 1 0 ∷ faded 2 3 0 0 ∷ [] ≡ 0 ∷ 3 ∷ 3 ∷ []
unfolding asked f64
places-at-0 = refl

pub reset-places : map (λ (p : ℕ). renewed (ported_state 0 0 0 2 3 p 9) 8) (0 ∷ 8 ∷ 9 ∷ 10 ∷ []) ≡ 0 ∷ 0 ∷ 3 ∷ 3 ∷ []
unfolding renewed
reset-places = refl

-- W9g. By the ported rule the direction is onwards. By the second rule so is that of a state in which no fade runs, at
-- a place from 0 to the length; a running fade has a place above 0 and below the length, in either direction; at length
-- 0 none runs.
pub ported-way : map (λ (w : ℕ). asked (state_of 0 0 0 2 3 8 9 0 w) 8 1081648 one one one one) (0 ∷ 1 ∷ []) ≡ 0 ∷ 3 ∷ []
unfolding asked f64
ported-way = refl

pub returning-rests : map (λ (p : ℕ). returned 0 2 2 p 9) (0 ∷ 9 ∷ 10 ∷ []) ≡ 0 ∷ 0 ∷ 3 ∷ []
unfolding asked f64
returning-rests = refl

pub returning-rests-back : map (λ (p : ℕ). returned 1 2 2 p 9) (0 ∷ 9 ∷ 10 ∷ []) ≡ 3 ∷ 3 ∷ 3 ∷ []
unfolding asked f64
returning-rests-back = refl

pub returning-runs : map (λ (p : ℕ). returned 0 2 3 p 9) (0 ∷ 1 ∷ 8 ∷ 9 ∷ []) ≡ 3 ∷ 0 ∷ 0 ∷ 3 ∷ []
unfolding asked f64
returning-runs = refl

pub returning-runs-back : map (λ (p : ℕ). returned 1 2 3 p 9) (0 ∷ 1 ∷ 8 ∷ 9 ∷ []) ≡ 3 ∷ 0 ∷ 0 ∷ 3 ∷ []
unfolding asked f64
returning-runs-back = refl

pub returning-at-0 : returned 0 2 2 0 0 ∷ returned 0 2 2 1 0 ∷ returned 0 2 3 0 0 ∷ [] ≡ 0 ∷ 3 ∷ 3 ∷ []
unfolding asked f64
returning-at-0 = refl

-- G6, N1, N2. The bank's rate is 1 to 2, and its sets are lent to the element.
pub bank-rates : map (λ t. asked (ported_state 0 0 0 0 0 0 0) 8 1081648 t one one one)
    (across 0x3ff0_0000_0000_0000 0x4000_0000_0000_0000)
    ≡ 1 ∷ 0 ∷ 2 ∷ 1 ∷ 1 ∷ 1 ∷ 1 ∷ []
unfolding asked f64
bank-rates = refl

pub bank-lengths : map (λ (n : ℕ). asked (ported_state 0 0 0 0 0 0 0) 8 n one one one one)
    (1081647 ∷ 1081648 ∷ 1081649 ∷ [])
    ≡ 2 ∷ 0 ∷ 2 ∷ []
unfolding asked f64
bank-lengths = refl

-- N3, N8. The state at 2^36 is valid and full.
pub counts : map (λ (n : ℕ). asked (ported_state 0 0 n 0 0 0 0) 8 1081648 one one one one)
    ((2 ^ 36 - 1) ∷ (2 ^ 36) ∷ (2 ^ 36 + 1) ∷ [])
    ≡ 0 ∷ 8 ∷ 3 ∷ []
unfolding asked f64
counts = refl

-- N4 to N7. Any rate that is no NaN is accepted, an infinite one too.
pub inputs : map (λ x. asked (ported_state 0 0 0 0 0 0 0) 8 1081648 one x one one) finite_ends_f32
    ≡ 0 ∷ 0 ∷ 4 ∷ 4 ∷ 4 ∷ []
unfolding asked f64 f32
inputs = refl

pub delays : map (λ y. asked (ported_state 0 0 0 0 0 0 0) 8 1081648 one one y one) (from_zero 0x4230_0000_0000_0000)
    ≡ 5 ∷ 0 ∷ 0 ∷ 0 ∷ 6 ∷ 5 ∷ 5 ∷ 5 ∷ []
unfolding asked f64
delays = refl

pub rates : map (λ r. asked (ported_state 0 0 0 0 0 0 0) 8 1081648 one one one r) finite_ends ≡ 0 ∷ 0 ∷ 0 ∷ 0 ∷ 7 ∷ []
unfolding asked f64
rates = refl
