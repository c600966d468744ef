-- N1, N3, N9. A quality's number: 0 to 3 name one. Any other gives 1 if it is the requested quality's, whatever else is
-- wrong, and 3 in a state, after 1 and 2 and before 4 to 8. W9h: so does a rule's and a direction's number above 1.
-- Proved by computing; of a lent bank only the length matters. Assumes nothing.
use mathlib.Core.Path.{◌≡◌, refl}
use mathlib.Core.List.{List, [], ◌∷◌, map}
use Prim.Native.Nat.{ℕ}
use lib.ListN.{length}
use lib.Ieee.{Float, nan, is_nan, size, le, sub, div}
use Rattle.ring.specs.Length.{length_for, zeros}
use Rattle.bank_choice.specs.Rates.{ceiling_of, steps_of}
use Rattle.refusal.specs.Numbers.{refusal_of}
use Rattle.quality_mode.specs.Names.{named_of}
use Rattle.quality_fade.specs.Fade.{place_ok}
use Rattle.returning_fade.specs.declared.Rule.TheVariants.{Ported, Returning}
use Rattle.returning_fade.specs.Rules.{returning_ok}
use Rattle.quality_codes.specs.Codes.{state_of, code_ok}
use Rattle.quality_codes.specs.Calls.{called_of, renewed_of, fresh_of}
use Rattle.range_ends.specs.Floats.{f64, one}
use Rattle.range_ends.specs.Readers.{renewed, ported_state}

pub named : map (λ (q : ℕ). refusal_of (named_of q)) (0 ∷ 3 ∷ 4 ∷ 255 ∷ []) ≡ 0 ∷ 0 ∷ 1 ∷ 1 ∷ []
named = refl

-- An opening requests a quality.
pub opened : map (λ (q : ℕ). (renewed_of (code_ok q) (fresh_of Ported 0 0 q 9) 8).number) (0 ∷ 3 ∷ 4 ∷ 255 ∷ [])
    ≡ 0 ∷ 0 ∷ 1 ∷ 1 ∷ []
unfolding length_for place_ok returning_ok size
opened = refl

pub open_order : (renewed_of (code_ok 4) (fresh_of Ported 0 0 4 9) 7).number
    ∷ (renewed_of (code_ok 3) (fresh_of Ported 0 0 3 16777217) 7).number
    ∷ (renewed_of (code_ok 3) (fresh_of Ported 0 0 3 9) 7).number
    ∷ (renewed_of (code_ok 3) (fresh_of Ported 0 0 3 16777216) 8).number ∷ []
    ≡ 1 ∷ 1 ∷ 2 ∷ 0 ∷ []
unfolding length_for place_ok returning_ok size
open_order = refl

pub opened-returning : map (λ (q : ℕ). (renewed_of (code_ok q) (fresh_of Returning 0 0 q 9) 8).number) (0 ∷ 3 ∷ 4 ∷ [])
    ≡ 0 ∷ 0 ∷ 1 ∷ []
unfolding length_for place_ok returning_ok size
opened-returning = refl

-- A reset requests none. Each state has one fault fewer than the one above it.
pub reset-order : renewed (ported_state 16777209 0 0 4 4 9 9) 7
    ∷ renewed (ported_state 0 0 0 4 4 9 9) 7
    ∷ renewed (ported_state 0 0 0 4 4 9 9) 8
    ∷ renewed (ported_state 0 0 0 3 4 0 9) 8
    ∷ renewed (ported_state 0 0 0 4 3 0 9) 8
    ∷ renewed (ported_state 0 0 0 3 3 9 9) 8
    ∷ []
    ≡ 1 ∷ 2 ∷ 3 ∷ 3 ∷ 3 ∷ 0 ∷ []
unfolding renewed
reset-order = refl

-- A call requests a quality, by the number after the delay.
pub order : (sets : List Float) → length sets ≡ 1081648
    → (called_of sets one (ported_state 16777209 0 0 4 4 9 9) (zeros 7) nan nan 4 nan).number
    ∷ (called_of sets one (ported_state 16777209 0 0 4 4 9 9) (zeros 7) nan nan 3 nan).number
    ∷ (called_of sets one (ported_state 0 0 0 4 4 9 9) (zeros 7) nan nan 3 nan).number
    ∷ (called_of sets one (ported_state 0 0 0 4 4 9 9) (zeros 8) nan nan 3 nan).number
    ∷ (called_of sets one (ported_state 0 0 0 4 4 9 9) (zeros 8) one one 3 one).number
    ∷ (called_of sets one (ported_state 0 0 0 3 3 9 9) (zeros 8) one one 4 one).number
    ∷ (called_of sets one (ported_state 0 0 0 3 3 9 9) (zeros 8) one one 3 one).number
    ∷ []
    ≡ 1 ∷ 1 ∷ 2 ∷ 3 ∷ 3 ∷ 1 ∷ 0 ∷ []
unfolding length_for place_ok returning_ok steps_of ceiling_of size is_nan le sub div f64
order sets h = rw h

-- W9h. A rule's number, and a direction's, one beyond the ends; and in the order of refusals.
pub rules : map (λ (k : ℕ). renewed (state_of 0 0 0 3 3 9 9 k 0) 8) (0 ∷ 1 ∷ 2 ∷ 255 ∷ []) ≡ 0 ∷ 0 ∷ 3 ∷ 3 ∷ []
unfolding renewed
rules = refl

pub directions : map (λ (k : ℕ). renewed (state_of 0 0 0 2 3 8 9 1 k) 8) (0 ∷ 1 ∷ 2 ∷ 255 ∷ []) ≡ 0 ∷ 0 ∷ 3 ∷ 3 ∷ []
unfolding renewed
directions = refl

pub rule-order : (sets : List Float) → length sets ≡ 1081648
    → (called_of sets one (state_of 16777209 0 0 3 3 9 9 2 2) (zeros 7) nan nan 4 nan).number
    ∷ (called_of sets one (state_of 16777209 0 0 3 3 9 9 2 2) (zeros 7) nan nan 3 nan).number
    ∷ (called_of sets one (state_of 0 0 0 3 3 9 9 2 2) (zeros 7) nan nan 3 nan).number
    ∷ (called_of sets one (state_of 0 0 0 3 3 9 9 2 2) (zeros 8) nan nan 3 nan).number
    ∷ (called_of sets one (state_of 0 0 0 3 3 9 9 2 0) (zeros 8) nan nan 3 nan).number
    ∷ (called_of sets one (state_of 0 0 0 2 3 8 9 1 2) (zeros 8) nan nan 3 nan).number
    ∷ (called_of sets one (state_of 0 0 0 3 3 9 9 1 0) (zeros 8) nan nan 3 nan).number
    ∷ []
    ≡ 1 ∷ 1 ∷ 2 ∷ 3 ∷ 3 ∷ 3 ∷ 4 ∷ []
unfolding length_for place_ok returning_ok steps_of ceiling_of size is_nan le sub div f64
rule-order sets h = rw h
