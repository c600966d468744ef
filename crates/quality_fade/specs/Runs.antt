-- Q1, Q2. Runs of accepted calls: the qualities that they ask for, one after the other. Definitions only.
use Rattle.std.specs.Prelude.{ℕ, zero, suc, ◌+◌, Bool, List, [], ◌∷◌, map}
use Rattle.quality_mode.specs.declared.QualityMode.{QualityMode}
use Rattle.quality_fade.specs.declared.Fade.{Fade}
use Rattle.quality_fade.specs.declared.Turn.{Turn}
use Rattle.quality_fade.specs.Fade.{fade_of}
use Rattle.quality_fade.specs.Step.{mix_turn, step_of}

-- What the calls do, in their order.
unfoldable pub turns_of : Fade → List QualityMode → List Turn
turns_of s [] = []
turns_of s (q ∷ qs) = step_of s q ∷ turns_of (step_of s q).state qs

-- The state that the calls leave.
unfoldable pub left_of : Fade → List QualityMode → Fade
left_of s [] = s
left_of s (q ∷ qs) = left_of (step_of s q).state qs

-- Which of the calls are mixed.
abbrev pub mixes_of : List Turn → List Bool
mixes_of ts = map (λ t. t.mixed) ts

-- A ramp of n mixed calls of the fade from c to q, the first at position i.
unfoldable pub ramp_of : QualityMode → QualityMode → ℕ → ℕ → ℕ → List Turn
ramp_of c q len i zero = []
ramp_of c q len i (suc n) = mix_turn (fade_of c q i len) ∷ ramp_of c q len (i + 1) n
