-- W9e, W9f. Runs of accepted calls by either rule, and how much of each quality a call reads. Definitions only.
use Rattle.std.specs.Prelude.{ℕ, ◌+◌, ◌-◌, ◌≤◌, ◌≡◌, Bool, false, cond, List, [], ◌∷◌}
use Rattle.quality_mode.specs.declared.QualityMode.{QualityMode}
use Rattle.quality_mode.specs.Quality.{same_q}
use Rattle.quality_fade.specs.declared.Turn.{Turn}
use Rattle.returning_fade.specs.declared.RuledFade.{RuledFade}
use Rattle.returning_fade.specs.Step.{step_of, left_by}

-- What the calls do, in their order, and the state that they leave.
unfoldable pub turns_of : RuledFade → List QualityMode → List Turn
turns_of s [] = []
turns_of s (q ∷ qs) = (step_of s q).turn ∷ turns_of (left_by s (step_of s q)) qs

unfoldable pub left_of : RuledFade → List QualityMode → RuledFade
left_of s [] = s
left_of s (q ∷ qs) = left_of (left_by s (step_of s q)) qs

-- W9e. The share of a quality in a call, out of the length N: a plain call gives N to its quality, a mixed one its
-- weight to the second and the rest of N to the first.
abbrev pub part : Bool → ℕ → ℕ
part has n = cond has n 0

abbrev pub share_of : Turn → QualityMode → ℕ
share_of t r =
    let n = t.state.crossfade_samples in
    cond t.mixed (part (same_q r t.from) (n - t.weight) + part (same_q r t.to) t.weight)
    (part (same_q r t.to) n)

-- No share changes by more than 1 from one call to the next, in a whole run.
abbrev pub Close : ℕ → ℕ → Type 0
Close a b = (a ≤ b + 1) × (b ≤ a + 1)

unfoldable pub Smooth : List Turn → Type 0
Smooth [] = Unit {0}
Smooth (t ∷ []) = Unit {0}
Smooth (t ∷ u ∷ us) = ((r : QualityMode) → Close (share_of t r) (share_of u r)) × Smooth (u ∷ us)

-- W9f. A call that reads one quality alone.
pub record PlainIn (q : QualityMode) (t : Turn) : Type 0 where
  pub plain : t.mixed ≡ false
  pub reads : t.to ≡ q
