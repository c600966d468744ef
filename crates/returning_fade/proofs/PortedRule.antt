-- W9b. By the ported rule a call is `quality_fade`'s, and so is a run, call by call; the direction stays as it was.
-- Assumes nothing.
use mathlib.Core.Path.{◌≡◌, refl, sym, ap, subst}
use mathlib.Core.Bool.{true, not, true≢false}
use mathlib.Core.List.{List, [], ◌∷◌}
use Rattle.quality_mode.specs.declared.QualityMode.{QualityMode}
use Rattle.quality_fade.specs.declared.Fade.{Fade}
use Rattle.quality_fade.specs.declared.Turn.{Turn}
use Rattle.quality_fade.specs.Fade.{length_ok}
use Rattle.quality_fade.specs.Fade as ported-fade
use Rattle.quality_fade.specs.Step as ported-step
use Rattle.quality_fade.specs.Runs as ported-runs
use Rattle.quality_fade.proofs.StaysInRange.{both}
use Rattle.returning_fade.specs.declared.Rule.{Rule}
use Rattle.returning_fade.specs.declared.Rule.TheVariants.{Ported}
use Rattle.returning_fade.specs.declared.Direction.{Direction}
use Rattle.returning_fade.specs.declared.Direction.TheVariants.{Onwards, Back}
use Rattle.returning_fade.specs.declared.RuledFade.{RuledFade}
use Rattle.returning_fade.specs.Rules.{backwards, ruled, place_by, valid_of}
use Rattle.returning_fade.specs.Step.{step_of}
use Rattle.returning_fade.specs.Runs.{turns_of, left_of}

turns-by : (direction : Direction) (s : Fade) (qs : List QualityMode)
    → turns_of (ruled Ported direction s) qs ≡ ported-runs.turns_of s qs
unfolding turns_of ported-runs.turns_of
turns-by direction s [] = refl
turns-by direction s (q ∷ qs) =
    ap (λ (ts : List Turn). ported-step.step_of s q ∷ ts) (turns-by direction (ported-step.step_of s q).state qs)

left_by : (direction : Direction) (s : Fade) (qs : List QualityMode)
    → left_of (ruled Ported direction s) qs ≡ ruled Ported direction (ported-runs.left_of s qs)
unfolding left_of ported-runs.left_of
left_by direction s [] = refl
left_by direction s (q ∷ qs) = left_by direction (ported-step.step_of s q).state qs

module _ (s : RuledFade) (e : s.rule ≡ Ported) where
  pub step : (q : QualityMode) → (step_of s q).turn ≡ ported-step.step_of s.fade q
  step q = rw e

  pub turns : (qs : List QualityMode) → turns_of s qs ≡ ported-runs.turns_of s.fade qs
  turns qs =
      subst (λ (r : Rule). turns_of (ruled r s.direction s.fade) qs ≡ ported-runs.turns_of s.fade qs) (sym e)
      (turns-by s.direction s.fade qs)

  pub left : (qs : List QualityMode) → left_of s qs ≡ ruled Ported s.direction (ported-runs.left_of s.fade qs)
  left qs =
      subst (λ (r : Rule). left_of (ruled r s.direction s.fade) qs
      ≡ ruled Ported s.direction (ported-runs.left_of s.fade qs)) (sym e)
      (left_by s.direction s.fade qs)

  -- A state in its ranges by the ported rule is one of `quality_fade`'s in its ranges, with the direction onwards.
  module _ (v : valid_of s ≡ true) where
    tests : (length_ok s.fade.crossfade_samples ≡ true) × (place_by Ported s.direction s.fade ≡ true)
    tests = both _ _ (subst (λ (r : Rule). valid_of (ruled r s.direction s.fade) ≡ true) e v)

    pub valid : ported-fade.valid_of s.fade ≡ true
    valid = rw tests.0 (both (not (backwards s.direction)) _ tests.1).1

    pub onwards : s.direction ≡ Onwards
    onwards = go s.direction (both (not (backwards s.direction)) _ tests.1).0
      where
        go : (direction : Direction) → not (backwards direction) ≡ true → direction ≡ Onwards
        go Onwards h = refl
        go Back h = absurd (true≢false (sym h))
