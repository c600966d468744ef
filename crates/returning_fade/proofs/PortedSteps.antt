-- Every call by the second rule is one step of the ported rule. If no fade runs, it is that step; on the way to the
-- target, the step that requests the target; on the way back, the step from two places lower, or at place 1 a call in
-- the current quality. Assumes nothing.
use mathlib.Core.Path.{◌≡◌, refl, ◌∙◌, ap}
use mathlib.Core.Bool.{Bool, true, false, not, ◌&&◌, cond}
use Prim.Native.Nat.{◌+◌, ◌-◌, ◌<◌}
use native.Mathlib.Omega.{arith}
use borrow.Author.Tests.{ltb-true, leb-false, lt-leb}
use lib.Dec.{leb, ltb}
use Rattle.quality_mode.specs.declared.QualityMode.{QualityMode}
use Rattle.quality_mode.specs.Quality.{same_q}
use Rattle.quality_mode.proofs.Equal.{same_refl}
use Rattle.quality_fade.specs.declared.Fade.{Fade}
use Rattle.quality_fade.specs.declared.Turn.{Turn}
use Rattle.quality_fade.specs.Fade.{fade_of, length_ok, place_ok, valid_of, open_of}
use Rattle.quality_fade.specs.Step.{asked_of, turn_of}
use Rattle.quality_fade.specs.Step as ported
use Rattle.quality_fade.proofs.StaysInRange.{both, step-taken}
use Rattle.quality_fade.proofs.OneCall.{fade-valid, open-valid, mixes, stays, goes_on}
use Rattle.returning_fade.specs.declared.Rule.{Rule}
use Rattle.returning_fade.specs.declared.Rule.TheVariants.{Ported, Returning}
use Rattle.returning_fade.specs.declared.Direction.{Direction}
use Rattle.returning_fade.specs.declared.Direction.TheVariants.{Onwards, Back}
use Rattle.returning_fade.specs.declared.RuledFade.{RuledFade}
use Rattle.returning_fade.specs.declared.RuledTurn.{RuledTurn}
use Rattle.returning_fade.specs.Rules.{backwards, returning_ok}
use Rattle.returning_fade.specs.Step.{aim_of, on_turn, lower_turn, returning_step, step_by, step_of}
use Rattle.returning_fade.specs.Inner.{aimed, lower_aim, aimed_at, handed_by, step_at}

abbrev towards : Direction → Turn → RuledTurn
towards direction t = record { turn = t; direction = direction }

module _ (direction : Direction) (s : Fade) (fits : length_ok s.crossfade_samples ≡ true)
    (ok : returning_ok direction s ≡ true) where
  -- A state in its ranges by the second rule is in those of the ported one.
  valid : valid_of s ≡ true
  unfolding returning_ok place_ok
  valid = rw fits (go (same_q s.current s.target) ok)
    where
      go : (b : Bool)
          → cond b (not (backwards direction) && leb s.crossfade_position s.crossfade_samples)
          (ltb 0 s.crossfade_position && ltb s.crossfade_position s.crossfade_samples)
          ≡ true
          → cond b (leb s.crossfade_position s.crossfade_samples)
          (ltb s.crossfade_position s.crossfade_samples)
          ≡ true
      go true h = (both (not (backwards direction)) (leb s.crossfade_position s.crossfade_samples) h).1
      go false h = (both (ltb 0 s.crossfade_position) _ h).1

  -- A fade runs.
  module _ (e : same_q s.current s.target ≡ false) where
    pub between : (0 < s.crossfade_position) × (s.crossfade_position < s.crossfade_samples)
    unfolding returning_ok
    between = let p = both _ _ (rw e at ok) in (ltb-true _ _ p.0, ltb-true _ _ p.1)

    -- The fade goes one step down.
    down : step_at s (lower_aim s) ≡ lower_turn s
    down = go (leb s.crossfade_position 1) refl
      where
        go : (b : Bool) → leb s.crossfade_position 1 ≡ b → step_at s (lower_aim s) ≡ lower_turn s
        go true l =
            rw l (ap (towards Onwards)
            (goes_on (open_of s.current s.crossfade_samples) s.current
            (open-valid s.current s.crossfade_samples fits) (same_refl s.current)
            ∙ stays s.current s.crossfade_samples s.crossfade_samples))
        go false l =
            let m = leb-false s.crossfade_position 1 l in
            let k : s.crossfade_position - 2 + 1 ≡ s.crossfade_position - 1 = omega arith in
            let o : leb s.crossfade_samples (s.crossfade_position - 1) ≡ false =
            lt-leb s.crossfade_samples (s.crossfade_position - 1) (omega (arith, between)) in
            rw l (ap (towards Back)
            (goes_on (fade_of s.current s.target (s.crossfade_position - 2) s.crossfade_samples)
            s.target
            (fade-valid s.current s.target (s.crossfade_position - 2) s.crossfade_samples fits
            (omega (arith, between)) (λ f. omega (arith, between))) (same_refl s.target)
            ∙ mixes s.current s.target (s.crossfade_position - 2) s.crossfade_samples e
            (omega (arith, between)))
            ∙ rw (k, o))

    on : towards Onwards (ported.step_of s s.target) ≡ on_turn s
    on =
        ap (towards Onwards) (goes_on s s.target valid (same_refl s.target)
        ∙ mixes s.current s.target s.crossfade_position s.crossfade_samples e
        (omega (arith, between)))

  in-range : (q : QualityMode) → step_at s (aimed_at direction s q) ≡ returning_step direction s q
  unfolding aimed_at returning_step
  in-range q = rw (fits, ok) (go (same_q s.current s.target) (backwards (aim_of direction s q)) refl)
    where
      go : (a b : Bool) → same_q s.current s.target ≡ a
          → step_at s (cond a (aimed s q Onwards) (cond b (lower_aim s) (aimed s s.target Onwards)))
          ≡ cond a (towards Onwards (turn_of (asked_of s q))) (cond b (lower_turn s) (on_turn s))
      go true b e = ap (towards Onwards) (step-taken s q valid)
      go false true e = down e
      go false false e = on e

-- The same for any state.
by-ported-steps : (direction : Direction) (s : Fade) (q : QualityMode)
    → step_at s (aimed_at direction s q) ≡ returning_step direction s q
unfolding aimed_at returning_step
by-ported-steps direction s q = go (length_ok s.crossfade_samples && returning_ok direction s) refl
  where
    go : (b : Bool) → length_ok s.crossfade_samples && returning_ok direction s ≡ b
        → step_at s (aimed_at direction s q) ≡ returning_step direction s q
    go true v = let p = both _ _ v in in-range direction s p.0 p.1 q
    go false v = rw v

pub by-steps : (s : RuledFade) (q : QualityMode)
    → step_at s.fade (handed_by s.rule s.direction s.fade q) ≡ step_of s q
by-steps s q = go s.rule
  where
    go : (rule : Rule) → step_at s.fade (handed_by rule s.direction s.fade q)
        ≡ step_by rule s.direction s.fade q
    go Ported = refl
    go Returning = by-ported-steps s.direction s.fade q
