-- `quality_fade::step` meets its contract: a state in its ranges takes the rule's turn, whose place can grow by one, by
-- `ready`; any other state stays as it is. Assumes nothing.
use mathlib.Core.Path.{◌≡◌, sym, ◌∙◌, ap, subst}
use mathlib.Core.Bool.{true}
use Rattle.quality_fade.specs.Fade.{place_ok}
use Rattle.quality_fade.specs.Step.{turn_of, step_of}
use Rattle.quality_fade.proofs.StaysInRange.{Ready, ready, step-taken}
use Rattle.quality_fade.proofs.step.Goals as goal
use Rattle.quality_fade.proofs.step.Goals.{Then-place_ok}

-- Both tests passed.
placed : (c : Then-place_ok) → place_ok c.args.state ≡ true
placed c = sym c.place_ok.ensures ∙ c.if-place_ok.true

pub turn-requires : goal.turn-requires
turn-requires c =
    let a = c.args in
    (subst Ready (sym c.ask.ensures) (ready a.state a.asked (placed (goal.at.turn-requires c).Then-place_ok))).room

pub returns-then-place_ok : goal.returns-then-place_ok
returns-then-place_ok c =
    c.turn.ensures
    ∙ ap turn_of c.ask.ensures
    ∙ sym (step-taken _ _ (rw (sym c.length_ok.ensures ∙ c.if-length_ok.true)
    (placed (goal.at.returns-then-place_ok c).Then-place_ok)))

pub returns-else-place_ok : goal.returns-else-place_ok
unfolding step_of
returns-else-place_ok c =
    rw (sym c.length_ok.ensures ∙ c.if-length_ok.true, sym c.place_ok.ensures ∙ c.if-place_ok.false)

pub returns-else-length_ok : goal.returns-else-length_ok
unfolding step_of
returns-else-length_ok c = rw (sym c.length_ok.ensures ∙ c.if-length_ok.false)
