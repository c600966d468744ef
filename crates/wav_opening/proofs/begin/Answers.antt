-- `wav_opening::begin` meets its contract, by its two cases. Assumes nothing.
use mathlib.Core.Path.{sym, ◌∙◌}
use borrow.Author.Tests.{ne_eqb}
use Rattle.wav_opening.proofs.begin.Goals as goal

pub returns-then-hand-ne0 : goal.returns-then-hand-ne0
returns-then-hand-ne0 c =
    let h = c.hand_refusal-hand.ensures in
    rw (ne_eqb _ _ (λ z. c.if-hand-ne0.true (h ∙ z)), h)

pub returns : goal.returns
returns c =
    let z = sym c.hand_refusal-hand.ensures ∙ c.if-hand-ne0.false in
    rw z c.told.ensures
