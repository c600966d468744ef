-- `wav_opening::hand_refusal` meets its contract, by its three cases. Assumes nothing.
use mathlib.Core.Path.{sym, ◌∙◌}
use borrow.Author.Tests.{lt-leb, le-leb, eq-eqb, ne_eqb}
use Rattle.wav_opening.proofs.hand_refusal.Goals as goal

pub returns-then-length-opening : goal.returns-then-length-opening
returns-then-length-opening c = rw (lt-leb _ _ c.if-length-opening.true)

pub returns-then-opening_needs-ne0 : goal.returns-then-opening_needs-ne0
returns-then-opening_needs-ne0 c =
    rw (
      le-leb _ _ c.if-length-opening.false,
      ne_eqb _ _
          (λ h. c.if-opening_needs-ne0.true (c.opening_needs.ensures ∙ h)),
    )

pub returns : goal.returns
returns c =
    rw (le-leb _ _ c.if-length-opening.false, eq-eqb _ _ (sym c.opening_needs.ensures ∙ c.if-opening_needs-ne0.false))
