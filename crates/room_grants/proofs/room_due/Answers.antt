-- `room_grants::room_due` meets its contract, by the three tests in their order. Assumes nothing.
use mathlib.Core.Path.{sym, ◌∙◌}
use lib.Ieee.{of_bits}
use Rattle.room_grants.specs.Grants.{room_verdict}
use Rattle.room_grants.proofs.room_due.Goals as goal

pub returns-then-not-within : goal.returns-then-not-within
unfolding of_bits room_verdict
returns-then-not-within c = rw (sym c.within.ensures ∙ c.if-not-within.true)

pub returns-then-not-lengths_agree : goal.returns-then-not-lengths_agree
unfolding of_bits room_verdict
returns-then-not-lengths_agree c =
    rw (
      sym c.within.ensures ∙ c.if-not-within.false,
      sym c.lengths_agree.ensures ∙ c.if-not-lengths_agree.true,
    )

pub returns-then-not-room_ok : goal.returns-then-not-room_ok
unfolding of_bits room_verdict
returns-then-not-room_ok c =
    rw (
      sym c.within.ensures ∙ c.if-not-within.false,
      sym c.lengths_agree.ensures ∙ c.if-not-lengths_agree.false,
      sym c.room_ok.ensures ∙ c.if-not-room_ok.true,
    )

pub returns : goal.returns
unfolding of_bits room_verdict
returns c =
    rw (
      sym c.within.ensures ∙ c.if-not-within.false,
      sym c.lengths_agree.ensures ∙ c.if-not-lengths_agree.false,
      sym c.room_ok.ensures ∙ c.if-not-room_ok.false,
    )
