-- `returning_fade::returning::aim` meets its contract, by its tests one after the other. Assumes nothing.
use mathlib.Core.Path.{sym, ◌∙◌}
use Rattle.returning_fade.specs.Inner.{aimed_at}
use Rattle.returning_fade.proofs.returning.aim.Goals as goal

pub returns-then-same : goal.returns-then-same
unfolding aimed_at
returns-then-same c =
    rw (
      sym c.length_ok.ensures ∙ c.if-length_ok.true,
      sym c.place_ok.ensures ∙ c.if-place_ok.true,
      sym c.same.ensures ∙ c.if-same.true,
    )

pub returns-then-goes_back : goal.returns-then-goes_back
unfolding aimed_at
returns-then-goes_back c =
    rw (
      sym c.length_ok.ensures ∙ c.if-length_ok.true,
      sym c.place_ok.ensures ∙ c.if-place_ok.true,
      sym c.same.ensures ∙ c.if-same.false,
      sym c.goes_back.ensures ∙ c.if-goes_back.true,
    ) c.lower.ensures

pub returns-then-place_ok : goal.returns-then-place_ok
unfolding aimed_at
returns-then-place_ok c =
    rw (
      sym c.length_ok.ensures ∙ c.if-length_ok.true,
      sym c.place_ok.ensures ∙ c.if-place_ok.true,
      sym c.same.ensures ∙ c.if-same.false,
      sym c.goes_back.ensures ∙ c.if-goes_back.false,
    )

pub returns-else-place_ok : goal.returns-else-place_ok
unfolding aimed_at
returns-else-place_ok c =
    rw (sym c.length_ok.ensures ∙ c.if-length_ok.true, sym c.place_ok.ensures ∙ c.if-place_ok.false)

pub returns-else-length_ok : goal.returns-else-length_ok
unfolding aimed_at
returns-else-length_ok c = rw (sym c.length_ok.ensures ∙ c.if-length_ok.false)
