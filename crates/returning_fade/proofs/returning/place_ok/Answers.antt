-- `returning_fade::returning::place_ok` meets its contract, by its tests one after the other. Assumes nothing.
use mathlib.Core.Path.{sym, ◌∙◌}
use borrow.Author.Tests.{lt-ltb, le-ltb}
use Rattle.returning_fade.specs.Rules.{returning_ok}
use Rattle.returning_fade.proofs.returning.place_ok.Goals as goal

pub returns-then-back : goal.returns-then-back
unfolding returning_ok
returns-then-back c =
    rw (sym c.same.ensures ∙ c.if-same.true, sym c.back.ensures ∙ c.if-back.true)

pub returns-then-same : goal.returns-then-same
unfolding returning_ok
returns-then-same c =
    rw (
      sym c.same.ensures ∙ c.if-same.true,
      sym c.back.ensures ∙ c.if-back.false,
    )

pub returns-then-fade-gt0 : goal.returns-then-fade-gt0
unfolding returning_ok
returns-then-fade-gt0 c =
    rw (sym c.same.ensures ∙ c.if-same.false, lt-ltb 0 _ c.if-fade-gt0.true)

pub returns : goal.returns
unfolding returning_ok
returns c =
    rw (sym c.same.ensures ∙ c.if-same.false, le-ltb 0 _ c.if-fade-gt0.false)
