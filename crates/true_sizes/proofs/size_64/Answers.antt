-- `true_sizes::size_64` meets its contract, by its two cases. Assumes nothing.
use mathlib.Core.Path.{◌∙◌}
use borrow.Author.Tests.{eq-eqb, ne_eqb}
use Rattle.true_sizes.specs.Sizes.{entry_count}
use Rattle.true_sizes.proofs.Lent.{size-cut}
use Rattle.true_sizes.proofs.size_64.Goals as goal

pub returns-then-id-eq1635017060 : goal.returns-then-id-eq1635017060
returns-then-id-eq1635017060 c = simp (eq-eqb _ _ c.if-id-eq1635017060.true) c.low_first.ensures

pub returns-then-id-eq875983716 : goal.returns-then-id-eq875983716
returns-then-id-eq875983716 c = simp (ne_eqb _ _ c.if-id-eq1635017060.false, eq-eqb _ _ c.if-id-eq875983716.true)

pub returns : goal.returns
returns c =
    let a = c.args in
    simp (ne_eqb _ _ c.if-id-eq1635017060.false, ne_eqb _ _ c.if-id-eq875983716.false)
    (c.size_in.ensures ∙ rw c.looked_at.ensures.value
    (size-cut a.opening.now a.id (entry_count a.opening.now)))
