-- `file_layout::layout_by` meets its contract: the letters are tested in the definition's order. Assumes nothing.
use borrow.Author.Tests.{eq-eqb, ne_eqb}
use Rattle.file_layout.proofs.layout_by.Goals as goal

pub returns-then-id-eq1297239878 : goal.returns-then-id-eq1297239878
returns-then-id-eq1297239878 c = simp (eq-eqb _ _ c.if-id-eq1297239878.true)

pub returns-then-id-eq875972178 : goal.returns-then-id-eq875972178
returns-then-id-eq875972178 c = simp (ne_eqb _ _ c.if-id-eq1297239878.false, eq-eqb _ _ c.if-id-eq875972178.true)

pub returns-then-id-eq875976514 : goal.returns-then-id-eq875976514
returns-then-id-eq875976514 c =
    simp (
      ne_eqb _ _ c.if-id-eq1297239878.false,
      ne_eqb _ _ c.if-id-eq875972178.false,
      eq-eqb _ _
          c.if-id-eq875976514.true,
    )

pub returns : goal.returns
returns c =
    simp (
      ne_eqb _ _ c.if-id-eq1297239878.false,
      ne_eqb _ _ c.if-id-eq875972178.false,
      ne_eqb _ _
          c.if-id-eq875976514.false,
    )
