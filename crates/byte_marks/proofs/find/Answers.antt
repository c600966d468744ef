-- `byte_marks::find` meets its contract: the first byte that the library's search finds is the definition's. Assumes
-- nothing.
use Rattle.std.proofs.Common.{rules, unwrap_or}
use Rattle.std.proofs.lemmas.Iterator.{YieldsList-from_slice}
use Rattle.std.proofs.lemmas.Iterator.Search.{position_from_yields_List}
use borrow.Author.Tests.{tests}
use mathlib.Core.Path.{ap, ◌∙◌}
use native.Mathlib.Omega.{arith}
use lib.Dec.{eqb}
use Rattle.byte_marks.proofs.Places.{place, within}
use Rattle.byte_marks.proofs.find.Goals as goal

pub returns : goal.returns
returns c =
    let text = c.args.text.now in
    let b = c.args.byte in
    let found =
    position_from_yields_List (λ x. eqb x b) _ _ c.position.result c.position.ensures.ran
    (YieldsList-from_slice text cc) (λ x b q k. search (rules, tests)) in
    let value = c.unwrap_or.ensures ∙ ap (unwrap_or c.position.result) (omega arith) ∙ place b text found in
    record { value = value; upper_bound = rw value (within b text) }
