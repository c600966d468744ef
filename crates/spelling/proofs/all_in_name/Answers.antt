-- `spelling::all_in_name` meets its contract: the library tests each byte. Assumes nothing.
use Rattle.std.proofs.Common.{rules}
use Rattle.std.proofs.lemmas.Iterator.{YieldsList-from_slice}
use Rattle.std.proofs.lemmas.Iterator.Search.{all_from_yields_List}
use borrow.Author.Tests.{tests}
use mathlib.Core.Path.{◌∙◌}
use Rattle.spelling.specs.Words.{in_name}
use Rattle.spelling.proofs.Letters.{as_tested}
use Rattle.spelling.proofs.all_in_name.Goals as goal

pub returns : goal.returns
returns c =
    let text = c.args.text.now in
    all_from_yields_List in_name _ _ c.all.result c.all.ensures.ran (YieldsList-from_slice text cc)
    (λ x b q k. search (rules, tests))
    ∙ as_tested text
