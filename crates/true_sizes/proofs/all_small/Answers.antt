-- `true_sizes::all_small` meets its contract: each entry is asked. Assumes nothing.
use mathlib.Core.Path.{refl, ◌∙◌}
use native.Mathlib.Omega.{arith}
use borrow.Author.Tests.{tests}
use Rattle.std.proofs.Common.{rules}
use Rattle.std.proofs.lemmas.Iterator.{YieldsList-from_range}
use Rattle.std.proofs.lemmas.Iterator.Search.{all_from_yields_List}
use Rattle.true_sizes.proofs.Table.{is_small, each-small}
use Rattle.true_sizes.proofs.all_small.Goals as goal

pub returns : goal.returns
returns c =
    let b = c.args.opening.now in
    let n = c.args.count in
    all_from_yields_List (is_small b) _ _ _ c.all.ensures.ran (YieldsList-from_range 0 n n refl (omega arith))
    (λ x r q k. search (rules, tests))
    ∙ each-small b n 0
