-- `true_sizes::size_in` meets its contract: an entry that is passed is not the one looked for. Assumes nothing.
use mathlib.Core.Path.{sym, ap, ◌∙◌}
use native.Mathlib.Omega.{arith}
use borrow.Author.Tests.{eq-eqb, ne_eqb}
use Rattle.true_sizes.specs.declared.Entry.{Entry}
use Rattle.true_sizes.specs.Sizes.{size_in}
use Rattle.true_sizes.proofs.Table.{at_next, all-passed}
use Rattle.true_sizes.proofs.size_in.Goals as goal

pub returns-then-e-id : goal.returns-then-e-id
unfolding size_in
returns-then-e-id c =
    let a = c.args in
    let is = ap (λ (x : Entry). x.id) c.entry_at-e.ensures in
    ap (λ (x : Entry). x.size) c.entry_at-e.ensures
    ∙ sym (at_next (size_in a.id) a.opening.now a.count c.loop-k.k c.loop-k.invariant (omega arith)
    ∙ rw (eq-eqb _ _ (sym is ∙ c.if-e-id.true)))

pub loop-k-preserved : goal.loop-k-preserved
unfolding size_in
loop-k-preserved c =
    let a = c.args in
    let is = ap (λ (x : Entry). x.id) c.entry_at-e.ensures in
    at_next (size_in a.id) a.opening.now a.count c.loop-k.k c.loop-k.invariant (omega arith)
    ∙ rw (ne_eqb _ _ (λ h. c.if-e-id.false (is ∙ h)))

pub returns : goal.returns
unfolding size_in
returns c =
    let a = c.args in
    sym (all-passed (size_in a.id) a.opening.now a.count c.loop-k.k c.loop-k.invariant (omega arith))
