-- `bank_choice::search::up` meets its contract. The loop's invariant is that every set before the place is slower; so
-- at its end the place is that of `Partition`. Assumes nothing.
use Rattle.std.proofs.Common.{sym, ◌∙◌, arith, below_more}
use Rattle.bank_choice.specs.Choosing.{slower_of}
use Rattle.bank_choice.proofs.Partition.{found}
use Rattle.bank_choice.proofs.search.up.Goals as goal

pub returns-then-not-slower : goal.returns-then-not-slower
returns-then-not-slower c =
    let a = c.args in
    found (slower_of a.max_rate a.steps a.r) a.steps c.loop-e.e (omega arith) c.loop-e.invariant
    (λ h. sym c.slower.ensures ∙ c.if-not-slower.true)

pub loop-e-preserved : goal.loop-e-preserved
loop-e-preserved c = below_more _ _ c.loop-e.invariant (sym c.slower.ensures ∙ c.if-not-slower.false)

pub returns : goal.returns
returns c =
    let a = c.args in
    found (slower_of a.max_rate a.steps a.r) a.steps a.steps (omega arith)
    (λ j h. c.loop-e.invariant j (omega arith)) (λ h. absurd (omega arith))
