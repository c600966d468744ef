-- `residual::steps::counted` meets its contract: an accepted call has room, and counting on numbers agrees with
-- extending the report. Assumes nothing.
use Rattle.std.proofs.Common.{◌^◌, ◌<◌, sym, ap, ◌∙◌, subst, arith}
use mathlib.Core.List.{foldl}
use Rattle.residual.specs.declared.tally.Tally.{Tally}
use Rattle.residual.specs.Report.{differences, carried}
use Rattle.residual.specs.Tallies.{told_of, step_of, Ready}
use Rattle.residual.proofs.ValidReport.{accepted, ready}
use Rattle.residual.proofs.Agreeing.{fit, same_fold}
use Rattle.residual.proofs.steps.counted.Goals as goal
use Rattle.residual.proofs.steps.counted.Goals.{After-taken}

low_fits : (c : After-taken) → c.args.report.low < 2 ^ 64
low_fits c = omega (arith, c.well_formed.0)

pub stretched-requires : goal.stretched-requires
stretched-requires c =
    let r = c.args.report in
    let a = c.args.a.now in
    let b = c.args.b.now in
    subst (λ (t : Tally). Ready t a b) (sym c.taken.ensures)
    (ready r a b (low_fits c) (accepted r a b c.requires))

pub returns : goal.returns
unfolding carried
returns c =
    let r = c.args.report in
    let a = c.args.a.now in
    let b = c.args.b.now in
    c.told.ensures
    ∙ ap told_of
    (c.stretched.ensures
    ∙ ap (λ (t : Tally). foldl step_of t (differences a b)) c.taken.ensures)
    ∙ same_fold r (differences a b) (fit r (accepted r a b c.requires).report)

pub taken-requires : goal.taken-requires
taken-requires c = tt

pub told-requires : goal.told-requires
told-requires c = tt
