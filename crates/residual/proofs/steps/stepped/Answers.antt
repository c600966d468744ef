-- `residual::steps::stepped` meets its contract: before each turn the differences so far are counted. Assumes nothing.
use Rattle.std.proofs.Common.{arith}
use Rattle.residual.specs.Tallies.{step_of}
use Rattle.residual.proofs.Stretches.{both-held, held-difference, difference_below}
use Rattle.residual.proofs.Turns.{one-turn, all-turns}
use Rattle.residual.proofs.Counting.{room_for}
use Rattle.residual.proofs.steps.stepped.Goals as goal

pub bounds-b-i : goal.bounds-b-i
bounds-b-i c = omega (arith, c.requires.alike.long)

pub distance-requires : goal.distance-requires
distance-requires c = both-held c.requires.alike c.loop-i.i (omega arith)

pub step-now-requires : goal.step-now-requires
step-now-requires c =
    let i = c.loop-i.i in
    let ready = c.requires in
    let found = held-difference ready.alike i (omega arith) c.distance.ensures in
    (room_for i 1 ready (omega arith) c.loop-i.invariant, difference_below ready.alike i (omega arith) found)

pub loop-i-preserved : goal.loop-i-preserved
loop-i-preserved c =
    let i = c.loop-i.i in
    let found = held-difference c.requires.alike i (omega arith) c.distance.ensures in
    one-turn step_of c.args.t c.args.a.now c.args.b.now c.requires.alike.long i (omega arith)
    c.distance.result c.loop-i.invariant found c.step-now.ensures

pub returns : goal.returns
returns c =
    all-turns step_of c.args.t c.args.a.now c.args.b.now c.requires.alike.long c.loop-i.i
    (omega arith) c.loop-i.invariant
