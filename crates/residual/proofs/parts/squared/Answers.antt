-- `residual::parts::squared` meets its contract: before each turn the differences so far are counted. Assumes nothing.
use Rattle.std.proofs.Common.{take, sym, subst, arith, length-take-le}
use Rattle.residual.specs.declared.parts.Parts.{Parts}
use Rattle.residual.specs.Report.{differences}
use Rattle.residual.specs.Blocks.{no_parts, part_of, Space}
use Rattle.residual.proofs.Stretches.{length-differences, both-held, held-difference}
use Rattle.residual.proofs.Turns.{one-turn, all-turns}
use Rattle.residual.proofs.Blocks.{space-fold}
use Rattle.residual.proofs.parts.squared.Goals as goal

pub bounds-b-i : goal.bounds-b-i
bounds-b-i c = omega (arith, c.requires.0.long)

pub distance-requires : goal.distance-requires
distance-requires c = both-held c.requires.0 c.loop-i.i (omega arith)

pub part-now-requires : goal.part-now-requires
part-now-requires c =
    let ds = differences c.args.a.now c.args.b.now in
    let n = length-differences c.args.a.now c.args.b.now c.requires.0.long in
    let k = length-take-le c.loop-i.i ds (omega arith) in
    subst (λ (p : Parts). Space p 1) (sym c.loop-i.invariant)
    (space-fold c.args.top no_parts (take c.loop-i.i ds) 1
    (record { high = omega arith; mix = omega arith; low = omega arith }))

pub loop-i-preserved : goal.loop-i-preserved
loop-i-preserved c =
    let i = c.loop-i.i in
    let found = held-difference c.requires.0 i (omega arith) c.distance.ensures in
    one-turn (part_of c.args.top) no_parts c.args.a.now c.args.b.now c.requires.0.long i (omega arith)
    c.distance.result c.loop-i.invariant found c.part-now.ensures

pub returns : goal.returns
returns c =
    all-turns (part_of c.args.top) no_parts c.args.a.now c.args.b.now c.requires.0.long
    c.loop-i.i (omega arith) c.loop-i.invariant
