-- `residual::steps::block` meets its contract: the block is added at once, or counted one by one. Assumes nothing.
use Rattle.std.proofs.Common.{◌∙◌}
use Rattle.residual.specs.Report.{differences}
use Rattle.residual.proofs.Stretches.{small-differences, length-differences}
use Rattle.residual.proofs.Blocks.{quietly}
use Rattle.residual.proofs.steps.block.Goals as goal

pub returns-then-p : goal.returns-then-p
returns-then-p c =
    let a = c.args.a.now in
    let b = c.args.b.now in
    let alike = c.requires.0.alike in
    let small = small-differences a b alike.left alike.right in
    c.added.ensures
    ∙ quietly c.args.t (differences a b) c.requires.0.room.half small
    (length-differences a b alike.long) c.squared-p.ensures c.if-p.true
