-- `fused64::quick::joined` meets its contract: a law for each case. Assumes nothing.
use Rattle.fused64.proofs.Joining.{alike, first-less, second-less}
use Rattle.fused64.proofs.quick.joined.Goals as goal

pub returns-then-s-t : goal.returns-then-s-t
returns-then-s-t c = λ some.
    alike c.args.s c.args.p c.args.t c.args.z c.args.e c.placed.result c.requires
    c.if-s-t.true (c.placed.ensures some)

pub returns-then-p-z : goal.returns-then-p-z
returns-then-p-z c = λ some.
    first-less c.args.s c.args.p c.args.t c.args.z c.args.e c.placed-then-p-z.result c.requires
    c.if-s-t.false c.if-p-z.true (c.placed-then-p-z.ensures some)

pub returns : goal.returns
returns c = λ some.
    second-less c.args.s c.args.p c.args.t c.args.z c.args.e c.placed-2.result c.requires
    c.if-s-t.false (c.placed-2.ensures some)
