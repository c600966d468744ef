-- `fused_chain::turns::one_by_one` meets its contract: the turns so far carry the sum. Assumes nothing.
use Rattle.std.proofs.Common.{refl, subst, arith}
use Rattle.fused_chain.specs.Blocks.{Carries}
use Rattle.fused_chain.proofs.ChainParts.{stay, on, once}
use Rattle.fused_chain.proofs.turns.one_by_one.Goals as goal

pub loop-k-init : goal.loop-k-init
loop-k-init c = let a = c.args in stay a.xs.now a.row0.now a.row1.now a.blend a.from a.sum c.requires.held

pub loop-k-preserved : goal.loop-k-preserved
loop-k-preserved c =
    let a = c.args in
    on a.xs.now a.row0.now a.row1.now a.blend c.loop-k.invariant
    (once a.xs.now a.row0.now a.row1.now a.blend c.loop-k.k _ c.loop-k.held c.step-held.result refl
    c.step-held.ensures)

pub returns : goal.returns
returns c =
    let a = c.args in
    subst (λ (z : _). Carries a.xs.now a.row0.now a.row1.now a.blend a.from z a.sum c.loop-k.held) (omega arith)
    c.loop-k.invariant
