-- `lagrange::lanes::nodes_behind` meets its contract: each turn gives the weights the factors of two more nodes, none
-- of which is their own. Assumes nothing.
use mathlib.Core.Path.{subst}
use Prim.Native.Nat.{ℕ, ◌*◌}
use native.Mathlib.Omega.{arith}
use Rattle.lagrange.specs.Eights.{Weights}
use Rattle.lagrange.proofs.EightLanes.{pass}
use Rattle.lagrange.proofs.lanes.nodes_behind.Goals as goal

pub loop-h-init : goal.loop-h-init
loop-h-init c = c.requires.4

pub loop-h-preserved : goal.loop-h-preserved
loop-h-preserved c =
    let a = c.args in
    let now : Weights a.local (2 * a.f) (2 * c.loop-h.h) c.loop-h.w =
    subst (λ (n : ℕ). Weights a.local (2 * a.f) n c.loop-h.w) (omega arith) c.loop-h.invariant in
    subst (λ (n : ℕ). Weights a.local (2 * a.f) n c.pass-v.result) (omega arith)
    (pass a.local (2 * a.f) (omega arith) a.own c.requires.3 (2 * c.loop-h.h)
    (λ k i. (λ e. omega arith, λ e. omega arith)) _ _ c.number.ensures
    c.number-in-loop-h.ensures _ now c.pass-v.ensures)

pub returns : goal.returns
returns c =
    let a = c.args in
    subst (λ (n : ℕ). Weights a.local (2 * a.f) n c.loop-h.w) (omega arith) c.loop-h.invariant
