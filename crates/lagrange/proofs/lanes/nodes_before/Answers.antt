-- `lagrange::lanes::nodes_before` meets its contract: after h turns the weights have the factors of 2 * h nodes, none
-- of which is their own. Assumes nothing.
use mathlib.Core.Path.{◌≡◌, refl, subst}
use Prim.Native.Nat.{ℕ, ◌*◌}
use native.Mathlib.Omega.{arith}
use lib.Ieee.{binary64, of_bits}
use Rattle.lagrange_factors.specs.Weight.{floats}
use Rattle.lagrange.specs.Eights.{Weights}
use Rattle.lagrange.proofs.EightLanes.{ones, pass}
use Rattle.lagrange.proofs.lanes.nodes_before.Goals as goal

one : of_bits binary64 0x3ff0_0000_0000_0000 ≡ floats.one
unfolding of_bits
one = refl

pub loop-h-init : goal.loop-h-init
loop-h-init c = ones c.args.local (2 * c.args.f) one

pub loop-h-preserved : goal.loop-h-preserved
loop-h-preserved c =
    let a = c.args in
    subst (λ (n : ℕ). Weights a.local (2 * a.f) n c.pass-v.result) (omega arith)
    (pass a.local (2 * a.f) (omega arith) a.own c.requires.1 (2 * c.loop-h.h)
    (λ k i. (λ e. omega arith, λ e. omega arith)) _ _ c.number.ensures
    c.number-in-loop-h.ensures _ c.loop-h.invariant c.pass-v.ensures)

pub returns : goal.returns
returns c =
    let a = c.args in
    subst (λ (n : ℕ). Weights a.local (2 * a.f) n c.loop-h.w) (omega arith) c.loop-h.invariant
