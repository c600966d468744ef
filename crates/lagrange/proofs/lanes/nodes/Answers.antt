-- `lagrange::lanes::nodes` meets its contract, lane by lane. Assumes nothing.
use mathlib.Core.Path.{◌∙◌, ap}
use Prim.Native.Nat.{◌+◌}
use native.Mathlib.Omega.{arith}
use Rattle.lagrange.specs.Kernel.{num}
use Rattle.lagrange.proofs.EightLanes.{lanes}
use Rattle.lagrange.proofs.lanes.nodes.Goals as goal

pub returns : goal.returns
returns c =
    record {
      node =
          lanes (λ k. num (c.args.first + k)) (c.number.ensures ∙ ap num (omega arith))
          c.number-2.ensures c.number-3.ensures c.number-4.ensures c.number-5.ensures
          c.number-6.ensures c.number-7.ensures c.number-8.ensures;
    }
