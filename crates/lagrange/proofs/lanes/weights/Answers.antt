-- `lagrange::lanes::weights` meets its contract: it multiplies the factors before the eight nodes, among them and
-- behind them. Assumes nothing.
use mathlib.Core.Path.{subst}
use Prim.Native.Nat.{ℕ, ◌*◌}
use native.Mathlib.Omega.{arith}
use Rattle.lagrange.specs.Eights.{Weights}
use Rattle.lagrange.proofs.lanes.weights.Goals as goal

pub nodes_behind-requires : goal.nodes_behind-requires
nodes_behind-requires c =
    let a = c.args in (
      omega arith,
      omega arith,
      omega arith,
      c.nodes-own.ensures,
      subst (λ (m : ℕ). Weights a.local (2 * a.f) m c.among-v.result) (omega arith) c.among-v.ensures,
    )
