use mathlib.Core.Path.{◌≡◌}
use Prim.Native.Nat.{◌-◌, ◌≤◌}
use Rattle.bessel.specs.Series.{sum_after, series_of}
use Rattle.bessel.proofs.series.Given as goal

abbrev pub invariant-loop-k : goal.invariant-loop-k
invariant-loop-k l = (l.k ≤ l.terms) × (sum_after (l.terms - l.k) l.k l.y l.sum l.term ≡ series_of l.terms l.x)

abbrev pub decreases-loop-k : goal.decreases-loop-k
decreases-loop-k l = l.terms - l.k
