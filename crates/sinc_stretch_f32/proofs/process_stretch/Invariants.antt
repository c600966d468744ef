use borrow.Author.Rules.{rules, scaled_Fits}
use mathlib.Core.Path.{◌≡◌, refl, sym, ap, ◌∙◌}
use Prim.Native.Nat.{◌+◌, ◌-◌, ◌<◌}
use native.Mathlib.Omega.{arith}
use lib.ListN.{length}
use Rattle.sinc_stretch_f32.proofs.TableTests.{table-tests}
use Rattle.sinc_stretch_f32.proofs.Turns.{On, due, refused-first, starts, at-end, ends, goes_on}
use Rattle.sinc_stretch_f32.proofs.TwoTurns.{first_ends, half-way, second-ends, both-on}
use Rattle.sinc_stretch_f32.proofs.process_stretch.Given as goal

abbrev pub invariant-loop-k : goal.invariant-loop-k
invariant-loop-k l =
    (l.n ≡ length l.inputs) × On l.table l.taps l.phases l.state l.initial.ring l.inputs l.delays l.initial.out
    l.ring l.out l.i l.k

abbrev pub decreases-loop-k : goal.decreases-loop-k
decreases-loop-k l = l.n - l.k
