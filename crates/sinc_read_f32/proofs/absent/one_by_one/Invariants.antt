use mathlib.Core.Path.{◌≡◌}
use Prim.Native.Nat.{ℕ}
use lib.Dec.{T}
use lib.IntN.{pos, ◌+ℤ◌}
use lib.Ieee.{binary32, fits}
use Rattle.answer.specs.Answers.{zero-f}
use Rattle.loop_laws.specs.Loops.{fold}
use Rattle.ring.specs.Taps.{tap_of}
use Rattle.sinc_read_f32.specs.Sums.{tap_turn}
use Rattle.sinc_read_f32.proofs.absent.one_by_one.Given as goal

abbrev pub invariant-loop-k : goal.invariant-loop-k
invariant-loop-k l =
    (T (fits binary32 l.held))
    × (l.held
    ≡ fold (tap_turn (λ (kk : ℕ). tap_of l.source l.count (l.first +ℤ pos kk)) l.table l.blend l.taps l.phase) zero-f
    l.k)
