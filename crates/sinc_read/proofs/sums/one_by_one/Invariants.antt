use Rattle.std.proofs.Common.{◌≡◌, ℕ}
use Rattle.std.specs.Prelude.{pos, ◌+ℤ◌}
use Rattle.answer.specs.Answers.{zero-f}
use Rattle.loop_laws.specs.Loops.{fold}
use Rattle.ring.specs.Taps.{tap_of}
use Rattle.sinc_read.specs.Sums.{tap_turn}
use Rattle.sinc_read.proofs.sums.one_by_one.Given as goal

abbrev pub invariant-loop-k : goal.invariant-loop-k
invariant-loop-k l =
    l.sum
    ≡ fold (tap_turn (λ (k : ℕ). tap_of l.source l.count (l.first +ℤ pos k)) l.table l.blend l.taps l.phase) zero-f l.k
