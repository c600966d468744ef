use mathlib.Core.Path.{◌≡◌}
use Prim.Native.Nat.{ℕ, ◌≤◌, ◌<◌}
use lib.Ieee.{Float}
use Rattle.answer.specs.Answers.{zero-f}
use Rattle.loop_laws.specs.Loops.{fold}
use Rattle.sinc_read_f32.specs.Sums.{tap_turn}
use Rattle.sinc_read_f32.proofs.absent.silent.Given as goal

abbrev pub invariant-loop-k : goal.invariant-loop-k
invariant-loop-k l =
    (x : ℕ → Float) → ((j : ℕ) → l.from ≤ j → j < l.taps → x j ≡ zero-f)
    → l.sum-2 ≡ fold (tap_turn x l.table l.blend l.taps l.phase) zero-f l.from
    → l.sum ≡ fold (tap_turn x l.table l.blend l.taps l.phase) zero-f l.k
