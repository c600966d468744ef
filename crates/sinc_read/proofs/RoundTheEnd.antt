-- Taps that are all held. One run of turns, or one up to the ring's end and one from its start, are the turns of the
-- sum. Assumes nothing.
use mathlib.Core.Path.{◌≡◌, ◌∙◌, ap}
use mathlib.Core.List.{List}
use Prim.Native.Nat.{ℕ, ◌+◌, ◌-◌, ◌*◌, ◌%◌, ◌<◌, ◌≤◌}
use native.Mathlib.Nat.{add_assoc}
use native.Mathlib.Omega.{arith}
use lib.ListN.{length, get_or}
use lib.Ieee.{Float, nan}
use Rattle.answer.specs.Answers.{zero-f}
use Rattle.loop_laws.specs.Loops.{fold}
use Rattle.loop_laws.proofs.Folds.{same, split}
use Rattle.ring.proofs.HeldRuns.{on, round}
use Rattle.sinc_read.specs.Sums.{tap_turn, run_turn}
use Rattle.sinc_phases.proofs.RowsInTable.{next_row}

module _ (table : List Float) (taps phase : ℕ) (blend : Float) (xs : List Float) (place : ℕ)
    (inside : place < length xs) where
  abbrev row : ℕ
  row = phase * taps

  abbrev next : ℕ
  next = phase * taps + taps

  abbrev turns : ℕ → Float → Float
  turns = tap_turn (λ (k : ℕ). get_or xs ((place + k) % length xs) nan) table blend taps phase

  -- Before the ring's end a turn of the run is a turn of the sum.
  before : (k : ℕ) (v : Float) → place + k < length xs → run_turn table row next blend xs place k v ≡ turns k v
  before k v h = rw (on h, next_row phase taps)

  -- The same after going round the ring's end.
  behind : (k : ℕ) (v : Float) → place + (length xs - place + k) < length xs + length xs
      → run_turn table (row + (length xs - place)) (next + (length xs - place)) blend xs 0 k v
      ≡ turns (length xs - place + k) v
  behind k v h =
      let w : place + (length xs - place + k) - length xs ≡ 0 + k = omega arith in
      rw (
        round (place + (length xs - place + k)) (length xs) (omega arith) h,
        w,
        next_row phase taps,
        add_assoc row (length xs - place) k,
        add_assoc next (length xs - place) k,
      )

  pub one-run : taps ≤ length xs - place
      → fold (run_turn table row next blend xs place) zero-f taps ≡ fold turns zero-f taps
  one-run h = same _ _ zero-f taps (λ k l v. before k v (omega arith))

  pub two_runs : taps ≤ length xs → length xs - place < taps
      → fold (run_turn table (row + (length xs - place)) (next + (length xs - place)) blend xs 0)
      (fold (run_turn table row next blend xs place) zero-f (length xs - place)) (taps - (length xs - place))
      ≡ fold turns zero-f taps
  two_runs h l =
      let left = length xs - place in
      ap (λ (s : Float). fold (run_turn table (row + left) (next + left) blend xs 0) s (taps - left))
      (same _ _ zero-f left (λ k m v. before k v (omega arith)))
      ∙ same _ (λ (k : ℕ). turns (left + k)) (fold turns zero-f left) (taps - left) (λ k m v. behind k v (omega arith))
      ∙ split turns zero-f left (taps - left)
      ∙ ap (fold turns zero-f) (omega arith)
