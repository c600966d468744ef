-- D3. Demand 3 for the cubic reader, over every run of calls from opening or reset on: the call is accepted, its
-- position is exact, its taps are the neighbours, and the formula lies within 2^-50 of the exact cubic. Assumes
-- nothing.
use mathlib.Core.Path.{◌≡◌}
use mathlib.Core.Bool.{true}
use mathlib.Core.List.{List}
use Prim.Native.Nat.{ℕ, ◌+◌, ◌^◌, ◌<◌}
use native.Mathlib.Nat.{le_of_lt}
use lib.IntN.{ℤ, pos, ◌+ℤ◌, ◌-ℤ◌}
use lib.ListN.{length}
use lib.Ieee.{Float}
use Rattle.rounding_error.specs.Value.{Rounds}
use Rattle.rounding_error.proofs.Integers.{Steps}
use Rattle.answer.specs.declared.Answer.TheVariants.{Sample}
use Rattle.ring.specs.Length.{length_for}
use Rattle.ring.proofs.Positions.{position-at-most}
use Rattle.magnitude.specs.Bounds.{AtMost}
use Rattle.cubic_farrow.specs.Cubic.{cubic_at}
use Rattle.variable_delay.specs.Reader.{Reading, verdict, stored, position_of, processed}
use Rattle.variable_delay.specs.Opening.{fresh}
use Rattle.variable_delay.proofs.AcceptedCall.{taken, position-in-range}
use Rattle.runs.specs.Runs.{Call, Reader, with_count}
use Rattle.runs.specs.Filled.{filled}
use Rattle.runs.proofs.Filled.{filled-holds}
use Rattle.runs.proofs.Opened.{since, left, state-is, ring-is}
use Rattle.cubic_bound.specs.Desk.{place, integer, exact_at}
use Rattle.cubic_bound.specs.Demand.{Desk, Meets}
use Rattle.cubic_bound.specs.Readers.{reading}
use Rattle.cubic_bound.proofs.ErrorBudget.{cubic-error}
use Rattle.cubic_bound.proofs.ExactPosition.{split, position-is, integer-is, fraction-is}
use Rattle.cubic_bound.proofs.Neighbours.{as_many, neighbour-is}
use Rattle.cubic_bound.proofs.Accepted.{accepted}

module _ {maximum margin : ℕ} {before : List Call} {c : Call} {ss : List ℤ} {s : ℤ} {d : ℕ}
    (desk : Desk maximum margin before c ss s d) where
  abbrev len : ℕ
  len = length_for maximum margin

  -- The samples accepted before, their number, and the reader that the run left.
  abbrev xs : List Float
  xs = since maximum margin len before

  abbrev n : ℕ
  n = length xs

  abbrev r : Reader
  r = left maximum margin len before

  room : n < 2 ^ 36
  room = rw (as_many desk.earlier) desk.fewer

  due : verdict true true (with_count (fresh maximum margin) n) (length (filled len xs)) c.input c.delay ≡ 0
  due =
      accepted desk.delay (with_count (fresh maximum margin) n) (length (filled len xs)) c.input desk.settings
      (filled-holds len xs).long room desk.input.is.real

  -- The call is accepted, whatever the kernel reads.
  pub answered : (read : Reading)
      → (processed read r.state r.ring c.input c.delay).answer
      ≡ Sample (read (stored n (filled len xs) c.input) (n + 1) (position_of n c.delay))
  answered read = rw (state-is maximum margin len before, ring-is maximum margin len before, due)

  position : Steps (position_of n c.delay) (place (length ss) d) 16
  position = rw (← as_many desk.earlier) (position-is n room desk.delay)

  near : Rounds (2 ^ 50) 1 (cubic_at (stored n (filled len xs) c.input) (n + 1) (position_of n c.delay))
      (exact_at len ss s d)
  unfolding cubic_at
  near =
      let p = position_of n c.delay in
      let small : AtMost (2 ^ 36) p =
      position-at-most p
      (position-in-range (taken true true (with_count (fresh maximum margin) n) (length (filled len xs)) c.input
      c.delay due)) in
      let z = integer (place (length ss) d) in
      let m = split (place (length ss) d) in
      let tap = neighbour-is len desk.earlier desk.input in
      rw (integer-is small position m.1, m.1.is)
      (cubic-error (le_of_lt m.1.below) (fraction-is small position m.1) (tap (z -ℤ pos 1)) (tap z)
      (tap (z +ℤ pos 1)) (tap (z +ℤ pos 2)))

pub demand3 : Meets reading
demand3 r c =
    record {
      close = λ maximum margin before ss s d desk e.
          rw e (record { value = reading _ _ _; given = answered desk reading; near = near desk });
    }
