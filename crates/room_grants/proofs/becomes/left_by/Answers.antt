-- `room_grants::becomes::left_by` meets its contract, by whether the other desk holds the set. Assumes nothing.
use mathlib.Core.Path.{◌≡◌, sym, ◌∙◌, ap}
use Prim.Native.Nat.{ℕ, ◌-◌}
use native.Mathlib.Omega.{arith}
use Rattle.room_marks.specs.declared.Desk.{Desk}
use Rattle.room_marks.specs.Marks.{other_desk, held_by}
use Rattle.room_marks.proofs.MarkNumbers.{held_number}
use Rattle.room_grants.proofs.becomes.left_by.Goals as goal
use Rattle.room_grants.proofs.becomes.left_by.Goals.{After-held_by}

pub overflow_sub-rest : goal.overflow_sub-rest
overflow_sub-rest c =
    omega (arith, held_number c.args.desk c.args.mark c.requires, c.number.ensures)

-- What the code has tested.
tested : (c : After-held_by) → let a = c.args in
    held_by (other_desk a.desk) a.mark ≡ c.held_by.result
tested c =
    let a = c.args in
    ap (λ (d : Desk). held_by d a.mark) (sym c.other.ensures) ∙ sym c.held_by.ensures

pub returns-then-held_by : goal.returns-then-held_by
returns-then-held_by c =
    rw (tested (goal.at.returns-then-held_by c).After-held_by ∙ c.if-held_by.true)
    (ap (λ (k : ℕ). c.args.mark - k) c.number.ensures)

pub returns : goal.returns
returns c = rw (tested (goal.at.returns c).After-held_by ∙ c.if-held_by.false)
