-- `room_grants::becomes::built_by` meets its contract: the sum is at most 6. Assumes nothing.
use native.Mathlib.Omega.{arith}
use Rattle.room_marks.proofs.MarkNumbers.{desk-most, mode-most}
use Rattle.room_grants.proofs.becomes.built_by.Goals as goal

pub overflow_add-result : goal.overflow_add-result
overflow_add-result c =
    let a = c.args in
    omega (arith, desk-most a.desk, mode-most a.mode, c.number.ensures, c.mode_number.ensures)
