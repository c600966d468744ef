-- `told_oversampled::readings::with_reading` meets its contract: no sum overflows, because a reading has few taps.
-- Assumes nothing.
use Rattle.std.proofs.Common.{◌≤◌, arith, rules}
use Rattle.told_oversampled.proofs.OneReading.{few-counted}
use Rattle.told_oversampled.proofs.readings.with_reading.Goals as goal
use Rattle.told_oversampled.proofs.readings.with_reading.Goals.{After-of_call-one}

few : (c : After-of_call-one) → let s = c.of_call-one.result in
    (s.unwritten ≤ 128) × (s.ahead ≤ 128) × (s.overwritten ≤ 128)
few c =
    let a = c.args in
    rw c.of_call-one.ensures (few-counted a.len a.s.inner a.delay a.taps (omega arith))

pub overflow_add-result : goal.overflow_add-result
overflow_add-result c = let f = few (goal.at.overflow_add-result c).After-of_call-one in search rules

pub overflow_add-result-then-accepted : goal.overflow_add-result-then-accepted
overflow_add-result-then-accepted c = let f = few (goal.at.overflow_add-result-then-accepted c).After-of_call-one in
    search rules

pub overflow_add-result-then-accepted-2 : goal.overflow_add-result-then-accepted-2
overflow_add-result-then-accepted-2 c = let f = few (goal.at.overflow_add-result-then-accepted-2 c).After-of_call-one in
    search rules

pub returns-then-accepted : goal.returns-then-accepted
returns-then-accepted c =
    rw (c.of_call-one.ensures, c.if-accepted.true)

pub returns : goal.returns
returns c = rw c.if-accepted.false
