-- `desk_delay::refused::number` meets its contract: a number that is neither 1 nor 2 gives way to 3. Assumes nothing.
use Rattle.desk_delay.proofs.RoomRefusal.{gives-way}
use Rattle.desk_delay.proofs.refused.number.Goals as goal

pub returns-then-v-eq1 : goal.returns-then-v-eq1
returns-then-v-eq1 c = rw c.if-v-eq1.true

pub returns-then-v-eq2 : goal.returns-then-v-eq2
returns-then-v-eq2 c = rw c.if-v-eq2.true

pub returns-else-v-eq2 : goal.returns-else-v-eq2
returns-else-v-eq2 c = gives-way _ c.if-v-eq1.false c.if-v-eq2.false
