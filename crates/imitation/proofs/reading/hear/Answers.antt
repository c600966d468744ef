-- `imitation::reading::hear` meets its contract, by `calls`. Assumes nothing.
use Rattle.imitation.proofs.Calls.{calls}
use Rattle.imitation.proofs.reading.hear.Goals as goal

pub returns : goal.returns
returns c =
    let p = c.process_sample-p in
    let a = c.args in
    let both = calls a.table.now a.state a.ring.now a.input a.delay p.ensures.value p.ensures.ring_after
    c.number_f32.ensures c.value_f32.ensures in
    record { state_value = both.0; number_value = both.1.0; sample_value = both.1.1.0; ring_after = both.1.1.1 }
