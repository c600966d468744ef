-- `bank_read::sample` meets its contract, by the number of the refusal or the bank's reading. Assumes nothing.
use Rattle.bank_read.proofs.BankReading.{answered}
use Rattle.bank_read.proofs.sample.Goals as goal

pub returns : goal.returns
returns c =
    let a = c.args in
    rw (c.answered_f32.ensures, c.refusal-no.ensures, c.read.ensures, c.choice_or_zero-choice.ensures)
    (answered a.max_rate a.rate a.quality a.sets.now a.source.now a.count a.position)
