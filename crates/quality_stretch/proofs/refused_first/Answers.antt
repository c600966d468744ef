-- `quality_stretch::refused_first` meets its contract, by `first-due`. Assumes nothing.
use Rattle.quality_stretch.proofs.FirstTests.{first-due}
use Rattle.quality_stretch.proofs.refused_first.Goals as goal

pub returns : goal.returns
returns c =
    let a = c.args in
    rw (
      c.first.ensures,
      c.both-t3.ensures,
      c.place_ok.ensures,
      c.fading.ensures,
      c.both-t2.ensures,
      c.both-3.ensures,
      c.both-2.ensures,
      c.both-t1.ensures,
      c.both.ensures,
      c.length_ok.ensures,
    )
    (first-due a.lent a.max_rate a.state a.len a.inputs a.delays a.out
    c.length_for-needed.ensures c.bank_length-bank.ensures)
