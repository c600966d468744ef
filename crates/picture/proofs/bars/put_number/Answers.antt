-- `picture::bars::put_number` meets its contract: two texts put one after the other are one. Assumes nothing.
use Rattle.text.specs.Text.{decimal}
use Rattle.text.proofs.Texts.{then}
use Rattle.picture.specs.Bars.{number_text}
use Rattle.picture.proofs.bars.put_number.Goals as goal

pub returns : goal.returns
unfolding number_text
returns c =
    let s = c.args in
    then s.out.now s.before.now (decimal s.n) s.at
    c.put-to.ensures c.put_decimal.ensures
