-- `picture::page::put_size` meets its contract: texts put one after the other are one. Assumes nothing.
use Prim.Native.Nat.{◌+◌, ◌*◌}
use Rattle.text.specs.Text.{ascii}
use Rattle.picture.specs.Bars.{number_text}
use Rattle.picture.specs.Page.{size_text}
use Rattle.text.proofs.Texts.{then}
use Rattle.picture.proofs.page.put_size.Goals as goal

pub returns : goal.returns
unfolding ascii size_text
returns c =
    let s = c.args in
    then s.out.now (number_text (ascii "<svg xmlns=\"http://www.w3.org/2000/svg\" viewBox=\"0 0 1160 ")
    (s.channels * 300 + 130)) (number_text (ascii "\" width=\"1160\" height=\"") (s.channels * 300 + 130)) s.at
    c.put_number-one.ensures c.put_number.ensures
