-- `picture::page::put_tail` meets its contract: its text is one. Assumes nothing.
use Rattle.text.specs.Text.{ascii}
use Rattle.picture.specs.Page.{tail_text}
use Rattle.picture.proofs.page.put_tail.Goals as goal

pub returns : goal.returns
unfolding ascii tail_text
returns c =
    let s = c.args in
    c.put.ensures
