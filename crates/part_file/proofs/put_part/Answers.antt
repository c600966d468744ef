-- `part_file::put_part` meets its contract: texts put one after the other are one. Assumes nothing.
use Rattle.text.specs.Text.{ascii}
use Rattle.part_file.specs.Parts.{part_text}
use Rattle.text.proofs.Texts.{then}
use Rattle.part_file.proofs.put_part.Goals as goal

pub returns : goal.returns
unfolding ascii part_text
returns c =
    let s = c.args in
    let both = then s.part.now s.name.now (ascii ".part") 0 c.put-at.ensures c.put.ensures in
    record { value = both.value; part_after = both.out_after }
