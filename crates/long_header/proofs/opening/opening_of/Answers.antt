-- `long_header::opening::opening_of` meets its contract: the bytes one by one. Assumes nothing.
use Rattle.long_header.proofs.Letters.{spelt-from}
use Rattle.long_header.proofs.opening.opening_of.Goals as goal

pub returns : goal.returns
returns c =
    let s = c.args in
    spelt-from s.form s.riff s.size s.frames _ _ _ _ c.letters-n.ensures c.low_first_bytes-a.ensures
    c.low_first_bytes-b.ensures c.low_first_bytes-c.ensures
