-- `long_header::long::put_rest` meets its contract, by the law of a header behind 36 bytes. Assumes nothing.
use mathlib.Core.Path.{refl}
use Rattle.long_header.proofs.Placed.{tail-is}
use Rattle.long_header.proofs.long.put_rest.Goals as goal

pub returns : goal.returns
returns c =
    let a = c.args in
    tail-is a.kind a.channels a.rate a.out.now _ _ refl c.requires
    c.write_header.ensures.out_after
