-- `turned_bytes::turn_one` meets its contract: it swaps the first and the last byte. Assumes nothing.
use native.Mathlib.Omega.{arith}
use Rattle.turned_bytes.proofs.Turns.{turned}
use Rattle.turned_bytes.proofs.turn_one.Goals as goal

pub returns : goal.returns
returns g c =
    let s = c.args in
    turned s.bytes.now s.at _ _ _ c.requires.width.0 c.requires.width.1 (omega arith) (omega arith) c.requires.within
