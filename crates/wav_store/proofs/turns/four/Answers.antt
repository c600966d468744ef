-- `wav_store::turns::four` meets its contract: it writes the bytes of four samples one after the other. Assumes
-- nothing.
use native.Mathlib.Omega.{arith}
use Rattle.wav_store.proofs.Placed.{four-placed}
use Rattle.wav_store.proofs.turns.four.Goals as goal

pub nearest-a-requires : goal.nearest-a-requires
nearest-a-requires g c = c.requires.callable _ _ (omega arith) (omega arith)

pub nearest-b-requires : goal.nearest-b-requires
nearest-b-requires g c = c.requires.callable _ _ (omega arith) (omega arith)

pub nearest-c-requires : goal.nearest-c-requires
nearest-c-requires g c = c.requires.callable _ _ (omega arith) (omega arith)

pub nearest-d-requires : goal.nearest-d-requires
nearest-d-requires g c = c.requires.callable _ _ (omega arith) (omega arith)

pub returns : goal.returns
returns g c =
    let right = c.requires.right in
    four-placed c.requires.turn.placed c.requires.turn.next.room (right _ _ c.nearest-a.ensures)
    (right _ _ c.nearest-b.ensures) (right _ _ c.nearest-c.ensures) (right _ _ c.nearest-d.ensures)
    c.put.ensures c.put-2.ensures c.put-3.ensures c.put-4.ensures
