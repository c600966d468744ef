-- `wav_store::turns::sixteen_by` meets its contract: it writes four samples four times. Assumes nothing.
use native.Mathlib.Omega.{arith}
use Rattle.wav_store.proofs.Placed.{moved, next-four}
use Rattle.wav_store.proofs.turns.sixteen_by.Goals as goal

pub four-requires-clause-turn : goal.four-requires-clause-turn
four-requires-clause-turn g c =
    let t = c.requires.turn in
    record { next = next-four t.next 0 (omega arith) (omega arith); placed = t.placed }

pub four-requires-2-clause-turn : goal.four-requires-2-clause-turn
four-requires-2-clause-turn g c =
    record { next = next-four c.requires.turn.next 4 (omega arith) (omega arith); placed = c.four.ensures }

pub four-requires-3-clause-turn : goal.four-requires-3-clause-turn
four-requires-3-clause-turn g c =
    record {
      next = next-four c.requires.turn.next 8 (omega arith) (omega arith);
      placed = moved c.four-2.ensures (omega arith);
    }

pub four-requires-4-clause-turn : goal.four-requires-4-clause-turn
four-requires-4-clause-turn g c =
    record {
      next = next-four c.requires.turn.next 12 (omega arith) (omega arith);
      placed = moved c.four-3.ensures (omega arith);
    }

pub returns : goal.returns
returns g c = moved c.four-4.ensures (omega arith)
