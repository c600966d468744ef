-- `turned_bytes::turn_round` meets its contract, by the kinds. Assumes nothing.
use Rattle.turned_bytes.proofs.turn_round.Goals as goal

pub returns-in-Pcm16 : goal.returns-in-Pcm16
returns-in-Pcm16 c = rw c.in-Pcm16.is c.turn_each.ensures

pub returns-in-Pcm24 : goal.returns-in-Pcm24
returns-in-Pcm24 c = rw c.in-Pcm24.is c.turn_each-in-Pcm24.ensures
