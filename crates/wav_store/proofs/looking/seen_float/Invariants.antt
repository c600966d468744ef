use Rattle.wav_store.proofs.Sight.{Sighted}
use Rattle.wav_store.proofs.looking.seen_float.Given as goal

abbrev pub invariant-loop-x : goal.invariant-loop-x
invariant-loop-x l = Sighted l.samples l.some l.every l.x-index
