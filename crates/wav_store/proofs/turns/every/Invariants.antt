use Rattle.wav_store.proofs.Sight.{Shared}
use Rattle.wav_store.proofs.turns.every.Given as goal

abbrev pub invariant-loop-k : goal.invariant-loop-k
invariant-loop-k l = Shared l.samples l.i l.all l.k
