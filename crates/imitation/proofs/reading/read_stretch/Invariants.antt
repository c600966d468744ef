-- `imitation::reading::read_stretch`: up to the place k the samples are answered. Assumes nothing.
use Rattle.stretch.proofs.Turns.{Half}
use Rattle.imitation.specs.Reading.{call_of}
use Rattle.imitation.proofs.reading.read_stretch.Given as goal

abbrev pub invariant-loop-k : goal.invariant-loop-k
invariant-loop-k l =
    Half (call_of l.table) l.initial.s l.initial.ring l.initial.samples l.delays l.s l.ring l.samples l.k
