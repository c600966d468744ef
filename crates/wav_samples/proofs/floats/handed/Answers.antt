-- `wav_samples::floats::handed` meets its contract: the loop writes a list by a rule, and no pattern is a NaN's.
-- Assumes nothing.
use native.Mathlib.Omega.{arith}
use Rattle.loop_laws.proofs.Writing.{unwritten, written-more, all-written}
use Rattle.wav_samples.proofs.floats.handed.Goals as goal

pub of_number-requires : goal.of_number-requires
of_number-requires c =
    let l = c.loop-k in
    c.requires.1 l.k (omega (arith, l.invariant.long))

pub loop-k-init : goal.loop-k-init
loop-k-init c = unwritten

pub bounds-kept-k : goal.bounds-kept-k
bounds-kept-k c = omega (arith, c.requires.0, c.loop-k.invariant.long)

pub loop-k-preserved : goal.loop-k-preserved
loop-k-preserved c = written-more c.loop-k.invariant (omega arith) c.of_number.ensures

pub returns : goal.returns
returns c = all-written c.loop-k.invariant (omega arith)
