use Prim.Native.Nat.{ℕ}
use lib.ListN.{get_or}
use lib.Ieee.{binary32, of_bits}
use Rattle.loop_laws.proofs.Writing.{Written}
use Rattle.wav_samples.proofs.floats.handed.Given as goal

abbrev pub invariant-loop-k : goal.invariant-loop-k
invariant-loop-k l = Written (λ (j : ℕ). of_bits binary32 (get_or l.kept j 0)) l.initial.out l.out l.k
