use Prim.Native.Nat.{◌*◌}
use Rattle.sample_kind.specs.declared.SampleKind.TheVariants.{Float32}
use Rattle.wav_store.specs.Inner.{Placed}
use Rattle.wav_store.proofs.placing.place_float.Given as goal

abbrev pub invariant-loop-turn : goal.invariant-loop-turn
invariant-loop-turn l = Placed Float32 l.samples l.out (l.turn * 16)
