use Prim.Native.Nat.{◌*◌}
use mathlib.Core.Path.{◌≡◌}
use lib.ListN.{take}
use Rattle.wav_store.specs.Inner.{Computes, words_of}
use Rattle.wav_store.proofs.placing.place_words.Given as goal

abbrev pub invariant-loop-i : goal.invariant-loop-i
invariant-loop-i g l =
    (v : _) → Computes (goal.F-post g l.word) v
    → take (l.i * g.row.WIDTH) l.out ≡ words_of g.row.WIDTH v (take l.i l.samples)
