use Rattle.long_wav.proofs.AtHand.{Reaching}
use Rattle.long_wav.proofs.heads.heads_of.Given as goal

abbrev pub invariant-loop-walking : goal.invariant-loop-walking
invariant-loop-walking l = Reaching l.prefix l.end l.walking

abbrev pub decreases-loop-walking : goal.decreases-loop-walking
decreases-loop-walking l = l.walking.left
