-- `wave_file::header::walk_all` ends: fewer bytes are left after each turn. What was reached follows from the heads.
use Rattle.wave_file.proofs.Walking.{Reached}
use Rattle.wave_file.proofs.header.walk_all.Given as goal

abbrev pub invariant-loop-walking : goal.invariant-loop-walking
invariant-loop-walking l = Reached l.layout l.opening l.end l.walking

abbrev pub decreases-loop-walking : goal.decreases-loop-walking
decreases-loop-walking l = l.walking.left
