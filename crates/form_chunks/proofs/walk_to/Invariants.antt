use Rattle.riff_chunks.proofs.ByTurns.{On}
use Rattle.form_chunks.specs.Form.{form_chunk, form_sought}
use Rattle.form_chunks.proofs.walk_to.Given as goal

abbrev pub invariant-loop-walking : goal.invariant-loop-walking
invariant-loop-walking l = On form_sought (form_chunk l.file) l.end l.walking

abbrev pub decreases-loop-walking : goal.decreases-loop-walking
decreases-loop-walking l = l.walking.left
