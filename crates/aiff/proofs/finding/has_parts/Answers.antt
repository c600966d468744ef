-- `aiff::finding::has_parts` meets its contract, by the contracts of the functions that it calls. Assumes nothing.
use Rattle.aiff.proofs.finding.has_parts.Goals as goal

pub returns : goal.returns
returns c = cc
