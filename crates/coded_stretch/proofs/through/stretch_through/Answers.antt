-- `coded_stretch::through::stretch_through` meets its contract: it writes what the stretch gives. Assumes nothing.
use mathlib.Core.Path.{ap}
use Rattle.coded_stretch.specs.Coded.{changed_by}
use Rattle.coded_stretch.proofs.through.stretch_through.Goals as goal

pub returns : goal.returns
returns c = ap changed_by c.process_stretch-a.ensures
