-- `wave_file::reading::read_at` meets its contract, return by return. Assumes nothing.
use Rattle.wave_file.specs.Reads.Reads.{filled, failed, ended}
use Rattle.wave_file.proofs.reading.read_at.Goals as goal

pub returns-in_default : goal.returns-in_default
returns-in_default c = failed

pub returns-then-n-bytes : goal.returns-then-n-bytes
returns-then-n-bytes c = ended

pub returns : goal.returns
returns c = filled
