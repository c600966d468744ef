-- `wave_file::header::find` meets its contract: a reading fails, or the next function answers. Assumes nothing.
use Rattle.wave_file.specs.Inside.Finds.{broke}
use Rattle.wave_file.proofs.header.find.Goals as goal

pub returns-then-number-ne0 : goal.returns-then-number-ne0
returns-then-number-ne0 c = broke c.broken.ensures
