-- `wave_file::header::find_both` meets its contract: the answer follows from the pieces. Assumes nothing.
use Rattle.wave_file.specs.Inside.Finds.{told}
use Rattle.wave_file.proofs.header.find_both.Goals as goal

pub returns : goal.returns
returns c =
    told _ c.args.format.now c.begun-samples.result.now
    (rw (c.told_of.ensures, c.finish-found.ensures) at c.opened_as.ensures)
