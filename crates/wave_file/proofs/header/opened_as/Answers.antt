-- `wave_file::header::opened_as` meets its contract, by what was found. Assumes nothing.
use mathlib.Core.Path.{sym, ap}
use mir.Syntax.{w32}
use mir.ValLaws.{to_z-of_z}
use Rattle.wave_file.specs.Opening.{opened_as}
use Rattle.wave_file.proofs.header.opened_as.Goals as goal

pub returns-in-Wave : goal.returns-in-Wave
returns-in-Wave c =
    rw (c.file_of.ensures, to_z-of_z w32 c.args.fd c.ranges.fd)
    (ap (opened_as c.args.fd c.args.layout c.args.told) (sym c.in-Wave.is))

pub returns-in-Refused : goal.returns-in-Refused
returns-in-Refused c =
    let s = c.args in
    rw c.refusal.ensures (ap (opened_as s.fd s.layout s.told) (sym c.in-Refused.is))
