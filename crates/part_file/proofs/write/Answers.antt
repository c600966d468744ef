-- `part_file::write` meets its contract, by whether there is a byte. Assumes nothing.
use mathlib.Core.Path.{refl}
use Rattle.part_file.proofs.write.Goals as goal

pub returns-then-bytes-eq0 : goal.returns-then-bytes-eq0
returns-then-bytes-eq0 c = λ h. refl

pub returns-then-write_all : goal.returns-then-write_all
returns-then-write_all c = λ h. refl

pub returns : goal.returns
returns c = λ h. absurd (c.if-bytes-eq0.false h)
