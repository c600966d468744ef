-- `picture::names::put_all`: the bytes of the name before this one are put. Assumes nothing.
use lib.ListN.{take}
use Rattle.text.proofs.Texts.{Puts}
use Rattle.picture.specs.Names.{escaped_as}
use Rattle.picture.proofs.names.put_all.Given as goal

abbrev pub invariant-loop-b : goal.invariant-loop-b
invariant-loop-b l = Puts l.initial.out l.initial.to (escaped_as l.readable (take l.b-index l.name)) l.to l.out
