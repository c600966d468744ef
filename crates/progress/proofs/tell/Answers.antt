-- `progress::tell` meets its contract, by whether there is a terminal. Assumes nothing.
use mathlib.Core.Path.{◌∙◌}
use mir.Syntax.{w64}
use mir.ValLaws.{to_z-of_z}
use Rattle.progress.proofs.tell.Goals as goal

pub returns-then-terminal : goal.returns-then-terminal
returns-then-terminal c =
    rw c.if-terminal.true
    (to_z-of_z w64 c.tell_anew.result (record { sfits = c.tell_anew.type_inv }) ∙ c.tell_anew.ensures
    ∙ to_z-of_z w64 c.args.second c.ranges.second)

pub returns : goal.returns
returns c = rw c.if-terminal.false (to_z-of_z w64 c.args.last c.ranges.last)
