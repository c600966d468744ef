-- `sinc_neighbours::apart` meets its contract: it asks for the first tap and where its run starts. Assumes nothing.
use mathlib.Core.Path.{ap, ◌∙◌}
use lib.IntN.{ℤ}
use mir.Syntax.{w64}
use mir.ValLaws.{to_z-of_z}
use Rattle.ring.specs.Quick.{start_of}
use Rattle.ring.specs.declared.Start.{Start}
use Rattle.sinc_neighbours.proofs.apart.Goals as goal

pub returns : goal.returns
returns c =
    let f = c.first_tap-first in
    let a = c.args in
    ap (λ (s : Start). s.held) c.run_start-start.ensures
    ∙ ap (λ (z : ℤ). (start_of a.len a.after z a.taps).held)
    (to_z-of_z w64 f.result (record { sfits = f.type_inv }) ∙ f.ensures)
