-- `part_file::finish` meets its contract, by whether all went well. Assumes nothing.
use mathlib.Core.Path.{refl, sym, ◌∙◌}
use mathlib.Core.Bool.{true≢false}
use Rattle.part_file.proofs.finish.Goals as goal

pub returns-then-well : goal.returns-then-well
returns-then-well c =
    let t = c.if-well.true in
    (λ h. absurd (true≢false (sym t ∙ h)), λ h. c.stands.ensures h ∙ sym t)

pub returns : goal.returns
returns c = (λ h. refl, λ h. sym c.if-well.false)
