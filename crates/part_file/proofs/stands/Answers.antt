-- `part_file::stands` meets its contract: what is not standard output is none. Assumes nothing.
use mathlib.Core.Path.{refl, sym, ◌∙◌}
use mathlib.Core.Bool.{true≢false}
use Rattle.part_file.proofs.stands.Goals as goal

pub returns-then-is_standard : goal.returns-then-is_standard
returns-then-is_standard c = λ h. refl

pub returns : goal.returns
returns c = λ h. absurd (true≢false (sym h ∙ sym c.is_standard.ensures ∙ c.if-is_standard.false))
