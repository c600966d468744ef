-- `wave_output::write_header` meets its contract: a header that is refused is not written. Assumes nothing.
use mathlib.Core.Path.{refl, sym, ◌∙◌}
use Rattle.wave_output.proofs.write_header.Goals as goal

pub returns : goal.returns
returns c =
    λ due. absurd (due (sym c.put_header.ensures.value ∙ c.if-put_header-ne0.false))

pub returns-then-put_header-ne0 : goal.returns-then-put_header-ne0
returns-then-put_header-ne0 = (λ c due. refl)
