-- `quality_codes::through::call_through` meets its contract: it writes what the call gives. Assumes nothing.
use mathlib.Core.Path.{refl}
use Rattle.answer_parts.proofs.LeftByExports.{left}
use Rattle.quality_codes.specs.Left.{changed_of}
use Rattle.quality_codes.proofs.through.call_through.Goals as goal

pub returns : goal.returns
returns c =
    let e = c.call-c.ensures in
    left (λ p. p.number) (λ p. p.sample) (λ p. changed_of p.state) (e.value, e.ring_after) (refl, (refl, refl))
