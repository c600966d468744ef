-- `wave_output::write_pad` meets its contract, by whether there is a pad byte. Assumes nothing.
use mathlib.Core.Path.{refl}
use native.Mathlib.Omega.{arith}
use Rattle.wave_output.proofs.write_pad.Goals as goal

pub returns-then-size-eq1 : goal.returns-then-size-eq1
returns-then-size-eq1 c = λ even. absurd (omega (arith, c.if-size-eq1.true))

pub returns : goal.returns
returns = (λ c even. refl)
