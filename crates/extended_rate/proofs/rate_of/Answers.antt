-- `extended_rate::rate_of` meets its contract, by its three cases: with a sign there is no rate. Assumes nothing.
use mathlib.Core.Path.{sym}
use native.Mathlib.Omega.{arith}
use Rattle.extended_rate.proofs.Rates.{none}
use Rattle.extended_rate.proofs.rate_of.Goals as goal

pub returns-then-field-ge32768 : goal.returns-then-field-ge32768
returns-then-field-ge32768 c =
    let a = c.args in
    sym (none 16446 a.field a.digits (λ rate m. omega (arith, m.no_sign)))
