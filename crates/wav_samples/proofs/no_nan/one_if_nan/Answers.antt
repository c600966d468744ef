-- `wav_samples::no_nan::one_if_nan` meets its contract. Assumes nothing.
use mathlib.Core.Path.{◌≡◌}
use native.Mathlib.Omega.{arith}
use Rattle.wav_samples.proofs.no_nan.one_if_nan.Goals as goal

pub returns-then-n-gt2139095040 : goal.returns-then-n-gt2139095040
returns-then-n-gt2139095040 c = record { upper_bound = omega arith; n_bound = λ (e : 1 ≡ 0). absurd (omega arith) }

pub returns : goal.returns
returns c = record { upper_bound = omega arith; n_bound = λ e. omega (arith, c.if-n-gt2139095040.false) }
