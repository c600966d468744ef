-- `wav_samples::no_nan::numbers` meets its contract: a bound below 2.0's pattern, or a count of 0, bounds all patterns.
-- Assumes nothing.
use borrow.Author.Tests.{eqb-true}
use native.Mathlib.Omega.{arith}
use Rattle.wav_samples.proofs.Blocks.{lower}
use Rattle.wav_samples.proofs.no_nan.numbers.Goals as goal

pub returns-then-all-lt1073741824 : goal.returns-then-all-lt1073741824
returns-then-all-lt1073741824 c = λ e. lower _ _ _ _ (omega (arith, c.if-all-lt1073741824.true)) c.requires.2

pub returns : goal.returns
returns c = λ e. c.nans.ensures (eqb-true c.nans.result 0 e)

pub nans-requires : goal.nans-requires
nans-requires c = (c.requires.0, c.requires.1)
