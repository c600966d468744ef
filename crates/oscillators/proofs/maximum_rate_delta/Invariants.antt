use Rattle.std.proofs.Common.{◌≡◌, drop}
use Rattle.std.specs.Float.Ieee.{neg}
use Rattle.oscillator_ranges.specs.Constants.{zero}
use Rattle.oscillator_arithmetic.specs.Arithmetic.{squares_from}
use Rattle.oscillators.specs.Answers.{depths_ok}
use Rattle.oscillators.proofs.maximum_rate_delta.Given as goal

abbrev pub invariant-loop-depth : goal.invariant-loop-depth
invariant-loop-depth l = record {
  sum : squares_from l.sum (drop l.depth-index l.depths_cents) ≡ squares_from (neg zero) l.depths_cents;
  good : depths_ok (drop l.depth-index l.depths_cents) ≡ depths_ok l.depths_cents;
}
