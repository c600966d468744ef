-- `lowpass::fill` meets its contract: after k turns the first k coefficients are written and summed. Assumes nothing.
use Rattle.std.proofs.Common.{◌≡◌, ℕ, ap, arith}
use Rattle.std.specs.Prelude.{Float}
use Rattle.std.specs.Float.{binary64}
use Rattle.std.specs.Float.Ieee.{add, neg, of_bits}
use Rattle.loop_laws.proofs.Folds.{none, turn}
use Rattle.loop_laws.proofs.Writing.{unwritten, written-more}
use Rattle.filter_settings.proofs.InRange.{designed}
use Rattle.lowpass.specs.Design.{minus-zero-f, raw_of}
use Rattle.lowpass.proofs.Distance.{made}
use Rattle.lowpass.proofs.fill.Goals as goal
use Rattle.lowpass.proofs.fill.Goals.{After-coefficient_at-c}

pub overflow_sub-center : goal.overflow_sub-center
overflow_sub-center c = omega (arith, (designed c.args.taps c.args.cutoff c.args.beta c.requires.0).taps-good.least)

pub loop-k-init : goal.loop-k-init
unfolding of_bits neg
loop-k-init c = record { out = unwritten; gain = none _ minus-zero-f }

-- What is written is 000's coefficient.
raw : (c : After-coefficient_at-c) → c.coefficient_at-c.result
    ≡ raw_of c.args.taps c.args.cutoff c.args.beta c.loop-k.k
unfolding of_bits
raw c =
    made c.args.taps c.args.cutoff c.args.beta c.requires.0 c.loop-k.k (omega arith) c.bessel_i0-denom.result
    c.kaiser.result c.coefficient_at-c.result c.bessel_i0-denom.ensures c.kaiser.ensures c.coefficient_at-c.ensures

pub loop-k-preserved : goal.loop-k-preserved
unfolding of_bits neg
loop-k-preserved c =
    let a = c.args in
    let e = raw (goal.at.loop-k-preserved c).After-coefficient_at-c in
    record {
      out = written-more c.loop-k.invariant.out (omega arith) e;
      gain =
          turn (λ (k : ℕ) (gain : Float). add binary64 gain (raw_of a.taps a.cutoff a.beta k)) minus-zero-f
          c.loop-k.k c.loop-k.gain _ c.loop-k.invariant.gain (ap (add binary64 c.loop-k.gain) e);
    }
