-- `oscillators::oscillator_delay` meets its contract: its tests are those of the definition. Assumes nothing.
use Rattle.oscillator_arithmetic.specs.Arithmetic.{oscillator_delay}
use Rattle.oscillators.proofs.oscillator_delay.Goals as goal

pub returns : goal.returns
unfolding oscillator_delay
returns c =
    rw (
      c.answered.ensures,
      c.shape_primitive.ensures,
      c.both-2.ensures,
      c.both.ensures,
      c.sample_rate_ok.ensures,
      c.amplitude-amplitude.ensures,
      c.both-swing.ensures,
      c.depth_ok.ensures,
      c.rate_ok.ensures,
      c.both-wave.ensures,
      c.is_finite.ensures,
      c.phase_ok.ensures,
    )

pub phase_ok-requires : goal.phase_ok-requires
phase_ok-requires c = tt

pub is_finite-requires : goal.is_finite-requires
is_finite-requires c = tt

pub both-wave-requires : goal.both-wave-requires
both-wave-requires c = tt

pub rate_ok-requires : goal.rate_ok-requires
rate_ok-requires c = tt

pub depth_ok-requires : goal.depth_ok-requires
depth_ok-requires c = tt

pub both-swing-requires : goal.both-swing-requires
both-swing-requires c = tt

pub amplitude-amplitude-requires : goal.amplitude-amplitude-requires
amplitude-amplitude-requires c = tt

pub sample_rate_ok-requires : goal.sample_rate_ok-requires
sample_rate_ok-requires c = tt

pub both-requires : goal.both-requires
both-requires c = tt

pub both-requires-2 : goal.both-requires-2
both-requires-2 c = tt

pub shape_primitive-requires : goal.shape_primitive-requires
shape_primitive-requires c = tt

pub answered-requires : goal.answered-requires
answered-requires c = tt
