-- `oscillators::advance_phase` meets its contract: its tests are those of the definition. Assumes nothing.
use Rattle.oscillators.proofs.advance_phase.Goals as goal

pub returns : goal.returns
returns c =
    rw (
      c.answered.ensures,
      c.advance_phase.ensures,
      c.both.ensures,
      c.cycle_ok.ensures,
      c.both-rates.ensures,
      c.sample_rate_ok.ensures,
      c.rate_ok.ensures,
    )

pub rate_ok-requires : goal.rate_ok-requires
rate_ok-requires c = tt

pub sample_rate_ok-requires : goal.sample_rate_ok-requires
sample_rate_ok-requires c = tt

pub both-rates-requires : goal.both-rates-requires
both-rates-requires c = tt

pub cycle_ok-requires : goal.cycle_ok-requires
cycle_ok-requires c = tt

pub both-requires : goal.both-requires
both-requires c = tt

pub advance_phase-requires : goal.advance_phase-requires
advance_phase-requires c = tt

pub answered-requires : goal.answered-requires
answered-requires c = tt
