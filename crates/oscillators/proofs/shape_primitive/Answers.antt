-- `oscillators::shape_primitive` meets its contract: its tests are those of the definition. Assumes nothing.
use Rattle.oscillators.proofs.shape_primitive.Goals as goal

pub returns : goal.returns
returns c =
    rw (
      c.answered.ensures,
      c.shape_primitive.ensures,
      c.both.ensures,
      c.is_finite.ensures,
      c.phase_ok.ensures,
    )

pub phase_ok-requires : goal.phase_ok-requires
phase_ok-requires c = tt

pub is_finite-requires : goal.is_finite-requires
is_finite-requires c = tt

pub both-requires : goal.both-requires
both-requires c = tt

pub shape_primitive-requires : goal.shape_primitive-requires
shape_primitive-requires c = tt

pub answered-requires : goal.answered-requires
answered-requires c = tt
