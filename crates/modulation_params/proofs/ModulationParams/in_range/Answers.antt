-- `modulation_params::ModulationParams::in_range` meets its contract: its tests are those of the definition. Assumes
-- nothing.
use Rattle.modulation_params.specs.Settings.{params_ok}
use Rattle.modulation_params.proofs.ModulationParams.in_range.Goals as goal

pub returns : goal.returns
unfolding params_ok
returns c =
    rw (
      c.both-3.ensures,
      c.both-2.ensures,
      c.both.ensures,
      c.both-amounts.ensures,
      c.is_finite-4.ensures,
      c.is_finite-3.ensures,
      c.both-shapes.ensures,
      c.is_finite-2.ensures,
      c.is_finite.ensures,
      c.both-flutter.ensures,
      c.depth_ok-2.ensures,
      c.rate_ok-2.ensures,
      c.both-wow.ensures,
      c.depth_ok.ensures,
      c.rate_ok.ensures,
    )

pub rate_ok-requires : goal.rate_ok-requires
rate_ok-requires c = tt

pub depth_ok-requires : goal.depth_ok-requires
depth_ok-requires c = tt

pub both-wow-requires : goal.both-wow-requires
both-wow-requires c = tt

pub rate_ok-requires-2 : goal.rate_ok-requires-2
rate_ok-requires-2 c = tt

pub depth_ok-requires-2 : goal.depth_ok-requires-2
depth_ok-requires-2 c = tt

pub both-flutter-requires : goal.both-flutter-requires
both-flutter-requires c = tt

pub is_finite-requires : goal.is_finite-requires
is_finite-requires c = tt

pub is_finite-requires-2 : goal.is_finite-requires-2
is_finite-requires-2 c = tt

pub both-shapes-requires : goal.both-shapes-requires
both-shapes-requires c = tt

pub is_finite-requires-3 : goal.is_finite-requires-3
is_finite-requires-3 c = tt

pub is_finite-requires-4 : goal.is_finite-requires-4
is_finite-requires-4 c = tt

pub both-amounts-requires : goal.both-amounts-requires
both-amounts-requires c = tt

pub both-requires : goal.both-requires
both-requires c = tt

pub both-requires-2 : goal.both-requires-2
both-requires-2 c = tt

pub both-requires-3 : goal.both-requires-3
both-requires-3 c = tt
