-- `packed_engine::engine_of` meets its contract, by the contracts of the functions that it calls, which have no
-- premises. Assumes nothing.
use Rattle.packed_engine.proofs.engine_of.Goals as goal

pub returns : goal.returns
returns c =
    rw (
      c.float_of-3.ensures,
      c.float_of-2.ensures,
      c.float_of.ensures,
      c.random_of-flutter.ensures,
      c.random_of-wow.ensures,
    )
