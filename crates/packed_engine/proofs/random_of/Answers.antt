-- `packed_engine::random_of` meets its contract, by the contracts of the functions that it calls, which have no
-- premises. Assumes nothing.
use Rattle.packed_engine.proofs.random_of.Goals as goal

pub returns : goal.returns
returns c =
    rw (
      c.float_of-4.ensures,
      c.float_of-3.ensures,
      c.float_of-2.ensures,
      c.float_of.ensures,
    )
