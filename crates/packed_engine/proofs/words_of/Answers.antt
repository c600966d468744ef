-- `packed_engine::words_of` meets its contract, by the contracts of the functions that it calls, which have no
-- premises. Assumes nothing.
use Rattle.packed_engine.proofs.words_of.Goals as goal

pub returns : goal.returns
returns c =
    rw (
      c.bits_of-11.ensures,
      c.bits_of-10.ensures,
      c.bits_of-9.ensures,
      c.bits_of-8.ensures,
      c.bits_of-7.ensures,
      c.bits_of-6.ensures,
      c.bits_of-5.ensures,
      c.bits_of-4.ensures,
      c.bits_of-3.ensures,
      c.bits_of-2.ensures,
      c.bits_of.ensures,
    )
