-- `fugnadri_tables::readings::fugnadri_windowed_sinc_sample_bits` meets its contract: it hands out the answer of the
-- reading, with the sample as a bit pattern. Assumes nothing.
use lib.Ieee.{binary64}
use Rattle.answer.specs.Answers.{number_of, value_of}
use Rattle.answer_parts.proofs.LeftByExports.{told, told-in-bits}
use Rattle.fugnadri_tables.proofs.readings.fugnadri_windowed_sinc_sample_bits.Goals as goal

pub returns : goal.returns
returns c =
    let t =
    told number_of value_of c.sample-a.ensures c.number.ensures
    c.value.ensures in
    told-in-bits binary64 t c.bits_of.ensures
