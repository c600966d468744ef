-- `fugnadri_tables::readings::fugnadri_windowed_sinc_f32_sample_bits` meets its contract: it hands out the answer of
-- the reading, with the sample as a bit pattern. Assumes nothing.
use lib.Ieee.{binary32}
use Rattle.answer.specs.Answers.{number_f32_of, value_f32_of}
use Rattle.answer_parts.proofs.LeftByExports.{told, told-in-bits}
use Rattle.fugnadri_tables.proofs.readings.fugnadri_windowed_sinc_f32_sample_bits.Goals as goal

pub returns : goal.returns
returns c =
    let t =
    told number_f32_of value_f32_of c.sample-a.ensures c.number_f32.ensures
    c.value_f32.ensures in
    told-in-bits binary32 t c.bits_of_f32.ensures
