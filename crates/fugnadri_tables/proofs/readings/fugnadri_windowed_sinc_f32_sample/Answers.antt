-- `fugnadri_tables::readings::fugnadri_windowed_sinc_f32_sample` meets its contract: it hands out the answer of the
-- reading. Assumes nothing.
use Rattle.answer.specs.Answers.{number_f32_of, value_f32_of}
use Rattle.answer_parts.proofs.LeftByExports.{told}
use Rattle.fugnadri_tables.proofs.readings.fugnadri_windowed_sinc_f32_sample.Goals as goal

pub returns : goal.returns
returns c =
    told number_f32_of value_f32_of c.sample-a.ensures c.number_f32.ensures
    c.value_f32.ensures
