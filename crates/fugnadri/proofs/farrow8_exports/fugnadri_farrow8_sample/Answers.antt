-- `fugnadri::farrow8_exports::fugnadri_farrow8_sample` meets its contract: it hands out the answer of the reading.
-- Assumes nothing.
use Rattle.answer.specs.Answers.{number_of, value_of}
use Rattle.answer_parts.proofs.LeftByExports.{told}
use Rattle.fugnadri.proofs.farrow8_exports.fugnadri_farrow8_sample.Goals as goal

pub returns : goal.returns
returns c = told number_of value_of c.sample-a.ensures c.number.ensures c.value.ensures
