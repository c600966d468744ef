-- `fugnadri_tables::readers_f32::fugnadri_windowed_sinc_f32_process` meets its contract: it hands out what the reader
-- gives. Assumes nothing.
use Rattle.answer.specs.Answers.{number_f32_of, value_f32_of}
use Rattle.answer_parts.proofs.LeftByExports.{left}
use Rattle.fugnadri_tables.proofs.readers_f32.fugnadri_windowed_sinc_f32_process.Goals as goal

pub returns : goal.returns
returns c =
    left (λ p. number_f32_of p.answer) (λ p. value_f32_of p.answer) (λ p. p.state.accepted)
    (c.process_sample-p.ensures.value, c.process_sample-p.ensures.ring_after)
    (c.handed_f32.ensures.value, (c.handed_f32.ensures.sample_after, c.handed_f32.ensures.accepted_after))
