-- `fugnadri::cubic_exports::fugnadri_cubic_process` meets its contract: it hands out what the reader gives. Assumes
-- nothing.
use Rattle.answer.specs.Answers.{number_of, value_of}
use Rattle.answer_parts.proofs.LeftByExports.{left}
use Rattle.fugnadri.proofs.cubic_exports.fugnadri_cubic_process.Goals as goal

pub returns : goal.returns
returns c =
    left (λ p. number_of p.answer) (λ p. value_of p.answer) (λ p. p.state.accepted)
    (c.process_sample-p.ensures.value, c.process_sample-p.ensures.ring_after)
    (c.handed.ensures.value, (c.handed.ensures.sample_after, c.handed.ensures.accepted_after))
