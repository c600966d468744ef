-- `wav_header::tests::header_refusal` meets its contract by those of its calls. Assumes nothing.
use Rattle.wav_header.proofs.tests.header_refusal.Goals as goal

pub returns : goal.returns
returns c =
    rw (
      c.first_of_header.ensures,
      c.both-t1.ensures,
      c.count_ok.ensures,
      c.rate_ok.ensures,
      c.header_length.ensures,
      c.one_or_two.ensures,
    )
