-- `wav_header::refusal_unlisted` meets its contract by those of its calls. Assumes nothing.
use Rattle.wav_header.proofs.refusal_unlisted.Goals as goal

pub returns : goal.returns
returns c =
    rw (
      c.first_of_file.ensures,
      c.both-t1.ensures,
      c.whole_frames.ensures,
      c.rate_ok.ensures,
    )
