-- `wav_header::tests::count_ok` meets its contract by those of its calls. Assumes nothing.
use Rattle.wav_header.proofs.tests.count_ok.Goals as goal

pub returns : goal.returns
returns c = cc
