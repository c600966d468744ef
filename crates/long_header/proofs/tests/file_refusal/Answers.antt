-- `long_header::tests::file_refusal` meets its contract by those of its calls. Assumes nothing.
use Rattle.long_header.proofs.tests.file_refusal.Goals as goal

pub returns : goal.returns
returns c = cc
