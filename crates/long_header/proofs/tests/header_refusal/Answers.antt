-- `long_header::tests::header_refusal` meets its contract by those of its calls. Assumes nothing.
use Rattle.long_header.proofs.tests.header_refusal.Goals as goal

pub returns : goal.returns
returns c = cc
