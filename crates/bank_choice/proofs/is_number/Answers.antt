-- `bank_choice::is_number` meets its contract, by `no_nan`. Assumes nothing.
use Rattle.bank_choice.proofs.NoNan.{no_nan}
use Rattle.bank_choice.proofs.is_number.Goals as goal

pub returns : goal.returns
returns c = no_nan c.args.x
