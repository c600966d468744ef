-- `picture::names::put_shown` meets its contract, by what the functions that it calls ensure. Assumes nothing.
use Rattle.picture.proofs.names.put_shown.Goals as goal

pub returns : goal.returns
returns c = rw (← c.shown-c.ensures) c.put_byte.ensures
