-- `picture::names::put_escaped` meets its contract, by what the functions that it calls ensure. Assumes nothing.
use Rattle.picture.proofs.names.put_escaped.Goals as goal

pub returns : goal.returns
returns c = rw (← c.is_utf8-readable.ensures) c.put_all.ensures
