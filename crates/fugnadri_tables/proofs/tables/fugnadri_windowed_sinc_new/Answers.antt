-- `fugnadri_tables::tables::fugnadri_windowed_sinc_new` meets its contract, by the contracts of the functions that it
-- calls, which have no premises. Assumes nothing.
use Rattle.windowed_sinc.specs.Table.{number_of}
use Rattle.fugnadri_tables.proofs.Building.{made}
use Rattle.fugnadri_tables.proofs.tables.fugnadri_windowed_sinc_new.Goals as goal

pub returns : goal.returns
returns c = made number_of (c.new.ensures.value, c.new.ensures.table_after) c.number.ensures
