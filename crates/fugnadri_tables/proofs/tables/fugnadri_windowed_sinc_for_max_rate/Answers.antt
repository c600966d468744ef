-- `fugnadri_tables::tables::fugnadri_windowed_sinc_for_max_rate` meets its contract, by the contracts of the functions
-- that it calls, which have no premises. Assumes nothing.
use Rattle.windowed_sinc.specs.Table.{number_of}
use Rattle.fugnadri_tables.proofs.Building.{made}
use Rattle.fugnadri_tables.proofs.tables.fugnadri_windowed_sinc_for_max_rate.Goals as goal

pub returns : goal.returns
returns c = made number_of (c.for_max_rate.ensures.value, c.for_max_rate.ensures.table_after) c.number.ensures
