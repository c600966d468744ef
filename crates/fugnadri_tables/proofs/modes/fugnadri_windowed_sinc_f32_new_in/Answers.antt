-- `fugnadri_tables::modes::fugnadri_windowed_sinc_f32_new_in` meets its contract, by its two cases: a number that is a
-- mode, and one that is not. Assumes nothing.
use mathlib.Core.Path.{sym, ◌∙◌}
use Rattle.windowed_sinc_f32.specs.Table.{number_of}
use Rattle.fugnadri_tables.proofs.Building.{made}
use Rattle.fugnadri_tables.proofs.modes.fugnadri_windowed_sinc_f32_new_in.Goals as goal

pub returns-then-known : goal.returns-then-known
returns-then-known c =
    rw (sym c.known.ensures ∙ c.if-known.true, ← c.of_code.ensures)
    (made number_of (c.new_in.ensures.value, c.new_in.ensures.table_after) c.number_f32.ensures)

pub returns : goal.returns
returns c = rw (sym c.known.ensures ∙ c.if-known.false)
