-- `fugnadri_bank::modes::fugnadri_bank_build_set_in` meets its contract, by its two cases: a number that is a mode, and
-- one that is not. Assumes nothing.
use mathlib.Core.Path.{refl, sym, ◌∙◌}
use Rattle.fugnadri_bank.proofs.modes.fugnadri_bank_build_set_in.Goals as goal

pub returns-then-known : goal.returns-then-known
returns-then-known c =
    rw (sym c.known.ensures ∙ c.if-known.true, ← c.of_code.ensures)
    c.build_set_in.ensures

pub returns : goal.returns
returns c = rw (sym c.known.ensures ∙ c.if-known.false) record { value = refl; set_after = refl }
