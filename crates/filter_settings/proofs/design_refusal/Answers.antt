-- `filter_settings::design_refusal` meets its contract, test by test. Assumes nothing.
use borrow.Author.Tests.{eq-eqb, ne_eqb}
use Rattle.filter_settings.proofs.design_refusal.Goals as goal

pub returns-then-len-taps : goal.returns-then-len-taps
returns-then-len-taps c = rw (← c.design_ok.ensures, c.if-design_ok.true, eq-eqb _ _ c.if-len-taps.true)

pub returns-else-len-taps : goal.returns-else-len-taps
returns-else-len-taps c = rw (← c.design_ok.ensures, c.if-design_ok.true, ne_eqb _ _ c.if-len-taps.false)

pub returns-else-design_ok : goal.returns-else-design_ok
returns-else-design_ok c = rw (← c.design_ok.ensures, c.if-design_ok.false)
