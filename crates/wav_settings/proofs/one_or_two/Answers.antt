-- `wav_settings::one_or_two` meets its contract, by its two cases. Assumes nothing.
use borrow.Author.Tests.{eq-eqb, ne_eqb}
use Rattle.wav_settings.proofs.one_or_two.Goals as goal

pub returns-then-channels-eq1 : goal.returns-then-channels-eq1
returns-then-channels-eq1 c = simp (eq-eqb _ _ c.if-channels-eq1.true)

pub returns-else-channels-eq1 : goal.returns-else-channels-eq1
returns-else-channels-eq1 c = simp (ne_eqb _ _ c.if-channels-eq1.false)
