-- `sinc_settings::table_refusal` meets its contract: the length of a table in range fits, and each answer follows from
-- the tests that led to it. Assumes nothing.
use borrow.Author.Rules.{rules}
use borrow.Author.Tests.{eq-eqb, ne_eqb}
use mathlib.Core.Path.{◌≡◌, sym, ◌∙◌}
use mathlib.Core.Bool.{◌&&◌}
use native.Mathlib.Omega.{arith}
use Rattle.sinc_settings.specs.Ranges.{taps_ok, phases_ok}
use Rattle.sinc_settings.proofs.SettingsInRange.{Counts, counts, length-fits}
use Rattle.sinc_settings.proofs.table_refusal.Statement.{statement}
use Rattle.sinc_settings.proofs.table_refusal.Tie as tie

tested : (c : tie.After-both) → let a = c.before.before.before.args in
    taps_ok a.taps && phases_ok a.phases ≡ c.both.result
tested c = sym (c.both.ensures ∙ rw (c.before.phases_ok.ensures, c.before.before.taps_ok.ensures))

in-range : (c : tie.Then-both) → let a = c.before.before.before.before.args in Counts a.taps a.phases
in-range c = counts _ _ (tested c.before ∙ c.if-both.true)

add-if2 : tie.Need-overflow_add-phases
add-if2 c = omega (arith, (in-range c).most-phases)

mul-if2 : tie.Need-overflow_mul-phases
mul-if2 c = omega (arith, length-fits (in-range c))

returns : tie.Need-returns-then-len-phases
returns c = rw (tested c.before.before, c.before.if-both.true, eq-eqb _ _ c.if-len-phases.true)

returns-2 : tie.Need-returns-else-len-phases
returns-2 c = rw (tested c.before.before, c.before.if-both.true, ne_eqb _ _ c.if-len-phases.false)

returns-3 : tie.Need-returns-else-both
returns-3 c = rw (tested c.before, c.if-both.false)

pub table_refusal_spec : {M : Type 1} → statement M
table_refusal_spec =
    tie.close (tie.spec (λ c κs. search rules) (λ c κs. search rules) (λ c κs. search rules) add-if2 mul-if2 returns
    returns-2 returns-3)
