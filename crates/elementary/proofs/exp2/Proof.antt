-- `elementary::exp2` meets its contract: the range is tested, and `power_at` has the value. Assumes nothing.
use borrow.Author.Rules.{rules}
use mathlib.Core.Path.{◌≡◌, sym, ◌∙◌, subst}
use lib.Dec.{T}
use lib.Ieee.{of_bits}
use Rattle.polynomials.specs.Range.{at_most}
use Rattle.elementary.specs.Answers.{power_at, exp2_of}
use Rattle.elementary.proofs.Range.{inside_is, given, refused}
use Rattle.elementary.proofs.exp2.Statement.{statement}
use Rattle.elementary.proofs.exp2.Tie as tie

tested : (c : tie.After-inside) → c.inside.result ≡ at_most 1 c.before.args.x
unfolding of_bits
tested c = c.inside.ensures ∙ inside_is 0 c.before.args.x

power-at-requires : tie.Need-power_at-requires
power-at-requires c κs = subst T (sym c.if-inside.true ∙ tested c.before) tt

returns : tie.Need-returns-then-inside
unfolding exp2_of
returns c =
    given (at_most 1 c.before.before.before.args.x) (sym (tested c.before.before) ∙ c.before.if-inside.true)
    c.power_at.ensures.0 c.power_at.ensures.1

returns-2 : tie.Need-returns-else-inside
unfolding exp2_of
returns-2 c =
    let x = c.before.before.args.x in refused (at_most 1 x) (power_at x) (sym (tested c.before) ∙ c.if-inside.false)

pub exp2_spec : {M : Type 1} → statement M
exp2_spec =
    tie.close (tie.spec (λ c κs. search rules) power-at-requires returns returns-2)
