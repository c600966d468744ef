-- `elementary::sine` meets its contract: the range is tested, and `sine_at` has the value. Assumes nothing.
use borrow.Author.Rules.{rules}
use mathlib.Core.Path.{◌≡◌, sym, ◌∙◌, subst}
use lib.Dec.{T}
use lib.Ieee.{of_bits}
use Rattle.polynomials.specs.Range.{at_most}
use Rattle.elementary.specs.Answers.{sine_at, sine_of}
use Rattle.elementary.proofs.Range.{inside_is, given, refused}
use Rattle.elementary.proofs.sine.Statement.{statement}
use Rattle.elementary.proofs.sine.Tie as tie

tested : (c : tie.After-inside) → c.inside.result ≡ at_most 256 c.before.args.x
unfolding of_bits
tested c = c.inside.ensures ∙ inside_is 8 c.before.args.x

sine-at-requires : tie.Need-sine_at-requires
sine-at-requires c κs = subst T (sym c.if-inside.true ∙ tested c.before) tt

returns : tie.Need-returns-then-inside
unfolding sine_of
returns c =
    given (at_most 256 c.before.before.before.args.x) (sym (tested c.before.before) ∙ c.before.if-inside.true)
    c.sine_at.ensures.0 c.sine_at.ensures.1

returns-2 : tie.Need-returns-else-inside
unfolding sine_of
returns-2 c =
    let x = c.before.before.args.x in refused (at_most 256 x) (sine_at x) (sym (tested c.before) ∙ c.if-inside.false)

pub sine_spec : {M : Type 1} → statement M
sine_spec =
    tie.close (tie.spec (λ c κs. search rules) sine-at-requires returns returns-2)
