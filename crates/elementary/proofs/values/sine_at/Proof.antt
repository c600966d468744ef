-- `elementary::values::sine_at` meets its contract: up to 1 it is the polynomial, beyond 1 what the quarter turns pick
-- (`PickedPolynomial`). Assumes nothing.
use borrow.Author.Rules.{rules}
use mathlib.Core.Path.{◌≡◌, sym, ◌∙◌, subst}
use mathlib.Core.Bool.{Bool, not}
use lib.Dec.{T}
use lib.Ieee.{of_bits}
use Rattle.polynomials.specs.Range.{at_most}
use Rattle.elementary.proofs.Range.{inside_is}
use Rattle.elementary.proofs.PickedPolynomial.{sine-short, sine-long}
use Rattle.elementary.proofs.values.sine_at.Statement.{statement}
use Rattle.elementary.proofs.values.sine_at.Tie as tie

tested : (c : tie.After-inside) → c.inside.result ≡ at_most 1 c.before.args.x
unfolding of_bits
tested c = c.inside.ensures ∙ inside_is 0 c.before.args.x

returns : tie.Need-returns-then-inside
returns c =
    let s = c.before.before.before in
    sine-short s.args.x (subst T (sym s.well_formed.0.1) tt)
    (subst T (sym c.before.if-inside.true ∙ tested c.before.before) tt) c.sine_near.ensures

beyond : (c : tie.Else-inside) → T (not (at_most 1 c.before.before.args.x))
beyond c = subst (λ (b : Bool). T (not b)) (sym c.if-inside.false ∙ tested c.before) tt

turn-requires : tie.Need-turn-t-requires
turn-requires c κs = (beyond c, c.before.before.requires)

returns-2 : tie.Need-returns
returns-2 c = sine-long (beyond c.before.before) c.before.turn-t.ensures c.choose.ensures

pub sine_at_spec : {M : Type 1} → statement M
sine_at_spec =
    tie.close (tie.spec (λ c κs. search rules) (λ c κs. search rules) returns turn-requires (λ c κs. search rules)
    returns-2)
