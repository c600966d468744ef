-- `elementary::values::cosine_at` meets its contract: up to 1 it is the polynomial, beyond 1 what one quarter turn more
-- picks (`PickedPolynomial`). Assumes nothing.
use borrow.Author.Rules.{rules}
use mathlib.Core.Path.{◌≡◌, sym, ◌∙◌, subst}
use mathlib.Core.Bool.{Bool, not}
use native.Mathlib.Omega.{arith}
use lib.Dec.{T}
use lib.Ieee.{of_bits}
use Rattle.elementary.specs.Reduction.{turns}
use Rattle.polynomials.specs.Range.{at_most}
use Rattle.elementary.proofs.QuarterTurns.{fourth-small}
use Rattle.elementary.proofs.Range.{inside_is}
use Rattle.elementary.proofs.PickedPolynomial.{cosine-short, cosine-long}
use Rattle.elementary.proofs.values.cosine_at.Statement.{statement}
use Rattle.elementary.proofs.values.cosine_at.Tie as tie

tested : (c : tie.After-inside) → c.inside.result ≡ at_most 1 c.before.args.x
unfolding of_bits
tested c = c.inside.ensures ∙ inside_is 0 c.before.args.x

returns : tie.Need-returns-then-inside
returns c =
    cosine-short c.before.before.before.args.x
    (subst T (sym c.before.if-inside.true ∙ tested c.before.before) tt) c.cosine_near.ensures

beyond : (c : tie.Else-inside) → T (not (at_most 1 c.before.before.args.x))
beyond c = subst (λ (b : Bool). T (not b)) (sym c.if-inside.false ∙ tested c.before) tt

turn-requires : tie.Need-turn-t-requires
turn-requires c κs = (beyond c, c.before.before.requires)

add-choose : tie.Need-overflow_add-t
add-choose c =
    let e = c.before.turn-t.ensures.quarter in
    let l = fourth-small (turns c.before.before.before.before.args.x) in
    omega arith

returns-2 : tie.Need-returns
returns-2 c =
    cosine-long (beyond c.before.before.before) c.before.before.turn-t.ensures (omega arith)
    c.choose.ensures

pub cosine_at_spec : {M : Type 1} → statement M
cosine_at_spec =
    tie.close (tie.spec (λ c κs. search rules) (λ c κs. search rules) returns turn-requires add-choose
    (λ c κs. search rules) returns-2)
