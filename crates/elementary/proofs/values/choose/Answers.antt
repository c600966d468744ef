-- `elementary::values::choose` meets its contract: each branch is a clause of `pick`. Assumes nothing.
use mathlib.Core.Path.{◌≡◌, refl, ap, ◌∙◌}
use Prim.Native.Nat.{ℕ, zero, suc}
use lib.Ieee.{Float, neg}
use Rattle.polynomials.specs.Horner.{cosine_near}
use Rattle.elementary.specs.Reduction.{pick}
use Rattle.elementary.proofs.values.choose.Goals as goal

-- The last clause is for every q above 2.
last : (q : ℕ) (r : Float) → (q ≡ 0 → ⊥) → (q ≡ 1 → ⊥) → (q ≡ 2 → ⊥) → neg (cosine_near r) ≡ pick q r
unfolding pick
last zero r a b c = absurd (a refl)
last (suc zero) r a b c = absurd (b refl)
last (suc (suc zero)) r a b c = absurd (c refl)
last (suc (suc (suc q))) r a b c = refl

pub returns-then-q-eq0 : goal.returns-then-q-eq0
unfolding pick
returns-then-q-eq0 c = rw c.if-q-eq0.true c.sine_near.ensures

pub returns-then-q-eq1 : goal.returns-then-q-eq1
unfolding pick
returns-then-q-eq1 c = rw c.if-q-eq1.true c.cosine_near.ensures

pub returns-then-q-eq2 : goal.returns-then-q-eq2
unfolding pick
returns-then-q-eq2 c = rw c.if-q-eq2.true (ap neg c.sine_near-then-q-eq2.ensures)

pub returns-else-q-eq2 : goal.returns-else-q-eq2
returns-else-q-eq2 c =
    let a = c.args in
    ap neg c.cosine_near-else-q-eq2.ensures
    ∙ last a.q a.r c.if-q-eq0.false c.if-q-eq1.false c.if-q-eq2.false
