-- `extended_rate::halved` meets its contract. The loop's invariant: digits and exponent still stand for the same
-- number. Assumes nothing.
use mathlib.Core.Path.{◌≡◌, refl, sym, ap, ◌∙◌}
use Prim.Native.Nat.{ℕ, ◌*◌, ◌^◌}
use native.Mathlib.Omega.{arith}
use Rattle.extended_rate.proofs.Rates.{none, whole, halve, odd-digits}
use Rattle.extended_rate.proofs.halved.Goals as goal

pub loop-f-init : goal.loop-f-init
loop-f-init c = refl

pub returns-then-d-ne0 : goal.returns-then-d-ne0
returns-then-d-ne0 c =
    let l = c.loop-f in
    let a = c.args in
    sym (none 16446 a.field a.digits
    (λ rate m. odd-digits 16446 l._f l.d rate c.loop-f-test.true c.if-d-ne0.true
    (l.invariant ∙ m.equation)))

pub loop-f-preserved : goal.loop-f-preserved
loop-f-preserved c =
    let l = c.loop-f in
    halve l.d l._f c.if-d-ne0.false ∙ l.invariant

pub returns : goal.returns
returns c =
    let l = c.loop-f in
    let a = c.args in
    let e : l._f ≡ 16446 = omega arith in
    c.if_in_range.ensures
    ∙ sym (whole 16446 a.field a.digits l.d (omega (arith, c.requires))
    (sym l.invariant ∙ ap (λ (n : ℕ). l.d * 2 ^ n) e))
