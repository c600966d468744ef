-- `extended_rate::doubled` meets its contract. The loop's invariant: digits and exponent still stand for the same
-- number. Assumes nothing.
use mathlib.Core.Path.{◌≡◌, refl, sym, ap, ◌∙◌}
use Prim.Native.Nat.{ℕ, ◌*◌, ◌^◌}
use native.Mathlib.Omega.{arith}
use Rattle.extended_rate.proofs.Rates.{none, whole, double, past-range}
use Rattle.extended_rate.proofs.doubled.Goals as goal

pub loop-f-init : goal.loop-f-init
loop-f-init c = (omega arith, refl)

pub returns-then-d-gt384000 : goal.returns-then-d-gt384000
returns-then-d-gt384000 c =
    let l = c.loop-f in
    let a = c.args in
    sym (none 16446 a.field a.digits
    (λ rate m. past-range 16446 l._f l.d rate c.loop-f-test.true c.if-d-gt384000.true m.high
    (l.invariant.1 ∙ m.equation)))

pub loop-f-preserved : goal.loop-f-preserved
loop-f-preserved c =
    let l = c.loop-f in
    (omega arith, double l.d l._f (omega arith) ∙ l.invariant.1)

pub returns : goal.returns
returns c =
    let l = c.loop-f in
    let a = c.args in
    let e : l._f ≡ 16446 = omega arith in
    c.if_in_range.ensures
    ∙ sym (whole 16446 a.field a.digits l.d (omega (arith, c.requires.1))
    (sym l.invariant.1 ∙ ap (λ (n : ℕ). l.d * 2 ^ n) e))
