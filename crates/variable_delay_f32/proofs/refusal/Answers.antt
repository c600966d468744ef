-- `variable_delay_f32::refusal` meets its contract: on the fast path nothing is refused; otherwise each test is the
-- definition's, the first two by `settled`. Assumes nothing.
use mathlib.Core.Path.{refl, sym}
use mathlib.Core.Bool.{Bool, true, false, ◌&&◌}
use Prim.Native.Nat.{◌^◌}
use lib.Dec.{leb, ltb}
use lib.IntN.{pos}
use lib.Ieee.{fin, le, of_bits}
use lib.Ieee.Scale.{finite}
use Rattle.answer.specs.Refusals.{lowest_of}
use Rattle.variable_delay.proofs.Settings.{settled}
use Rattle.variable_delay_f32.proofs.refusal.Goals as goal

pub returns-then-served : goal.returns-then-served
returns-then-served c = sym (c.served.ensures c.if-served.true)

pub returns : goal.returns
unfolding of_bits
returns c =
    let a = c.args in
    let s = a.state in
    rw (
      c.first.ensures,
      c.both-t1.ensures,
      c.both-t2.ensures,
      c.is_finite_f32-t4.ensures,
      c.both-t5.ensures,
      c.is_finite.ensures,
    )
    (settled s.maximum s.margin a.len c.length_for-needed.result
    (λ (t u : Bool).
    lowest_of (t && a.own) (u && a.lent) (leb s.accepted (2 ^ 36)) (finite a.input)
    (finite a.delay && le (fin false 0 (pos 0)) a.delay) (le a.delay (fin false 1 (pos 36))) true
    (ltb s.accepted (2 ^ 36)))
    (λ t u. refl)
    c.length_for-needed.ensures)
