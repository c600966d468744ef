-- `picture::names::put_all` meets its contract. The loop's invariant: the bytes of the name before this one are put.
-- Assumes nothing.
use mathlib.Core.Path.{◌≡◌}
use mathlib.Core.List.{[]}
use native.Mathlib.Numerals.{add-one}
use native.Mathlib.Omega.{arith}
use lib.ListN.{length, take, get_or}
use lib.Seq.{take-length}
use Rattle.text.proofs.Texts.{then}
use Rattle.picture.specs.Names.{escaped_byte, shown_byte, escaped_as}
use Rattle.picture.proofs.Escapes.{nothing, one_more}
use Rattle.picture.proofs.names.put_all.Goals as goal

pub loop-b-init : goal.loop-b-init
unfolding escaped_as
loop-b-init c =
    let p = c.put-to in
    nothing p.new.out p.result (omega (arith, p.ensures.value, p.auto.out))

pub loop-b-preserved : goal.loop-b-preserved
loop-b-preserved c =
    let l = c.loop-b in
    let a = c.args in
    let name = a.name.now in
    let t = then c.put-to.new.out (escaped_as a.readable (take l.b-index name))
    (escaped_byte (shown_byte a.readable (get_or name l.b-index 0))) c.put-to.result l.invariant c.put_shown-to.ensures
    in
    rw (add-one, one_more a.readable name l.b-index (omega arith)) t

pub returns : goal.returns
returns c =
    let l = c.loop-b in
    let s = c.args in
    let e : l.b-index ≡ length s.name.now = omega arith in
    then s.out.now [] (escaped_as s.readable s.name.now) s.at c.put-to.ensures
    (rw (e, take-length s.name.now) at l.invariant)
