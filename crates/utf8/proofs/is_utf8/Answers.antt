-- `utf8::is_utf8` meets its contract. The loop's invariant is that, from the place after the bytes so far, the rest of
-- the text ends where the whole text does. Assumes nothing.
use mathlib.Core.Path.{◌≡◌, refl, sym, ◌∙◌, ap}
use native.Mathlib.Numerals.{add-one}
use native.Mathlib.Omega.{arith}
use lib.Dec.{eqb}
use lib.ListN.{length}
use Rattle.utf8.proofs.Steps.{step, ended}
use Rattle.utf8.proofs.is_utf8.Goals as goal

pub loop-b-preserved : goal.loop-b-preserved
loop-b-preserved c =
    let l = c.loop-b in
    let text = c.args.text.now in
    rw (add-one, c.next-place.ensures) (l.invariant ∙ step text l.place l.b-index (omega arith))

pub returns : goal.returns
returns c =
    let l = c.loop-b in
    let text = c.args.text.now in
    let e : l.b-index ≡ length text = omega arith in
    ap (λ n. eqb n 0) (sym (l.invariant ∙ ended text l.place e))

pub loop-b-init : goal.loop-b-init
loop-b-init c = refl
