-- `decimals::digits` meets its contract. The loop's invariant: v followed by the rest makes what the whole text
-- makes, and v is not above the limit. Assumes nothing.
use mathlib.Core.Path.{◌≡◌, sym, ◌∙◌}
use native.Mathlib.Numerals.{add-one}
use native.Mathlib.Omega.{arith}
use lib.ListN.{length, get_or}
use lib.Seq.{drop-length}
use Rattle.decimals.proofs.Digits.{under, over, next, too_large, ended}
use Rattle.decimals.proofs.reading.digits.Goals as goal

pub returns-then-c-lt48 : goal.returns-then-c-lt48
returns-then-c-lt48 c =
    let l = c.loop-c in
    let a = c.args in
    sym (l.invariant.1 ∙ under a.most l.v a.text.now l.c-index (omega arith) (omega arith))

pub returns-then-c-gt57 : goal.returns-then-c-gt57
returns-then-c-gt57 c =
    let l = c.loop-c in
    let a = c.args in
    sym (l.invariant.1 ∙ over a.most l.v a.text.now l.c-index (omega arith) (omega arith) (omega arith))

pub returns-then-v-most : goal.returns-then-v-most
returns-then-v-most c =
    let l = c.loop-c in
    let a = c.args in
    let at = too_large a.most l.v a.text.now l.c-index in
    sym (l.invariant.1 ∙ at (omega arith) (omega arith) (omega arith) (omega arith))

pub loop-c-preserved : goal.loop-c-preserved
loop-c-preserved c =
    let l = c.loop-c in
    let a = c.args in
    let e : c.from-d.result ≡ get_or a.text.now l.c-index 0 = omega arith in (
      omega arith,
      rw (e, add-one) (l.invariant.1 ∙ next a.most l.v a.text.now l.c-index (omega arith) (omega arith) (omega arith)),
    )

pub returns : goal.returns
returns c =
    let l = c.loop-c in
    let a = c.args in
    let e : l.c-index ≡ length a.text.now = omega arith in
    sym (rw (e, drop-length) at l.invariant.1 ∙ ended a.most l.v (omega arith))
