-- `ring::place` meets its contract: the mask of a power of two is the remainder, and so is an index below the length.
-- Assumes nothing.
use borrow.Author.Tests.{eq-eqb, ne_eqb}
use mathlib.Core.Path.{sym}
use native.Mathlib.Nat.{mod-eq_of_lt}
use native.Mathlib.Omega.{arith}
use Rattle.ring.proofs.Masks.{mask-mod}
use Rattle.ring.proofs.place.Goals as goal

pub returns-then-n-eq0 : goal.returns-then-n-eq0
returns-then-n-eq0 c = rw (eq-eqb _ _ c.if-n-eq0.true)

pub returns-then-n-eq0-2 : goal.returns-then-n-eq0-2
returns-then-n-eq0-2 c = rw (ne_eqb _ _ c.if-n-eq0.false) (mask-mod _ _ (omega arith) c.if-n-eq0-2.true)

pub returns-then-index-n : goal.returns-then-index-n
returns-then-index-n c = rw (ne_eqb _ _ c.if-n-eq0.false) (sym (mod-eq_of_lt c.if-index-n.true))

pub returns : goal.returns
returns c = rw (ne_eqb _ _ c.if-n-eq0.false)
