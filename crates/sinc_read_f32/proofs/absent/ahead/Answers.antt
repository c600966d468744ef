-- `sinc_read_f32::absent::ahead` meets its contract: for an index below 0 it promises nothing but `most`. Assumes
-- nothing.
use borrow.Author.Tests.{ltb-true}
use mathlib.Core.Path.{◌≡◌, ◌∙◌, ap, subst}
use mathlib.Core.Bool.{true}
use Prim.Native.Nat.{ℕ, ◌<◌}
use native.Mathlib.Omega.{arith}
use lib.IntN.{ℤ, pos, nat_abs}
use lib.Signed.{lt_z}
use mir.Syntax.{w64}
use mir.Val.{to_z, of_z}
use mir.ValLaws.{to_z-of_z}
use Rattle.ring.proofs.RunStartWays.{fits}
use Rattle.sinc_read_f32.proofs.absent.ahead.Goals as goal
use Rattle.sinc_read_f32.proofs.absent.ahead.Goals.{Start}

-- The index as the code holds it.
word : (c : Start) → to_z w64 (of_z w64 c.args.index) ≡ c.args.index
word c = to_z-of_z w64 c.args.index c.ranges.index

number : (c : Start) (i : ℕ) → c.args.index ≡ pos i → nat_abs (to_z w64 (of_z w64 c.args.index)) ≡ i
number c i e = ap nat_abs (word c ∙ e)

pub returns-then-index-lt0 : goal.returns-then-index-lt0
returns-then-index-lt0 c = (
  omega arith,
  λ i e h. let t = subst (λ (z : ℤ). lt_z z (pos 0) ≡ true) (word (goal.at.returns-then-index-lt0 c).Start ∙ e)
      c.if-index-lt0.true in
      let l : i < 0 = ltb-true i 0 t in omega arith,
)

pub returns-then-count-i : goal.returns-then-count-i
returns-then-count-i c = (
  omega arith,
  λ i e h. omega
      (arith, number (goal.at.returns-then-count-i c).Start i e, c.if-count-i.true),
)

pub returns-then-n-most : goal.returns-then-n-most
returns-then-n-most c = (
  omega (arith, c.if-n-most.true),
  λ i e h. omega
      (arith, number (goal.at.returns-then-n-most c).Start i e),
)

pub returns : goal.returns
returns c = (omega arith, λ i e h. omega arith)

pub overflow_cast-i : goal.overflow_cast-i
overflow_cast-i c = fits _ c.ranges.index c.if-index-lt0.false
