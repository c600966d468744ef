-- `quality_codes::lent::counted` meets its contract by `SetsByTwoTests`: both casts are exact. Assumes nothing.
use mathlib.Core.Path.{◌∙◌}
use mathlib.Core.Bool.{false≢true}
use Prim.Native.Nat.{◌-◌}
use native.Mathlib.Omega.{arith}
use borrow.Author.Tests.{eqb-true}
use lib.IntN.{pos}
use lib.Ieee.{of_bits}
use Rattle.integer_part.proofs.FloorInside.{in-float}
use Rattle.integer_part.proofs.SumsInRange.{small}
use Rattle.bank_choice.proofs.Ceilings.{low}
use Rattle.quality_codes.proofs.SetsByTwoTests as sets
use Rattle.quality_codes.proofs.lent.counted.Goals as goal

pub returns-then-n-le1 : goal.returns-then-n-le1
unfolding of_bits
returns-then-n-le1 c = λ h. eqb-true _ 1 h ∙ low c.args.x c.requires.0 c.if-x.false

pub int_to_float-k : goal.int_to_float-k
int_to_float-k c =
    rw (small (c.args.n - 1) (omega (arith, c.requires.1)))
    (in-float (pos (c.args.n - 1)) (omega (arith, c.requires.1)))

pub int_to_float-n : goal.int_to_float-n
int_to_float-n c =
    rw (small c.args.n (omega (arith, c.requires.1))) (in-float (pos c.args.n) (omega (arith, c.requires.1)))

pub returns-then-k-x : goal.returns-then-k-x
returns-then-k-x c =
    let n = c.args.n in
    λ h.
    sets.counted c.args.x (n - 1) n (omega (arith, c.if-n-le1.false)) c.requires.0 c.requires.1
    (rw (small (n - 1) (omega (arith, c.requires.1))) at c.if-k-x.true)
    (rw (small n (omega (arith, c.requires.1))) at c.if-n-x.false)

pub returns-then-x : goal.returns-then-x
returns-then-x = (λ c h. absurd (false≢true h))

pub returns-then-n-x : goal.returns-then-n-x
returns-then-n-x = (λ c h. absurd (false≢true h))

pub returns : goal.returns
returns = (λ c h. absurd (false≢true h))
