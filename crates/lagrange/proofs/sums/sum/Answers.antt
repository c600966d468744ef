-- `lagrange::sums::sum` meets its contract: it is the fold over the first block, or over both. Assumes nothing.
use mathlib.Core.Path.{◌≡◌, refl, ◌∙◌, ap}
use mathlib.Core.List.{List}
use Prim.Native.Nat.{ℕ, ◌*◌, ◌≤◌, min}
use native.Mathlib.Omega.{arith}
use lib.IntN.{ℤ}
use lib.Ieee.{Float, binary64, of_bits}
use mir.Syntax.{w64}
use mir.Val.{SFits, to_z, of_z}
use mir.ValLaws.{to_z-of_z}
use Rattle.loop_laws.specs.Loops.{fold}
use Rattle.loop_laws.proofs.Folds.{none}
use Rattle.lagrange.specs.Kernel.{turn_of, zero-f}
use Rattle.lagrange.proofs.sums.sum.Goals as goal

nothing : of_bits binary64 0 ≡ zero-f
unfolding of_bits
nothing = refl

-- After a block that goes as far as the last pair no tap is left.
whole : (xs : List Float) (count : ℕ) (base : ℤ) (local : Float) (pairs f : ℕ) {r : Float} → SFits w64 base → pairs ≤ f
    → r ≡ fold (turn_of xs count (to_z w64 (of_z w64 base)) local (2 * pairs)) zero-f (2 * min f pairs)
    → r ≡ fold (turn_of xs count base local (2 * pairs)) zero-f (2 * pairs)
whole xs count base local pairs f fits far e =
    e
    ∙ ap (λ (z : ℤ). fold (turn_of xs count z local (2 * pairs)) zero-f (2 * min f pairs)) (to_z-of_z w64 base fits)
    ∙ ap (fold (turn_of xs count base local (2 * pairs)) zero-f) (omega arith)

pub block-front-requires : goal.block-front-requires
block-front-requires c =
    let a = c.args in (
      rw (to_z-of_z w64 a.base c.ranges.base) c.requires.0,
      omega arith,
      c.requires.2,
      c.start-s.ensures,
      nothing ∙ none _ zero-f,
    )

pub returns-then-pairs-le4 : goal.returns-then-pairs-le4
returns-then-pairs-le4 c =
    let a = c.args in
    whole a.source.now a.count a.base a.local a.pairs 4 c.ranges.base c.if-pairs-le4.true c.block-front.ensures

pub block-requires : goal.block-requires
block-requires c =
    let a = c.args in
    let step = turn_of a.source.now a.count (to_z w64 (of_z w64 a.base)) a.local (2 * a.pairs) in (
      rw (to_z-of_z w64 a.base c.ranges.base) c.requires.0,
      c.if-pairs-le4.false,
      c.requires.2,
      c.start-s.ensures,
      c.block-front.ensures ∙ ap (fold step zero-f) (omega arith),
    )

pub returns : goal.returns
returns c =
    let a = c.args in
    whole a.source.now a.count a.base a.local a.pairs 8 c.ranges.base (omega arith) c.block.ensures
