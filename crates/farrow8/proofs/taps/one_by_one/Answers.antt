-- `farrow8::taps::one_by_one` meets its contract: the indices fit, and each tap is the definition's. Assumes nothing.
use mathlib.Core.Path.{◌≡◌}
use native.Mathlib.Omega.{arith}
use Prim.Native.Nat.{◌≤◌}
use lib.Dec.{lit≤}
use lib.Signed.{mag}
use lib.IntN.{ℤ, pos, negsuc, ◌+ℤ◌}
use mir.Syntax.{w64}
use mir.Val.{to_z, of_z, SFits}
use mir.ValLaws.{to_z-of_z}
use Rattle.integer_part.proofs.IntegerSizes.{sum_fits}
use Rattle.farrow8.proofs.taps.one_by_one.Goals as goal
use Rattle.farrow8.proofs.taps.one_by_one.Goals.{Start}

-- The index, as the code holds it.
word : (c : Start) → to_z w64 (of_z w64 c.args.i) ≡ c.args.i
word c = to_z-of_z w64 c.args.i c.ranges.i

near : (c : Start) (k : ℤ) → mag k ≤ 4 → SFits w64 (to_z w64 (of_z w64 c.args.i) +ℤ k)
near c k h = rw (word c) (sum_fits c.args.i k (omega (arith, c.requires)))

pub overflow_sub-i : goal.overflow_sub-i
overflow_sub-i c = near (goal.at.overflow_sub-i c).Start (negsuc 2) (lit≤ tt)

pub overflow_sub-i-2 : goal.overflow_sub-i-2
overflow_sub-i-2 c = near (goal.at.overflow_sub-i-2 c).Start (negsuc 1) (lit≤ tt)

pub overflow_sub-i-3 : goal.overflow_sub-i-3
overflow_sub-i-3 c = near (goal.at.overflow_sub-i-3 c).Start (negsuc 0) (lit≤ tt)

pub overflow_add-i : goal.overflow_add-i
overflow_add-i c = near (goal.at.overflow_add-i c).Start (pos 1) (lit≤ tt)

pub overflow_add-i-2 : goal.overflow_add-i-2
overflow_add-i-2 c = near (goal.at.overflow_add-i-2 c).Start (pos 2) (lit≤ tt)

pub overflow_add-i-3 : goal.overflow_add-i-3
overflow_add-i-3 c = near (goal.at.overflow_add-i-3 c).Start (pos 3) (lit≤ tt)

pub overflow_add-i-4 : goal.overflow_add-i-4
overflow_add-i-4 c = near (goal.at.overflow_add-i-4 c).Start (pos 4) (lit≤ tt)

pub returns : goal.returns
returns c =
    let start = (goal.at.returns c).Start in
    rw (
      c.tap.ensures,
      c.tap-2.ensures,
      c.tap-3.ensures,
      c.tap-4.ensures,
      c.tap-5.ensures,
      c.tap-6.ensures,
      c.tap-7.ensures,
      c.tap-8.ensures,
      to_z-of_z w64 _ (near start (negsuc 2) (lit≤ tt)),
      to_z-of_z w64 _ (near start (negsuc 1) (lit≤ tt)),
      to_z-of_z w64 _ (near start (negsuc 0) (lit≤ tt)),
      to_z-of_z w64 _ (near start (pos 1) (lit≤ tt)),
      to_z-of_z w64 _ (near start (pos 2) (lit≤ tt)),
      to_z-of_z w64 _ (near start (pos 3) (lit≤ tt)),
      to_z-of_z w64 _ (near start (pos 4) (lit≤ tt)),
      word start,
    )
