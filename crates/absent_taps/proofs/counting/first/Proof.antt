-- `absent_taps::first` meets its contract: one law of `Starts` for each return. Assumes nothing.
use borrow.Author.Rules.{rules}
use mathlib.Core.Path.{◌≡◌}
use native.Mathlib.Omega.{arith}
use mir.Syntax.{w64}
use mir.Val.{to_z, of_z}
use mir.ValLaws.{to_z-of_z}
use Rattle.ring.proofs.RunStartWays.{fits}
use Rattle.absent_taps.proofs.Starts as starts
use Rattle.absent_taps.proofs.Starts.{Below, below_of}
use Rattle.absent_taps.proofs.counting.first.Statement.{statement}
use Rattle.absent_taps.proofs.counting.first.Tie as tie

-- The number as the code holds it.
word : (c : tie.Start) → to_z w64 (of_z w64 c.args.whole) ≡ c.args.whole
word c = to_z-of_z w64 c.args.whole c.ranges.whole

low : (c : tie.Then-whole-lt0) → Below c.before.args.whole
low c = below_of c.before.args.whole c.before.ranges.whole c.if-whole-lt0.true

returns-2 : tie.Need-returns-then-k-back
returns-2 c =
    let t = c.before in starts.across-zero _ _ (word t.before) t.if-whole-lt0.false (omega arith)

returns-3 : tie.Need-returns
returns-3 c =
    let t = c.before in starts.from_zero _ _ (word t.before) t.if-whole-lt0.false (omega arith)

pub first_spec : {M : Type 1} → statement M
first_spec =
    tie.close (tie.spec (λ c. starts.minus-fits (low c)) (λ c. starts.cast_fits (low c)) (λ c. starts.one_more (low c))
    (λ c. starts.all_more (low c) _ c.before.requires) (λ c. starts.from-below (low c) _)
    (λ c. fits _ c.before.ranges.whole c.if-whole-lt0.false) (λ c. search rules) returns-2 returns-3)
