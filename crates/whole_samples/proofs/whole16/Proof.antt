-- `whole_samples::whole16` meets its contract: the signed number times 256 still has 24 bits. Assumes nothing.
use borrow.Author.Rules.{rules}
use mathlib.Core.Path.{◌≡◌, ap}
use lib.Dec.{lit≤}
use lib.IntN.{ℤ, pos, ◌*ℤ◌}
use mir.Syntax.{w32}
use mir.Val.{to_z, of_z}
use Rattle.whole_samples.specs.Whole.{units_of}
use Rattle.whole_samples.proofs.Signs.{signed-few, units_small, fits-i32, kept}
use Rattle.whole_samples.proofs.whole16.Statement.{statement}
use Rattle.whole_samples.proofs.whole16.Tie as tie

worked : (c : tie.After-signed16) → to_z w32 (of_z w32 c.signed16.result) *ℤ pos 256 ≡ units_of 16 c.before.args.n
worked c = ap (λ (z : ℤ). z *ℤ pos 256) (kept c.signed16.ensures
    (signed-few 16 c.before.args.n (lit≤ tt) (lit≤ tt)))

mul-result : tie.Need-overflow_mul-result
mul-result c = rw (worked c) (fits-i32 (units_of 16 c.before.args.n)
    (units_small 16 c.before.args.n (lit≤ tt) (lit≤ tt)))

returns : tie.Need-returns
returns c = kept (worked c) (units_small 16 c.before.args.n (lit≤ tt) (lit≤ tt))

pub whole16_spec : {M : Type 1} → statement M
whole16_spec =
    tie.close (tie.spec (λ c κs. search rules) mul-result returns)
