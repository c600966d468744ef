-- `residual::tally::told` meets its contract, by the test of the number. Assumes nothing.
use Rattle.std.proofs.Common.{◌≡◌, ℕ, Bool, true, false, cond, not, eqb, Some, None, refl, ◌∙◌}
use Rattle.std.specs.Bool.{then_some}
use Rattle.residual.specs.Tallies.{told_of}
use Rattle.residual.proofs.tally.told.Goals as goal

unless-none : (b : Bool) (i : ℕ) → then_some (not b) i ≡ cond b None (Some i)
unless-none true i = refl
unless-none false i = refl

pub returns : goal.returns
unfolding told_of
returns c = rw (c.then_some.ensures ∙ unless-none (eqb c.args.t.number 0) c.args.t.index)
