-- `residual::tally::taken` meets its contract, by whether there is a place. Assumes nothing.
use Rattle.std.proofs.Common.{◌≡◌, ℕ, Option, Some, None, unwrap_or, refl, ◌∙◌}
use Rattle.residual.specs.Tallies.{index_of, tally_of}
use Rattle.residual.proofs.tally.taken.Goals as goal

index-or-0 : (p : Option ℕ) → unwrap_or p 0 ≡ index_of p
index-or-0 None = refl
index-or-0 (Some k) = refl

pub returns : goal.returns
unfolding tally_of
returns c = rw (c.unwrap_or.ensures ∙ index-or-0 c.args.r.place)
