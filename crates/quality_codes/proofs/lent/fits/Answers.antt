-- `quality_codes::lent::fits` meets its contract: the quotient is at most 50, and its ceiling is the number of sets.
-- Assumes nothing.
use mathlib.Core.Path.{◌≡◌, sym, ◌∙◌, ap}
use mathlib.Core.Bool.{true, false≢true}
use Prim.Native.Nat.{ℕ, ◌*◌}
use native.Mathlib.Omega.{arith}
use borrow.Author.Tests.{eq-eqb}
use lib.Ieee.{of_bits}
use Rattle.bank_choice.specs.Rates.{bank_ok, steps_of}
use Rattle.bank_choice.proofs.SetCounts.{span-at-most}
use Rattle.quality_codes.proofs.lent.fits.Goals as goal
use Rattle.quality_codes.proofs.lent.fits.Goals.{Then-within}

in-range : (c : Then-within) → bank_ok c.args.max_rate ≡ true
unfolding of_bits
in-range c = sym c.within.ensures ∙ c.if-within.true

pub counted-requires : goal.counted-requires
unfolding of_bits
counted-requires c =
    (span-at-most c.args.max_rate (in-range c), omega (arith, c.ranges.lent))

pub returns-then-within : goal.returns-then-within
unfolding of_bits steps_of
returns-then-within c =
    λ h. (
      in-range (goal.at.returns-then-within c).Then-within,
      eq-eqb _ _ (sym c.if-n-lent.true ∙ ap (λ (z : ℕ). z * 1081648) (c.counted.ensures h)),
    )

pub returns-else-within : goal.returns-else-within
returns-else-within = (λ c h. absurd (false≢true h))

pub returns-else-n-lent : goal.returns-else-n-lent
returns-else-n-lent = (λ c h. absurd (false≢true h))
