-- `oversampled_delay::inside::rate_of` meets its contract: both numbers are computed. Assumes nothing.
use Rattle.std.proofs.Common.{◌≡◌, false, pos, refl, ⊎_elim}
use lib.Count.{count_trailing_zeros}
use lib.Ieee.{fin, size, span, climb, odd, units, round, of_int, of_bits}
use Rattle.constants.specs.Numbers.{two-f}
use Rattle.high_delay.specs.Between.{num}
use Rattle.oversampled_delay.proofs.inside.rate_of.Goals as goal

two : two-f ≡ num 2
unfolding count_trailing_zeros size span climb odd units round of_int
two = refl

four : fin false 1 (pos 2) ≡ num 4
unfolding count_trailing_zeros size span climb odd units round of_int
four = refl

pub returns-then-factor-eq2 : goal.returns-then-factor-eq2
unfolding of_bits
returns-then-factor-eq2 c = rw c.if-factor-eq2.true two

pub returns-else-factor-eq2 : goal.returns-else-factor-eq2
unfolding of_bits
returns-else-factor-eq2 c =
    let n = c.args.factor in
    ⊎_elim (λ (e : n ≡ 2). absurd (c.if-factor-eq2.false e)) (λ (e : n ≡ 4). rw e four) c.requires
