-- `sinc_row::window::kaiser` meets its contract: the counts are exact as floats, and the result of each step is the
-- definition's. Assumes nothing.
use Prim.Native.Nat.{◌-◌}
use native.Mathlib.Omega.{arith}
use lib.Ieee.{of_bits}
use Rattle.sinc_settings.proofs.SettingsInRange.{Counts, counts, accepted}
use Rattle.sinc_row.specs.Coefficient.{window_in}
use Rattle.sinc_row.proofs.Distance.{exact}
use Rattle.sinc_row.proofs.window.kaiser.Goals as goal
use Rattle.sinc_row.proofs.window.kaiser.Goals.{Start}

inside : (c : Start) → Counts c.args.settings.taps c.args.settings.phases
inside c = counts _ _ (accepted c.args.settings c.requires.0).counted

pub int_to_float-normalized : goal.int_to_float-normalized
int_to_float-normalized c = exact c.args.k (omega (arith, (inside (goal.at.int_to_float-normalized c).Start).most-taps))

pub overflow_sub-normalized : goal.overflow_sub-normalized
overflow_sub-normalized c = omega (arith, (inside (goal.at.overflow_sub-normalized c).Start).least-taps)

pub int_to_float-normalized-2 : goal.int_to_float-normalized-2
int_to_float-normalized-2 c =
    exact (c.args.settings.taps - 1) (omega (arith, (inside (goal.at.int_to_float-normalized-2 c).Start).most-taps))

pub returns : goal.returns
unfolding window_in of_bits
returns c =
    rw (c.sum.ensures, c.square_root-root.ensures, c.max.ensures, c.requires.2)
