-- `progress::hundredths` meets its contract, by what the functions that it calls ensure. Assumes nothing.
use mathlib.Core.Path.{◌∙◌, ap}
use mathlib.Core.Bool.{cond}
use Prim.Native.Nat.{ℕ, ◌/◌}
use lib.Dec.{eqb}
use Rattle.progress.specs.Progress.{hundredths_of}
use Rattle.progress.proofs.hundredths.Goals as goal

pub returns : goal.returns
unfolding hundredths_of
returns c =
    let all = c.args.all in
    c.quotient.ensures ∙ ap (λ (n : ℕ). cond (eqb all 0) 0 (n / all)) c.times.ensures
