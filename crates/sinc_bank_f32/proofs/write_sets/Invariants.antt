use Rattle.std.proofs.Common.{ℕ, ◌+◌, List}
use Rattle.std.specs.Prelude.{Float}
use Rattle.loop_laws.proofs.Filling.{Filled}
use Rattle.bessel.specs.declared.Mode.{Mode}
use Rattle.bank_choice.specs.Rates.{steps_of, rate_of}
use Rattle.sinc_bank_f32.specs.Sets.{set_in}
use Rattle.sinc_bank_f32.proofs.write_sets.Given as goal

abbrev pub set : Mode → Float → ℕ → List Float
set mode top i = set_in mode (rate_of top (steps_of top) (i + 1))

abbrev pub invariant-loop-i : goal.invariant-loop-i
invariant-loop-i l = Filled (set l.mode l.max_rate) l.width l.n l.sets l.i
