-- `fused_chain::taps::multiply` meets its contract. Assumes nothing.
use Rattle.std.proofs.Common.{T, sym, refl, subst}
use lib.Ieee.{binary32, fits}
use Rattle.fused_step.proofs.Compared.{widens}
use Rattle.fused_chain.proofs.taps.multiply.Statement.{statement}
use Rattle.fused_chain.proofs.taps.multiply.Tie as tie

held_x : (c : tie.Start) → T (fits binary32 c.args.x)
held_x c = subst T (sym c.well_formed.0.1) tt

held-c : (c : tie.Start) → T (fits binary32 c.args.c)
held-c c = subst T (sym c.well_formed.1.0.1) tt

float-to-float-result : tie.Need-float_to_float-result
float-to-float-result c = let b = c.before in widens b.args.x (held_x b) b.requires.first

float-to-float-result-2 : tie.Need-float_to_float-result-2
float-to-float-result-2 c = let b = c.before.before in widens b.args.c (held-c b) b.requires.second

returns : tie.Need-returns
returns c = let b = c.before.before in record { sample = held_x b; coefficient = held-c b; is = refl }

pub multiply_spec : {M : Type 1} → statement M
multiply_spec =
    tie.close (tie.spec float-to-float-result float-to-float-result-2 returns)
