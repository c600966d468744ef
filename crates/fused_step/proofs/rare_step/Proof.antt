-- `fused_step::rare_step` meets its contract: a sum that is zero is exact. Assumes nothing.
use Rattle.std.proofs.Common.{T, sym, subst, rules}
use lib.Ieee.{binary32, binary64, fits}
use Rattle.fused_step.proofs.Steps.{zero-step}
use Rattle.fused_step.proofs.rare_step.Statement.{statement}
use Rattle.fused_step.proofs.rare_step.Tie as tie

held_x : (c : tie.Start) → T (fits binary32 c.args.x)
held_x c = subst T (sym c.well_formed.0.1) tt

held-c : (c : tie.Start) → T (fits binary32 c.args.c)
held-c c = subst T (sym c.well_formed.1.0.1) tt

held-sum : (c : tie.Start) → T (fits binary64 c.args.sum)
held-sum c = subst T (sym c.well_formed.1.1.0.1) tt

returns : tie.Need-returns-then-s
returns c =
    let b = c.before in
    let a = b.args in
    zero-step a.x a.c a.sum a.s (held_x b) (held-c b) (held-sum b) b.requires c.if-s.true

pub rare_step_spec : {M : Type 1} → statement M
rare_step_spec =
    tie.close (tie.spec returns (λ c κs. search rules) (λ c. search rules))
