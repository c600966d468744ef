-- `fused_step::any_step` meets its contract: `sum32` adds the exact product and rounds. Assumes nothing.
use Rattle.std.proofs.Common.{T, sym, ◌∙◌, subst, rules}
use lib.Ieee.{binary32, fits}
use Rattle.fused32.proofs.Parts.{fused-is}
use Rattle.fused_step.proofs.any_step.Statement.{statement}
use Rattle.fused_step.proofs.any_step.Tie as tie

held_x : (c : tie.Start) → T (fits binary32 c.args.x)
held_x c = subst T (sym c.well_formed.0.1) tt

held-c : (c : tie.Start) → T (fits binary32 c.args.c)
held-c c = subst T (sym c.well_formed.1.0.1) tt

returns : tie.Need-returns
returns c =
    let f = c.before in
    let b = f.before in
    let a = b.before in
    let s = a.before in
    c.f32_to_f64_with_nan.ensures
    ∙ f.sum32.ensures
    ∙ rw (a.f32_to_f64_with_nan-a.ensures, b.f32_to_f64_with_nan-b.ensures)
    (fused-is s.args.x s.args.c s.args.sum (held_x s) (held-c s))

pub any_step_spec : {M : Type 1} → statement M
any_step_spec =
    tie.close (tie.spec (λ c κs. search rules) (λ c κs. search rules) (λ c κs. search rules) (λ c κs. search rules)
    returns)
