-- `fused32::fused32` meets its contract: the product is exact, and `sum32` adds and rounds. Assumes nothing.
use Rattle.std.proofs.Common.{T, sym, ◌∙◌, subst, rules}
use lib.Ieee.{binary32, fits}
use Rattle.fused32.proofs.Parts.{fused-is}
use Rattle.fused32.proofs.fused32.Statement.{statement}
use Rattle.fused32.proofs.fused32.Tie as tie

held-a : (c : tie.Start) → T (fits binary32 c.args.a)
held-a c = subst T (sym c.well_formed.0.1) tt

held-b : (c : tie.Start) → T (fits binary32 c.args.b)
held-b c = subst T (sym c.well_formed.1.0.1) tt

returns : tie.Need-returns
returns c =
    let k = c.before in
    let s = k.before.before.before in
    c.sum32.ensures
    ∙ rw (
      k.before.before.f32_to_f64_with_nan-x.ensures,
      k.before.f32_to_f64_with_nan-y.ensures,
      k.f32_to_f64_with_nan-z.ensures,
    )
    (fused-is s.args.a s.args.b s.args.c (held-a s) (held-b s))

pub fused32_spec : {M : Type 1} → statement M
fused32_spec =
    tie.close (tie.spec (λ c κs. search rules) (λ c κs. search rules) (λ c κs. search rules) (λ c κs. search rules)
    returns)
