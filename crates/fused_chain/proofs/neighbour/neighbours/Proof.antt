-- `fused_chain::neighbour::neighbours` meets its contract: both chains end where the shorter lists do, or each is
-- computed by itself. Assumes nothing.
use Rattle.std.proofs.Common.{min, T, length, sym, ap, ◌∙◌, subst, arith, rules}
use lib.Ieee.{Float, binary32, fits}
use Rattle.fused_chain.specs.Chain.{chain_of}
use Rattle.fused_chain.specs.Blocks.{Carries}
use Rattle.fused_chain.proofs.ChainParts.{whole}
use Rattle.fused_chain.proofs.neighbour.neighbours.Statement.{statement}
use Rattle.fused_chain.proofs.neighbour.neighbours.Tie as tie

abbrev begun : tie.After-f32_to_f64_with_nan-from_b → tie.Start
begun c = c.before.before.before.before.before.before.before.before.before.before.before.before.before

returns : tie.Need-returns-then-n-m
returns c =
    let a = c.before.before.before.before.before.before.before.before.before.before.before.before.args in (
      c.together.ensures.0 ∙ ap (chain_of a.xs.now a.a0.now a.a1.now a.blend a.a) (omega arith),
      c.together.ensures.1 ∙ ap (chain_of a.ys.now a.b0.now a.b1.now a.other a.b) (omega arith),
    )

one-by-one-requires : tie.Need-one_by_one-s-requires
one-by-one-requires c κs =
    record {
      order = omega arith;
      samples = omega arith;
      row = omega arith;
      next = omega arith;
      held =
          subst (λ (z : Float). T (fits binary32 z)) (sym c.before.f32_to_f64_with_nan-from_a.ensures)
          (subst T (sym (begun c).well_formed.1.1.1.1.1.1.1.1.0.1) tt);
    }

one-by-one-requires-2 : tie.Need-one_by_one-t-requires
one-by-one-requires-2 c κs =
    record {
      order = omega arith;
      samples = omega arith;
      row = omega arith;
      next = omega arith;
      held =
          subst (λ (z : Float). T (fits binary32 z)) (sym c.before.f32_to_f64_with_nan-from_b.ensures)
          (subst T (sym (begun c.before).well_formed.1.1.1.1.1.1.1.1.1.0.1) tt);
    }

returns-2 : tie.Need-returns
returns-2 c =
    let t = c.before.before in
    let s = t.before in
    let w = s.before in
    let a = (begun w).args in
    let l = w.before.before.before in
    let k = l.before.before in
    let n = k.least-n.result in
    let m = l.least-m.result in (
      whole a.xs.now a.a0.now a.a1.now a.blend n a.a s.one_by_one-s.result _
          c.before.narrow.ensures
          (subst (λ (z : Float). Carries a.xs.now a.a0.now a.a1.now a.blend 0 n z
          s.one_by_one-s.result) w.before.f32_to_f64_with_nan-from_a.ensures s.one_by_one-s.ensures)
          ∙ ap (chain_of a.xs.now a.a0.now a.a1.now a.blend a.a)
          (k.least-n.ensures ∙ ap (min (length a.xs.now)) k.before.least.ensures),
      whole a.ys.now a.b0.now a.b1.now a.other m a.b t.one_by_one-t.result _
          c.narrow-2.ensures
          (subst (λ (z : Float). Carries a.ys.now a.b0.now a.b1.now a.other 0 m z
          t.one_by_one-t.result) w.f32_to_f64_with_nan-from_b.ensures t.one_by_one-t.ensures)
          ∙ ap (chain_of a.ys.now a.b0.now a.b1.now a.other a.b)
          (l.least-m.ensures ∙ ap (min (length a.ys.now)) l.before.least-2.ensures),
    )

pub neighbours_spec : {M : Type 1} → statement M
neighbours_spec =
    tie.close (tie.spec (λ c κs. search rules) (λ c κs. search rules) (λ c κs. search rules) (λ c κs. search rules)
    (λ c κs. search rules) returns (λ c κs. search rules) (λ c κs. search rules) one-by-one-requires
    one-by-one-requires-2 (λ c κs. search rules) (λ c κs. search rules) returns-2)
