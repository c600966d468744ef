-- `fused64::fused64` meets its contract: if the sum is not a NaN the three have patterns, and what the quick way makes
-- of them is `fused`. Assumes nothing.
use Rattle.std.proofs.Common.{not, T, sym, subst, pos_of_ne-zero}
use lib.Ieee.{binary64, is_nan, to_bits}
use Rattle.rounding.proofs.Patterns.{rest-no-nan}
use Rattle.fused64.specs.Word.{Quick}
use Rattle.fused64.proofs.SpecialCases.{no-nan-parts}
use Rattle.fused64.proofs.Normals.{quick-fused}
use Rattle.fused64.proofs.fused64.Goals as goal
use Rattle.fused64.proofs.fused64.Goals.{Else-r-eq0, Then-s}

parts : (c : Then-s)
    → T (not (is_nan c.args.a)) × T (not (is_nan c.args.b)) × T (not (is_nan c.args.c))
parts c = no-nan-parts c.args.a c.args.b c.args.c c.if-s.true

found : (c : Else-r-eq0)
    → Quick (to_bits binary64 c.args.a)
    (to_bits binary64 c.args.b) (to_bits binary64 c.args.c)
    c.quick-r.result
found c = c.quick-r.ensures (pos_of_ne-zero c.if-r-eq0.false)

pub float_to_bits-a : goal.float_to_bits-a
float_to_bits-a c = (parts c).0

pub float_to_bits-b : goal.float_to_bits-b
float_to_bits-b c = (parts c).1

pub float_to_bits-c : goal.float_to_bits-c
float_to_bits-c c = (parts c).2

pub float_from_bits-result : goal.float_from_bits-result
float_from_bits-result c = rest-no-nan binary64 c.quick-r.result (found c).finite

pub returns-then-s : goal.returns-then-s
returns-then-s c =
    let p = parts (goal.at.returns-then-s c).Then-s in
    quick-fused c.args.a c.args.b c.args.c (subst T (sym c.well_formed.0.1) tt)
    (subst T (sym c.well_formed.1.0.1) tt) (subst T (sym c.well_formed.1.1.0.1) tt) p.0 p.1 p.2
    c.quick-r.result (found c)
