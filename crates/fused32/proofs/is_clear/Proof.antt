-- `fused32::is_clear` meets its contract. Assumes nothing.
use Rattle.std.proofs.Common.{T, sym, subst, arith}
use lib.Ieee.{binary64, fits}
use Rattle.rounding.proofs.Comparing.{differs-no-nan}
use Rattle.fused32.proofs.SumCases.{nan-tested, small-tested, other-tested}
use Rattle.fused32.proofs.is_clear.Statement.{statement}
use Rattle.fused32.proofs.is_clear.Tie as tie

held : (c : tie.Start) → T (fits binary64 c.args.s)
held c = subst T (sym c.well_formed.0.1) tt

returns : tie.Need-returns-then-s
returns c = nan-tested c.before.args.s c.if-s.true

float-to-bits-m : tie.Need-float_to_bits-m
float-to-bits-m c = differs-no-nan c.before.args.s c.if-s.false

returns-2 : tie.Need-returns-then-m-lt4039728865751334912
returns-2 c =
    let a = c.before.before in
    small-tested a.args.s (held a) c.before.if-s.false (omega arith)

returns-3 : tie.Need-returns
returns-3 c =
    let a = c.before.before in
    other-tested a.args.s (held a) c.before.if-s.false (omega arith)

pub is_clear_spec : {M : Type 1} → statement M
is_clear_spec =
    tie.close (tie.spec returns float-to-bits-m returns-2 returns-3)
