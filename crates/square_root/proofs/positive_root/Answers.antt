-- `square_root::positive_root` meets its contract: if the quick way finds digits they are the root's, and otherwise the
-- restoring steps find them. Assumes nothing.
use Rattle.std.proofs.Common.{◌^◌, ◌<◌, T, sym, subst, pos_of_ne-zero, arith}
use lib.Ieee.{binary64, fits, to_bits}
use lib.Ieee.Positive.{positive}
use Rattle.rounding.proofs.Patterns.{rest-no-nan}
use Rattle.float_digits.proofs.PlainValues.{positive-plain, plain-no-nan}
use Rattle.square_root.specs.Digits.{Quick}
use Rattle.square_root.proofs.QuickDigits.{pattern_lt, quick-root}
use Rattle.square_root.proofs.positive_root.Goals as goal
use Rattle.square_root.proofs.positive_root.Goals.{Else-y-eq0, Start}

above : (c : Start) → T (positive c.args.x)
above c = rw c.requires tt

held : (c : Start) → T (fits binary64 c.args.x)
held c = subst T (sym c.well_formed.0.1) tt

unsigned : (c : Start) → to_bits binary64 c.args.x < 2 ^ 63
unsigned c = pattern_lt c.args.x (held c) (above c)

found : (c : Else-y-eq0) → Quick (to_bits binary64 c.args.x) c.digits_of-y.result
found c = c.digits_of-y.ensures (pos_of_ne-zero c.if-y-eq0.false)

pub float_to_bits-bits : goal.float_to_bits-bits
float_to_bits-bits c = plain-no-nan c.args.x (positive-plain c.args.x (above c))

pub overflow_add-result : goal.overflow_add-result
overflow_add-result c = omega (arith, unsigned (goal.at.overflow_add-result c).Start)

pub overflow_add-result-2 : goal.overflow_add-result-2
overflow_add-result-2 c = omega (arith, unsigned (goal.at.overflow_add-result-2 c).Start, (found c).digits.top)

pub float_from_bits-result : goal.float_from_bits-result
float_from_bits-result c = rest-no-nan binary64 _
    (omega (arith, unsigned (goal.at.float_from_bits-result c).Start, (found c).digits.top))

pub returns : goal.returns
returns c =
    quick-root c.args.x (held (goal.at.returns c).Start) (above (goal.at.returns c).Start) c.digits_of-y.result
    (found c)
