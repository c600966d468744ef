-- `fused32::odd_sum` meets its contract. `proofs/OddSum.antt` says what each branch returns. Assumes nothing.
use Rattle.std.proofs.Common.{◌+◌, ◌-◌, ◌∙◌, arith}
use lib.Ieee.{binary64, to_bits}
use Rattle.rounding.proofs.Patterns.{rest-no-nan}
use Rattle.fused32.proofs.OddSum.{same_code, odd_code, up-code, down-code, s-no-nan, s-bits, some_bits}
use Rattle.fused32.proofs.odd_sum.Goals as goal

pub returns-then-z-y : goal.returns-then-z-y
returns-then-z-y c =
    c.narrow.ensures
    ∙ same_code c.args.x c.args.y c.args.s c.requires.fact_1 c.requires.fact_2 c.if-z-y.true

pub float_to_bits-n : goal.float_to_bits-n
float_to_bits-n c =
    s-no-nan c.args.x c.args.y c.args.s c.requires.fact_1 c.requires.fact_2

pub returns-then-n-eq1 : goal.returns-then-n-eq1
returns-then-n-eq1 c =
    c.narrow-then-n-eq1.ensures
    ∙ odd_code c.args.x c.args.y c.args.s c.requires.fact_1 c.requires.fact_2 c.if-n-eq1.true

pub overflow_add-n : goal.overflow_add-n
overflow_add-n c =
    omega (arith, s-bits c.args.x c.args.y c.args.s c.requires.fact_1 c.requires.fact_2)

pub float_from_bits-n : goal.float_from_bits-n
float_from_bits-n c =
    rest-no-nan binary64 (to_bits binary64 c.args.s + 1)
    (omega (arith, s-bits c.args.x c.args.y c.args.s c.requires.fact_1 c.requires.fact_2))

pub returns-then-z-y-2 : goal.returns-then-z-y-2
returns-then-z-y-2 c =
    c.narrow-then-z-y-2.ensures
    ∙ up-code c.args.x c.args.y c.args.s c.requires.fact_1 c.requires.fact_2 c.if-n-eq1.false
    c.if-z-y-2.true

pub overflow_sub-n : goal.overflow_sub-n
overflow_sub-n c =
    some_bits c.args.x c.args.y c.args.s c.requires.fact_1 c.requires.fact_2 c.if-z-y.false
    c.if-z-y-2.false

pub float_from_bits-n-2 : goal.float_from_bits-n-2
float_from_bits-n-2 c =
    rest-no-nan binary64 (to_bits binary64 c.args.s - 1)
    (omega (arith, s-bits c.args.x c.args.y c.args.s c.requires.fact_1 c.requires.fact_2))

pub returns : goal.returns
returns c =
    c.narrow-2.ensures
    ∙ down-code c.args.x c.args.y c.args.s c.requires.fact_1 c.requires.fact_2 c.if-n-eq1.false
    c.if-z-y.false c.if-z-y-2.false
