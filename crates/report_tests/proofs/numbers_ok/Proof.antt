-- `report_tests::numbers_ok` meets its contract, by the first two tests, then that of the sum. Assumes nothing.
use mathlib.Core.Path.{◌∙◌}
use Prim.Native.Nat.{ℕ, ◌+◌, ◌*◌, ◌^◌}
use native.Mathlib.Omega.{arith}
use Rattle.report_tests.proofs.WideSums.{square-below}
use Rattle.report_tests.proofs.Numbers.{too_many, too_large, in-range}
use Rattle.report_tests.proofs.numbers_ok.Statement.{statement}
use Rattle.report_tests.proofs.numbers_ok.Tie as tie

-- The sum, as the code has it.
abbrev sum : tie.Start → ℕ
sum c = c.args.high * 2 ^ 64 + c.args.low

returns : tie.Need-returns-then-number-gt-LIMIT
returns c = too_many c.before.args.number c.before.args.largest (sum c.before) c.if-number-gt-LIMIT.true

returns-2 : tie.Need-returns-then-largest-gt16777215
returns-2 c =
    let s = c.before.before in
    too_large s.args.number s.args.largest (sum s) c.before.if-number-gt-LIMIT.false c.if-largest-gt16777215.true

mul-square : tie.Need-overflow_mul-square
mul-square c =
    record {
      fits = omega (
        arith,
        square-below c.before.before.args.largest
            (omega (arith, c.if-largest-gt16777215.false)),
      );
    }

at-most-requires : tie.Need-at_most-requires
at-most-requires c κs =
    let e = c.before in (
      e.before.if-number-gt-LIMIT.false,
      square-below e.before.before.args.largest
          (omega (arith, e.if-largest-gt16777215.false)),
    )

returns-3 : tie.Need-returns
returns-3 c =
    let e = c.before.before.before in
    let s = e.before.before in
    in-range s.args.number s.args.largest (sum s) e.before.if-number-gt-LIMIT.false
    (omega (arith, e.if-largest-gt16777215.false))
    (c.both.ensures ∙ rw (c.before.at_most.ensures, c.before.before.at_least.ensures))

pub numbers_ok_spec : {M : Type 1} → statement M
numbers_ok_spec =
    tie.close (tie.spec returns returns-2 mul-square (λ c κs. tt) at-most-requires (λ c κs. tt) returns-3)
