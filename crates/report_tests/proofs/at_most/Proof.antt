-- `report_tests::at_most` meets its contract: it has the product in units of 2^24, and the remainder. Assumes nothing.
use borrow.Author.Rules.{rules}
use mathlib.Core.Path.{sym}
use Prim.Native.Nat.{ℕ, ◌+◌, ◌*◌, ◌^◌, ◌%◌}
use native.Mathlib.Omega.{arith}
use borrow.Author.Tests.{le-leb, lt-leb}
use Rattle.report_tests.proofs.WideSums.{same_test, rest_below, top_below, product-below, in-units}
use Rattle.report_tests.proofs.at_most.Statement.{statement}
use Rattle.report_tests.proofs.at_most.Tie as tie

-- The sum and the product, as the contract has them.
abbrev sum : tie.Start → ℕ
sum c = c.args.high * 2 ^ 64 + c.args.low

abbrev product : tie.Start → ℕ
product c = c.args.number * c.args.square

returns : tie.Need-returns-then-high-gt1048576
returns c =
    let s = c.before in
    sym (lt-leb (sum s) (product s)
    (omega (arith, product-below s.args.number s.args.square s.requires.0 s.requires.1)))

mul-rest : tie.Need-overflow_mul-rest
mul-rest c =
    let s = c.before in
    record { fits = omega (arith, rest_below s.args.number s.args.square s.requires.0 s.requires.1) }

mul-top : tie.Need-overflow_mul-top
mul-top c =
    let s = c.before in
    record { fits = omega (arith, top_below s.args.number s.args.square s.requires.0 s.requires.1) }

add-top : tie.Need-overflow_add-top
add-top c =
    let s = c.before in
    let rest = rest_below s.args.number s.args.square s.requires.0 s.requires.1 in
    let top = top_below s.args.number s.args.square s.requires.0 s.requires.1 in
    record { fits = omega (arith, rest, top) }

returns-2 : tie.Need-returns-then-sum-top
returns-2 c =
    let s = c.before.before in
    let u = in-units s.args.number s.args.square s.requires.0 s.requires.1 in
    sym (le-leb (sum s) (product s) (omega (arith, u)))

returns-3 : tie.Need-returns-then-top-sum
returns-3 c =
    let s = c.before.before.before in
    let u = in-units s.args.number s.args.square s.requires.0 s.requires.1 in
    sym (lt-leb (sum s) (product s) (omega (arith, u)))

returns-4 : tie.Need-returns
returns-4 c =
    let s = c.before.before.before in
    let a = s.args in
    let u = in-units a.number a.square s.requires.0 s.requires.1 in
    same_test (a.low % 16777216) (a.number * (a.square % 16777216) % 16777216) (sum s) (product s) (λ h. omega arith)
    (λ h. omega arith)

pub at_most_spec : {M : Type 1} → statement M
at_most_spec =
    tie.close (tie.spec returns mul-rest mul-top add-top (λ c. search rules) (λ c. search rules) returns-2 returns-3
    returns-4)
