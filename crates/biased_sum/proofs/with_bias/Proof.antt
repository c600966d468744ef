-- `biased_sum::with_bias` meets its contract: its tests show whether the sum has a bias. Assumes nothing.
use borrow.Author.Rules.{rules}
use mathlib.Core.Path.{sym, subst}
use mathlib.Core.Bool.{not}
use Prim.Native.Nat.{◌+◌, ◌^◌, ◌<◌}
use native.Mathlib.Omega.{arith}
use lib.Dec.{T}
use lib.Ieee.{binary64, is_nan, to_bits}
use lib.Ieee.Bits.{to_bits-lt}
use Rattle.rounding.proofs.Comparing.{differs-no-nan}
use Rattle.rounding.proofs.Patterns.{no-nan-rest, value-bits}
use Rattle.biased_sum.proofs.BiasTests.{nan-without, low-without, high-without, nothing, something}
use Rattle.biased_sum.proofs.with_bias.Statement.{statement}
use Rattle.biased_sum.proofs.with_bias.Tie as tie

number : (c : tie.Else-sum) → T (not (is_nan c.before.args.sum))
number c = differs-no-nan c.before.args.sum c.if-sum.false

room : (c : tie.Else-sum) → to_bits binary64 c.before.args.sum + 0x0009_5f62_0000_0000 < 2 ^ 64
room c =
    let x = c.before.args.sum in
    let held = subst T (sym c.before.well_formed.0.1) tt in
    omega (
      arith,
      to_bits-lt binary64 x held,
      no-nan-rest binary64 (to_bits binary64 x) (value-bits binary64 x held (number c)),
    )

returns : tie.Need-returns-then-sum
returns c = nothing _ _ (nan-without _ c.before.if-sum.true) c.no_bias.ensures

float-to-bits-h : tie.Need-float_to_bits-h
float-to-bits-h c = number c

add-h : tie.Need-overflow_add-h
add-h c = omega (arith, room c)

returns-2 : tie.Need-returns-then-f-lt899
returns-2 c = nothing _ _ (low-without _ c.before.if-f-lt899.true) c.no_bias-then-f-lt899.ensures

returns-3 : tie.Need-returns-then-f-gt1148
returns-3 c = nothing _ _ (high-without _ c.before.if-f-gt1148.true) c.no_bias-then-f-gt1148.ensures

ends-of-requires : tie.Need-ends_of-e-requires
ends-of-requires c κs = (omega (arith, room c.before.before), omega arith, omega arith)

returns-4 : tie.Need-returns
returns-4 c =
    let e = c.before.before.before.before in
    let n = e.before.before.before in
    something n.before.args.sum c.both.result e.ends_of-e.result (number n) (omega arith) (omega arith)
    e.ends_of-e.ensures c.both.ensures

pub with_bias_spec : {M : Type 1} → statement M
with_bias_spec =
    tie.close (tie.spec (λ c κs. search rules) returns float-to-bits-h add-h (λ c κs. search rules) returns-2
    (λ c κs. search rules) returns-3 ends-of-requires (λ c κs. search rules) returns-4)
