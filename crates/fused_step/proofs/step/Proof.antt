-- `fused_step::step` meets its contract: `proofs/Steps.antt` says what the fast path gives. Assumes nothing.
use Rattle.std.proofs.Common.{not, T, sym, refl, subst, arith, rules}
use borrow.Author.Tests.{not-false}
use lib.Ieee.{Float, binary32, binary64, fits, is_nan, add, mul}
use lib.Ieee.Fits.{add-fits}
use Rattle.rounding.proofs.Comparing.{differs-no-nan}
use Rattle.fused_step.specs.Steps.{Numbers}
use Rattle.fused_step.proofs.Compared.{widens}
use Rattle.fused_step.proofs.QuickPattern.{half-fits, plain-no-nan}
use Rattle.fused_step.proofs.Steps.{plain_step}
use Rattle.fused_step.proofs.step.Statement.{statement}
use Rattle.fused_step.proofs.step.Tie as tie

held_x : (c : tie.Start) → T (fits binary32 c.args.x)
held_x c = subst T (sym c.well_formed.0.1) tt

held-c : (c : tie.Start) → T (fits binary32 c.args.c)
held-c c = subst T (sym c.well_formed.1.0.1) tt

held-sum : (c : tie.Start) → T (fits binary64 c.args.sum)
held-sum c = subst T (sym c.well_formed.1.1.0.1) tt

-- After the first test neither operand is a NaN.
both : (c : tie.Else-not-are_numbers) → let a = c.before.before.args in Numbers a.x a.c
both c = c.before.are_numbers.ensures.1 (not-false c.before.are_numbers.result c.if-not-are_numbers.false-raw)

-- The sum, which after the second test is no NaN either.
abbrev s : tie.Else-s → Float
s c = let a = c.before.before.before.before.before.args in add binary64 (mul binary64 a.x a.c) a.sum

number : (c : tie.Else-s) → T (not (is_nan (s c)))
number c = differs-no-nan (s c) c.if-s.false

float-to-float-s : tie.Need-float_to_float-s
float-to-float-s c = let b = c.before.before.before in widens b.args.x (held_x b) (both c.before).first

float-to-float-s-2 : tie.Need-float_to_float-s-2
float-to-float-s-2 c =
    let b = c.before.before.before.before in widens b.args.c (held-c b) (both c.before.before).second

float-to-bits-n : tie.Need-float_to_bits-n
float-to-bits-n c = number c

add-n : tie.Need-overflow_add-n
add-n c = omega (arith, half-fits (s c) (add-fits binary64 _ _) (number c))

float-from-bits-result : tie.Need-float_from_bits-result
float-from-bits-result c =
    let e = c.before.before in
    plain-no-nan (s e) (add-fits binary64 _ _) (number e) (c.before.is_plain.ensures.1 c.if-is_plain.true)

returns-3 : tie.Need-returns-then-is_plain
returns-3 c =
    let e = c.before.before in
    let b = e.before.before.before.before.before in
    let a = b.args in
    plain_step a.x a.c a.sum (s e) (held_x b) (held-c b) (held-sum b) refl (number e)
    (c.before.is_plain.ensures.1 c.if-is_plain.true)

pub step_spec : {M : Type 1} → statement M
step_spec =
    tie.close (tie.spec (λ c κs. search rules) (λ c κs. search rules) (λ c. search rules) float-to-float-s
    float-to-float-s-2 (λ c κs. search rules) (λ c. search rules) float-to-bits-n add-n (λ c κs. search rules)
    float-from-bits-result returns-3 (λ c κs. search rules) (λ c. search rules))
