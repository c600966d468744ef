-- `fused_chain::before::rounded` meets its contract: it is the fast path of a step. Assumes nothing.
use Rattle.std.proofs.Common.{not, T, sym, ap, subst, arith, rules}
use mathlib.Core.Bool.{false≢true}
use lib.Ieee.{Float, binary64, fits, is_nan, add}
use lib.Ieee.Fits.{add-fits}
use Rattle.fused_step.proofs.QuickPattern.{half-fits, plain-no-nan, plain-finite}
use Rattle.fused_chain.proofs.Finite.{add-number}
use Rattle.fused_step.proofs.Steps.{plain_step}
use Rattle.fused_chain.proofs.before.rounded.Statement.{statement}
use Rattle.fused_chain.proofs.before.rounded.Tie as tie

abbrev s : tie.Start → Float
s c = add binary64 c.args.p c.args.sum

held : (c : tie.Start) → T (fits binary64 c.args.sum)
held c = subst T (sym c.well_formed.1.0.1) tt

number : (c : tie.Start) → T (not (is_nan (s c)))
number c = add-number binary64 c.args.p c.args.sum c.requires.0 c.requires.1

float-to-bits-n : tie.Need-float_to_bits-n
float-to-bits-n c = number c

add-n : tie.Need-overflow_add-n
add-n c = omega (arith, half-fits (s c) (add-fits binary64 _ _) (number c))

float-from-bits-near : tie.Need-float_from_bits-near
float-from-bits-near c =
    let b = c.before.before in
    plain-no-nan (s b) (add-fits binary64 _ _) (number b) (c.before.is_plain.ensures.1 c.if-is_plain.true)

returns : tie.Need-returns-then-is_plain
returns c =
    let b = c.before.before in
    let plain = c.before.is_plain.ensures.1 c.if-is_plain.true in
    λ h. record {
      bounded = plain-finite (s b) (add-fits binary64 _ _) (number b) plain;
      is =
          λ x d p. plain_step x d b.args.sum (s b) p.sample p.coefficient (held b)
          (ap (λ (z : Float). add binary64 z b.args.sum) p.is) (number b) plain;
    }

returns-2 : tie.Need-returns
returns-2 c = λ h. absurd (false≢true h)

pub rounded_spec : {M : Type 1} → statement M
rounded_spec =
    tie.close (tie.spec float-to-bits-n add-n (λ c κs. search rules) float-from-bits-near returns returns-2)
