-- `square_root::restored` meets its contract: the digits of x, of their root, and that root packed. Assumes nothing.
use Rattle.std.proofs.Common.{T, sym, ◌∙◌, subst, arith, rules}
use lib.Ieee.Positive.{positive}
use Rattle.float_digits.proofs.PlainValues.{positive-plain, plain-no-nan}
use Rattle.float_digits.proofs.UnpackMeaning.{Scaling, scaling}
use Rattle.square_root.proofs.PackedRoot.{parity-lt, shifted-ge, root-code}
use Rattle.square_root.proofs.restored.Statement.{statement}
use Rattle.square_root.proofs.restored.Tie as tie

above : (c : tie.Start) → T (positive c.args.x)
above c = rw c.requires tt

taken : (c : tie.After-unpack-p) → Scaling c.before.args.x c.unpack-p.result
taken c =
    rw c.unpack-p.ensures (scaling c.before.args.x (subst T (sym c.before.well_formed.0.1) tt)
    (positive-plain c.before.args.x (above c.before)))

float-to-bits-unpack : tie.Need-float_to_bits-x
float-to-bits-unpack c = plain-no-nan c.args.x (positive-plain c.args.x (above c))

add-root-digits : tie.Need-overflow_add-p
add-root-digits c = omega (arith, (taken c.before).bounded)

shl-root-digits : tie.Need-overflow_shl-p
shl-root-digits c = omega (arith, parity-lt c.before.before.unpack-p.result.e)

root-digits-requires : tie.Need-root_digits-w-requires
root-digits-requires c κs =
    shifted-ge c.before.before.before.args.x c.before.before.unpack-p.result (taken c.before.before)

add-pack : tie.Need-overflow_add-p-2
add-pack c = omega (arith, (taken c.before.before.before.before).bounded)

returns : tie.Need-returns
returns c =
    let d = c.before.before.root_digits-w in
    let u = c.before.before.before.before.before in
    c.pack.ensures
    ∙ root-code u.before.args.x u.unpack-p.result (taken u) d.result (above u.before) d.ensures

pub restored_spec : {M : Type 1} → statement M
restored_spec =
    tie.close (tie.spec float-to-bits-unpack (λ c κs. search rules) add-root-digits shl-root-digits root-digits-requires
    add-pack (λ c κs. search rules) returns)
