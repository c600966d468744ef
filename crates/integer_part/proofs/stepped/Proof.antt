-- `integer_part::stepped` meets its contract, by the laws of `FloorInside`. A signed local is stored as bits, and
-- reading them back gives the cut. Assumes nothing.
use Rattle.std.proofs.Common.{◌≡◌, true, false, ℤ, pos, ◌-ℤ◌, ap, ◌∙◌, arith, w64, to_z, of_z}
use lib.Ieee.{to_signed}
use mir.ValLaws.{to_z-of_z}
use Rattle.integer_part.proofs.IntegerSizes.{sum_fits}
use Rattle.integer_part.proofs.FloorInside.{in-range, cut-mag, in-float, step}
use Rattle.integer_part.proofs.stepped.Statement.{statement}
use Rattle.integer_part.proofs.stepped.Tie as tie

truncating-f64-to-i64-requires : tie.Need-truncating_f64_to_i64-t-requires
truncating-f64-to-i64-requires c κs = in-range c.args.x c.requires

-- The cut as the machine has it.
cut : (c : tie.After-truncating_f64_to_i64-t)
    → to_z w64 (of_z w64 c.truncating_f64_to_i64-t.result) ≡ to_signed 63 c.before.args.x
cut c =
    to_z-of_z w64 c.truncating_f64_to_i64-t.result (record { sfits = c.truncating_f64_to_i64-t.type_inv })
    ∙ c.truncating_f64_to_i64-t.ensures

int-to-float-if1 : tie.Need-int_to_float-t
int-to-float-if1 c =
    rw (cut c.before) (in-float (to_signed 63 c.before.before.args.x)
    (cut-mag c.before.before.args.x c.before.before.requires))

sub-result : tie.Need-overflow_sub-result
sub-result c =
    rw (cut c.before.before)
    (sum_fits (to_signed 63 c.before.before.before.args.x) _
    (omega (arith, cut-mag c.before.before.before.args.x c.before.before.before.requires)))

returns : tie.Need-returns-then-x-t
returns c =
    to_z-of_z w64 _ (sub-result c)
    ∙ ap (λ (z : ℤ). z -ℤ pos 1) (cut c.before.before)
    ∙ step c.before.before.before.args.x true c.before.before.before.requires
    (rw (cut c.before.before) at c.if-x-t.true)

returns-2 : tie.Need-returns-else-x-t
returns-2 c =
    cut c.before.before
    ∙ step c.before.before.before.args.x false c.before.before.before.requires
    (rw (cut c.before.before) at c.if-x-t.false)

pub stepped_spec : {M : Type 1} → statement M
stepped_spec =
    tie.close (tie.spec truncating-f64-to-i64-requires int-to-float-if1 sub-result returns returns-2)
