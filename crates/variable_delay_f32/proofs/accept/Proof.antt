-- `variable_delay_f32::accept` meets its contract: it refuses, or, if every test passed, stores at the sample's place.
-- Assumes nothing.
use borrow.Author.Rules.{rules, scaled_Fits}
use mathlib.Core.Path.{◌≡◌, sym, ◌∙◌}
use Prim.Native.Nat.{◌<◌}
use native.Mathlib.Omega.{arith}
use lib.IntN.{pos}
use lib.ListN.{length}
use lib.Ieee.{of_bits}
use mir.Syntax.{w64}
use mir.Val.{to_z}
use mir.ValLaws.{to_z-of_z}
use Rattle.integer_part.proofs.FloorInside.{in-float}
use Rattle.ring.proofs.RunStartWays.{place-mod, place_inside}
use Rattle.variable_delay.specs.Reader.{verdict}
use Rattle.variable_delay.proofs.AcceptedCall.{Taken, taken, ring-some}
use Rattle.variable_delay.proofs.Refused.{not-accepted, same-ring}
use Rattle.variable_delay_f32.proofs.accept.Statement.{statement}
use Rattle.variable_delay_f32.proofs.accept.Tie as tie

returns : tie.Need-returns-then-no-ne0
unfolding of_bits
returns c =
    let e = c.before.refusal-no.ensures in (not-accepted _ e c.if-no-ne0.true _ _, same-ring _ e c.if-no-ne0.true _ _ _)

-- The call is accepted.
none : (c : tie.Else-no-ne0) → let a = c.before.before.before.args in
    verdict a.own a.lent a.state (length a.ring.now) a.input a.delay ≡ 0
none c = sym c.before.refusal-no.ensures ∙ c.if-no-ne0.false

passed : (c : tie.Else-no-ne0) → let a = c.before.before.before.args in
    Taken a.own a.lent a.state (length a.ring.now) a.input a.delay
passed c = taken _ _ _ _ _ _ (none c)

inside : (c : tie.After-place-at) → c.place-at.result < length c.before.before.before.before.args.ring.now
inside c = place_inside _ _ (ring-some (passed c.before)) c.place-at.ensures

mul-ring : tie.Need-offset_bounds-ring-at
mul-ring c = scaled_Fits _ _ 4 (inside c) c.before.before.before.before.well_formed.1.1.1.0.1

slice-write-ring : tie.Need-bounds-ring-at
slice-write-ring c = inside c

add-t14 : tie.Need-overflow_add-result
add-t14 c = omega (arith, (passed c.before).room)

-- The count is small, so both casts are exact.
cast-t15 : tie.Need-overflow_cast-result
cast-t15 c = record { sfits = omega (arith, (passed c.before).room) }

count-is : (c : tie.After-row_known-1)
    → to_z w64 c.before.before.before.before.before.args.state.accepted
    ≡ pos c.before.before.before.before.before.args.state.accepted
count-is c = to_z-of_z w64 (pos _) (cast-t15 c.before)

int-to-float-t16 : tie.Need-int_to_float-result
int-to-float-t16 c =
    let n = c.before.before.before.before.before.args.state.accepted in
    rw (count-is c) (in-float (pos n) (omega (arith, (passed c.before.before).room)))

returns-2 : tie.Need-returns
returns-2 c =
    let e = c.before.before in
    let p = c.before.place-at.ensures ∙ place-mod _ _ (ring-some (passed e)) in
    (rw (none e, count-is c), rw (none e, p))

pub accept_spec : {M : Type 1} → statement M
accept_spec =
    tie.close (tie.spec (λ c κs. search rules) returns (λ c κs. search rules) mul-ring slice-write-ring add-t14
    cast-t15 int-to-float-t16 (λ c. search rules) returns-2)
