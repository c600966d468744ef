-- `item_f32::take` meets its contract: it refuses, or stores at the sample's place; the count is then small, so that
-- both casts are exact. Assumes nothing.
use borrow.Author.Rules.{rules}
use mathlib.Core.Path.{◌≡◌, sym, ◌∙◌}
use Prim.Native.Nat.{◌^◌, ◌<◌}
use native.Mathlib.Omega.{arith}
use lib.IntN.{pos}
use lib.Ieee.{of_bits}
use mir.Syntax.{w64}
use mir.Val.{to_z}
use mir.ValLaws.{to_z-of_z}
use Rattle.integer_part.proofs.FloorInside.{in-float}
use Rattle.stretch_call.specs.Items.{item_due}
use Rattle.item_f32.proofs.Items.{room, refused, placed}
use Rattle.item_f32.proofs.take.Statement.{statement}
use Rattle.item_f32.proofs.take.Tie as tie

returns : tie.Need-returns-then-no-ne0
unfolding of_bits
returns c =
    let a = c.before.before.before.args in
    refused _ c.before.due-no.ensures c.if-no-ne0.true a.i a.ring.now a.input a.delay

-- The item is accepted.
none : (c : tie.Else-no-ne0) → let a = c.before.before.before.args in item_due a.i a.input a.delay ≡ 0
none c = sym c.before.due-no.ensures ∙ c.if-no-ne0.false

small : (c : tie.Else-no-ne0) → c.before.before.before.args.i < 2 ^ 36
small c = let a = c.before.before.before.args in room a.i a.input a.delay (none c)

cast-t12 : tie.Need-overflow_cast-result
cast-t12 c = record { sfits = omega (arith, small c.before.before.before.before.before) }

abbrev accepted : tie.After-row_known-1 → tie.Else-no-ne0
accepted c = c.before.before.before.before.before.before

count-is : (c : tie.After-row_known-1) → let i = (accepted c).before.before.before.args.i in to_z w64 i ≡ pos i
count-is c = to_z-of_z w64 (pos _) (cast-t12 c.before)

int-to-float-t13 : tie.Need-int_to_float-result
int-to-float-t13 c =
    rw (count-is c)
    (in-float (pos (accepted c).before.before.before.args.i) (omega (arith, small (accepted c))))

returns-2 : tie.Need-returns
returns-2 c =
    let e = accepted c in
    let a = e.before.before.before.args in
    let p = c.before.before.before in
    let q = placed a.i a.ring.now a.input p.before.before.place-at.ensures in
    (rw (none e, count-is c), p.put.ensures ∙ rw (none e) q)

pub take_spec : {M : Type 1} → statement M
take_spec =
    tie.close (tie.spec (λ c κs. search rules) returns (λ c κs. search rules) (λ c κs. search rules) cast-t12
    int-to-float-t13 (λ c. search rules) returns-2)
