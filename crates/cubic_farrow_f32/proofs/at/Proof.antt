-- `cubic_farrow_f32::at` meets its contract by `BothWays`: a position in range has a small integer part.
-- Assumes nothing.
use borrow.Author.Rules.{rules}
use mathlib.Core.Path.{◌≡◌, ◌∙◌}
use Prim.Native.Nat.{◌^◌, ◌≤◌}
use native.Mathlib.Nat.{le_trans}
use lib.Dec.{lit<, lit≤}
use lib.IntN.{ℤ}
use lib.Signed.{mag}
use mir.Syntax.{w64}
use mir.Val.{to_z, of_z}
use mir.ValLaws.{to_z-of_z}
use Rattle.integer_part.specs.Parts.{floor_of}
use Rattle.integer_part.proofs.Floors.{floor-mag}
use Rattle.integer_part.proofs.FloorInside.{in-float}
use Rattle.ring.proofs.Positions.{position-at-most}
use Rattle.cubic_farrow_f32.proofs.BothWays as ways
use Rattle.cubic_farrow_f32.proofs.at.Statement.{statement}
use Rattle.cubic_farrow_f32.proofs.at.Tie as tie

-- The integer part, as the code holds it.
abbrev Z : tie.After-floor-i → ℤ
Z c = to_z w64 (of_z w64 c.floor-i.result)

whole : (c : tie.After-floor-i) → Z c ≡ floor_of c.before.before.args.position
whole c = to_z-of_z w64 c.floor-i.result (record { sfits = c.floor-i.type_inv }) ∙ c.floor-i.ensures

small : (c : tie.After-floor-i) → mag (Z c) ≤ 2 ^ 36
small c = rw (whole c) (floor-mag (2 ^ 36) _ (lit< tt) (position-at-most _ c.before.before.requires))

int-to-float-narrow : tie.Need-int_to_float-i
int-to-float-narrow c = in-float (Z c.before) (le_trans (small c.before) (lit≤ tt))

one-by-one-requires : tie.Need-one_by_one-requires
one-by-one-requires c κs = small c.before.before

returns : tie.Need-returns
returns c =
    let n = c.before in
    let z = n.before.before in
    ways.one_by_one _ _ _ (Z z) (whole z) n.narrow-mu.result n.narrow-mu.ensures c.one_by_one.ensures

pub at_spec : {M : Type 1} → statement M
at_spec =
    tie.close (tie.spec (λ c κs. search rules) int-to-float-narrow (λ c κs. search rules) one-by-one-requires returns)
