-- `lagrange::read` meets its contract: in range the first index is exact, and the loops are the definition's. Assumes
-- nothing.
use borrow.Author.Rules.{rules}
use mathlib.Core.Path.{◌≡◌, refl, sym, ◌∙◌, subst}
use Prim.Native.Nat.{◌-◌, ◌*◌, ◌/◌, ◌^◌, ◌≤◌}
use native.Mathlib.Nat.{le_trans}
use native.Mathlib.Omega.{arith}
use lib.IntN.{ℤ, ◌-ℤ◌}
use lib.Signed.{mag}
use lib.Ieee.{binary64, of_bits}
use mir.Syntax.{w64}
use mir.Val.{to_z, of_z, SFits}
use mir.ValLaws.{to_z-of_z}
use lib.Dec.{lit<, lit≤}
use Rattle.integer_part.specs.Parts.{floor_of}
use Rattle.integer_part.proofs.Floors.{floor-mag}
use Rattle.lagrange.specs.Kernel.{base_of, lagrange_at, zero-f}
use Rattle.lagrange.proofs.Ranges.{Within, within}
use Rattle.integer_part.proofs.FloorInside.{in-float}
use Rattle.integer_part.proofs.SumsInRange.{small, minus-mag, minus-fits}
use Rattle.lagrange.proofs.read.Statement.{statement}
use Rattle.lagrange.proofs.read.Tie as tie

ranges : (c : tie.Then-in_range) → let a = c.before.before.before.args in Within a.taps a.position
ranges c = within _ _ (sym c.before.in_range.ensures ∙ c.if-in_range.true)

sub-base : tie.Need-overflow_sub-base
sub-base c = let r = ranges c.before in omega (arith, r.least)

-- The first index, as the machine has it.
exact : (c : tie.After-floor) → let a = c.before.before.before.before.args in
    to_z w64 (of_z w64 c.floor.result) -ℤ to_z w64 (a.taps / 2 - 1) ≡ base_of a.position a.taps
exact c =
    let a = c.before.before.before.before.args in
    let r = ranges c.before in
    rw (
      to_z-of_z w64 c.floor.result (record { sfits = c.floor.type_inv }),
      c.floor.ensures,
      small (a.taps / 2 - 1) (omega (arith, r.most)),
    )

floor-near : (c : tie.After-floor) → mag (floor_of c.before.before.before.before.args.position) ≤ 2 ^ 36
floor-near c = floor-mag (2 ^ 36) _ (lit< tt) (ranges c.before).near

sub-base-2 : tie.Need-overflow_sub-base-then-in_range
sub-base-2 c =
    let a = c.before.before.before.before.args in
    let r = ranges c.before in
    subst (λ (z : ℤ). SFits w64 z) (sym (exact c))
    (minus-fits (floor_of a.position) (a.taps / 2 - 1) (omega (arith, floor-near c, r.most)))

based : (c : tie.After-floor) → let a = c.before.before.before.before.args in
    to_z w64 (of_z w64 (to_z w64 (of_z w64 c.floor.result) -ℤ to_z w64 (a.taps / 2 - 1)))
    ≡ base_of a.position a.taps
based c = to_z-of_z w64 _ (sub-base-2 c) ∙ exact c

base-near : (c : tie.After-floor) → let a = c.before.before.before.before.args in
    mag (base_of a.position a.taps) ≤ 2 ^ 37
base-near c =
    let a = c.before.before.before.before.args in
    let r = ranges c.before in
    omega (arith, minus-mag (floor_of a.position) (a.taps / 2 - 1), floor-near c, r.most)

int-to-float-local : tie.Need-int_to_float-local
int-to-float-local c = let f = c.before in rw (based f) (in-float _ (le_trans (base-near f) (lit≤ tt)))

sum-requires : tie.Need-sum-requires
sum-requires c κs =
    let f = c.before in
    let r = ranges f.before in
    (rw (based f) (base-near f), omega (arith, r.least), omega (arith, r.most))

returns : tie.Need-returns-then-in_range
unfolding lagrange_at
returns c =
    let f = c.before.before in
    let t = f.before in
    let a = t.before.before.before.args in
    let r = ranges t in
    let all : 2 * (a.taps / 2) ≡ a.taps = omega (arith, r.even) in
    rw (← t.before.in_range.ensures, t.if-in_range.true) (c.sum.ensures ∙ rw (based f, all))

nothing : of_bits binary64 0 ≡ zero-f
unfolding of_bits
nothing = refl

returns-2 : tie.Need-returns-else-in_range
returns-2 c = rw (← c.before.in_range.ensures, c.if-in_range.false) nothing

pub read_spec : {M : Type 1} → statement M
read_spec =
    tie.close (tie.spec (λ c κs. search rules) (λ c κs. search rules) sub-base (λ c. search rules) sub-base-2
    int-to-float-local sum-requires returns returns-2)
