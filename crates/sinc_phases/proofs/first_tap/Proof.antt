-- `sinc_phases::first_tap` meets its contract: in range the difference fits an `i64`. Assumes nothing.
use borrow.Author.Rules.{rules}
use mathlib.Core.Path.{◌≡◌, sym, ◌∙◌, subst}
use Prim.Native.Nat.{◌-◌, ◌/◌, ◌^◌}
use native.Mathlib.Omega.{arith}
use lib.Dec.{lit<}
use lib.IntN.{ℤ, ◌-ℤ◌}
use mir.Syntax.{w64}
use mir.Val.{to_z, of_z, SFits}
use mir.ValLaws.{to_z-of_z}
use Rattle.integer_part.specs.Parts.{floor_of}
use Rattle.integer_part.proofs.Floors.{floor-mag}
use Rattle.integer_part.proofs.SumsInRange.{small, minus-fits}
use Rattle.sinc_phases.specs.Phases.{first_tap}
use Rattle.sinc_phases.proofs.PositionInRange.{Aimed, aimed}
use Rattle.sinc_phases.proofs.first_tap.Statement.{statement}
use Rattle.sinc_phases.proofs.first_tap.Tie as tie

ranges : (c : tie.Then-taps_in_range) → let a = c.before.before.args in Aimed a.position a.taps
ranges c = aimed _ _ (sym c.before.taps_in_range.ensures ∙ c.if-taps_in_range.true)

sub-result : tie.Need-overflow_sub-result
sub-result c = let r = ranges c.before in omega (arith, r.least)

-- The first tap, as the machine has it.
exact : (c : tie.After-floor) → let a = c.before.before.before.args in
    to_z w64 (of_z w64 c.floor.result) -ℤ to_z w64 (a.taps / 2 - 1) ≡ first_tap a.position a.taps
exact c =
    let a = c.before.before.before.args in
    let r = ranges c.before in
    rw (
      to_z-of_z w64 c.floor.result (record { sfits = c.floor.type_inv }),
      c.floor.ensures,
      small (a.taps / 2 - 1) (omega (arith, r.most)),
    )

sub-result-2 : tie.Need-overflow_sub-result-then-taps_in_range
sub-result-2 c =
    let a = c.before.before.before.args in
    let r = ranges c.before in
    subst (λ (z : ℤ). SFits w64 z) (sym (exact c))
    (minus-fits (floor_of a.position) (a.taps / 2 - 1)
    (omega (arith, floor-mag (2 ^ 36) a.position (lit< tt) r.near, r.most)))

returns : tie.Need-returns-then-taps_in_range
returns c =
    let t = c.before in
    rw (← t.before.taps_in_range.ensures, t.if-taps_in_range.true) (to_z-of_z w64 _ (sub-result-2 c) ∙ exact c)

returns-2 : tie.Need-returns-else-taps_in_range
returns-2 c = rw (← c.before.taps_in_range.ensures, c.if-taps_in_range.false)

pub first_tap_spec : {M : Type 1} → statement M
first_tap_spec =
    tie.close (tie.spec (λ c κs. search rules) (λ c κs. search rules) sub-result (λ c. search rules) sub-result-2
    returns returns-2)
