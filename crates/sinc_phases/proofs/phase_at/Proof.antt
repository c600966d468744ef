-- `sinc_phases::phase_at` meets its contract, by the test of the ranges and the contract of each step; the numbers that
-- are cast are small. Assumes nothing.
use borrow.Author.Rules.{rules}
use mathlib.Core.Path.{◌≡◌, sym, ◌∙◌}
use Prim.Native.Nat.{◌^◌, ◌≤◌}
use native.Mathlib.Nat.{le_trans}
use native.Mathlib.Omega.{arith}
use lib.Dec.{le→leb, lit≤}
use lib.IntN.{pos}
use lib.Ieee.{of_bits, in_float}
use mir.Syntax.{w64}
use mir.Val.{to_z}
use mir.ValLaws.{to_z-of_z}
use Rattle.integer_part.proofs.FloorInside.{in-float}
use Rattle.sinc_phases.proofs.CutToTop.{held}
use Rattle.sinc_phases.proofs.RowsInTable.{Fine, fine}
use Rattle.sinc_phases.proofs.phase_at.Statement.{statement}
use Rattle.sinc_phases.proofs.phase_at.Tie as tie

ranges : (c : tie.Then-phases_in_range) → let a = c.before.before.args in Fine a.position a.phases
ranges c = fine _ _ (sym c.before.phases_in_range.ensures ∙ c.if-phases_in_range.true)

int-to-float-x : tie.Need-int_to_float-x
unfolding in_float
int-to-float-x c = le→leb _ (2 ^ 53) (le_trans (ranges c.before.before).most (lit≤ tt))

sub-cut-to : tie.Need-overflow_sub-phases
sub-cut-to c = let r = ranges c.before.before in omega (arith, r.least)

cut-to-requires : tie.Need-cut_to-phase-requires
cut-to-requires c κs = let r = ranges c.before.before in omega (arith, r.most)

few : (c : tie.After-cut_to-phase) → c.cut_to-phase.result ≤ 4096
few c =
    let r = ranges c.before.before.before in rw c.cut_to-phase.ensures (le_trans (held _ _) (omega (arith, r.most)))

cast-t11 : tie.Need-overflow_cast-result
cast-t11 c = record { sfits = omega (arith, few c) }

word : (c : tie.After-cut_to-phase) → to_z w64 c.cut_to-phase.result ≡ pos c.cut_to-phase.result
word c = to_z-of_z w64 (pos _) (cast-t11 c)

int-to-float-t7 : tie.Need-int_to_float-result
int-to-float-t7 c = rw (word c.before) (in-float (pos _) (le_trans (few c.before) (lit≤ tt)))

returns : tie.Need-returns-then-phases_in_range
returns c =
    let u = c.before in
    let f = u.before.before in
    let t = f.before in
    rw (
      ← t.before.phases_in_range.ensures,
      t.if-phases_in_range.true,
      word u,
      u.cut_to-phase.ensures,
      f.fraction.ensures,
    )

returns-2 : tie.Need-returns-else-phases_in_range
unfolding of_bits
returns-2 c = rw (← c.before.phases_in_range.ensures, c.if-phases_in_range.false)

pub phase_at_spec : {M : Type 1} → statement M
phase_at_spec =
    tie.close (tie.spec (λ c κs. search rules) (λ c κs. search rules) int-to-float-x sub-cut-to cut-to-requires
    cast-t11 int-to-float-t7 returns returns-2)
