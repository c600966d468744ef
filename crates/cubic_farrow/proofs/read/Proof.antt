-- `cubic_farrow::read` meets its contract: each way gives the definition's value, by `BothWays` and by `at`, and the
-- indices fit since a position in range has a small integer part. Assumes nothing.
use borrow.Author.Rules.{rules}
use mathlib.Core.Path.{◌≡◌, sym, ◌∙◌}
use mathlib.Core.Bool.{true}
use Prim.Native.Nat.{◌^◌, ◌≤◌}
use native.Mathlib.Omega.{arith}
use lib.Dec.{lit<}
use lib.IntN.{ℤ, pos, negsuc, ◌-ℤ◌}
use lib.ListN.{length}
use lib.Signed.{mag}
use lib.Ieee.{of_bits}
use mir.Syntax.{w64}
use mir.Val.{to_z, of_z}
use mir.ValLaws.{to_z-of_z}
use Rattle.integer_part.specs.Parts.{floor_of}
use Rattle.integer_part.proofs.Floors.{floor-mag}
use Rattle.integer_part.proofs.IntegerSizes.{sum_fits}
use Rattle.ring.specs.Places.{position_ok}
use Rattle.ring.specs.Quick.{start_of}
use Rattle.ring.proofs.Positions.{position-at-most}
use Rattle.ring.proofs.HeldRuns.{inside}
use Rattle.cubic_farrow.proofs.BothWays as ways
use Rattle.cubic_farrow.proofs.read.Statement.{statement}
use Rattle.cubic_farrow.proofs.read.Tie as tie

in-range : (c : tie.Then-position_ok) → position_ok c.before.before.before.args.position ≡ true
in-range c = sym c.before.position_ok.ensures ∙ c.if-position_ok.true

-- The integer part, as the code holds it.
abbrev Z : tie.After-floor-first → ℤ
Z c = to_z w64 (of_z w64 c.floor-first.result)

whole : (c : tie.After-floor-first) → Z c ≡ floor_of c.before.before.before.before.args.position
whole c = to_z-of_z w64 c.floor-first.result (record { sfits = c.floor-first.type_inv }) ∙ c.floor-first.ensures

small : (c : tie.After-floor-first) → mag (Z c) ≤ 2 ^ 36
small c = rw (whole c) (floor-mag (2 ^ 36) _ (lit< tt) (position-at-most _ (in-range c.before)))

sub-first : tie.Need-overflow_sub-first
sub-first c = sum_fits (Z c) (negsuc 0) (omega (arith, small c))

-- The place where the run starts.
start : (c : tie.After-run_start-s) → let a = c.before.before.before.before.before.args in
    c.run_start-s.result ≡ start_of (length a.source.now) a.count (Z c.before -ℤ pos 1) 4
start c = rw (to_z-of_z w64 _ (sub-first c.before)) at c.run_start-s.ensures

add-if3 : tie.Need-overflow_add-p
add-if3 c =
    let r = c.before in
    let a = r.before.before.before.before.before.args in
    omega (
      arith,
      inside a.source.now a.count 4 (Z r.before -ℤ pos 1) r.run_start-s.result (start r) c.if-s.true
          (lit< tt),
    )

returns : tie.Need-returns-then-p-source
returns c =
    let t = c.before.before in
    let r = t.before.before in
    let n = r.before in
    rw (in-range n.before)
    (ways.side_by_side _ _ _ (Z n) (whole n) r.run_start-s.result (start r) t.before.if-s.true t.if-p-source.true
    c.before.fraction.ensures c.side_by_side.ensures)

at-requires : tie.Need-at-requires
at-requires c κs = in-range c.before.before.before

returns-2 : tie.Need-returns-then-position_ok
returns-2 c = rw (in-range c.before.before.before.before) c.at.ensures

returns-3 : tie.Need-returns
unfolding of_bits
returns-3 c = rw (← c.before.position_ok.ensures, c.if-position_ok.false)

pub read_spec : {M : Type 1} → statement M
read_spec =
    tie.close (tie.spec (λ c κs. search rules) (λ c κs. search rules) sub-first (λ c κs. search rules) add-if3
    (λ c κs. search rules) (λ c κs. search rules) returns at-requires returns-2 returns-3)
