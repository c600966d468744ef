-- `farrow8::read` meets its contract: each way gives the definition's value, by `BothWays`, and the indices fit since a
-- position in range has a small integer part. Assumes nothing.
use borrow.Author.Rules.{rules}
use mathlib.Core.Path.{◌≡◌, sym, ◌∙◌}
use mathlib.Core.Bool.{true}
use Prim.Native.Nat.{◌^◌, ◌≤◌}
use native.Mathlib.Omega.{arith}
use lib.Dec.{lit<}
use lib.IntN.{ℤ, pos, ◌-ℤ◌}
use lib.ListN.{length}
use lib.Signed.{mag}
use lib.Ieee.{Float, of_bits}
use mir.Syntax.{w64}
use mir.Val.{to_z, of_z}
use mir.ValLaws.{to_z-of_z}
use Rattle.integer_part.specs.Parts.{floor_of}
use Rattle.integer_part.proofs.Floors.{floor-mag}
use Rattle.integer_part.proofs.IntegerSizes.{sum_fits}
use Rattle.ring.specs.Places.{position_ok}
use Rattle.ring.specs.Quick.{start_of}
use Rattle.ring.proofs.Positions.{position-at-most}
use Rattle.ring.proofs.HeldRuns.{inside}
use Rattle.farrow8.specs.Kernel.{horner, read_of}
use Rattle.farrow8.proofs.BothWays as ways
use Rattle.farrow8.proofs.Horner.{horner-is, sure}
use Rattle.farrow8.proofs.read.Statement.{statement}
use Rattle.farrow8.proofs.read.Tie as tie

in-range : (c : tie.Then-position_ok) → position_ok c.before.before.before.args.position ≡ true
in-range c = sym c.before.position_ok.ensures ∙ c.if-position_ok.true

-- The integer part, as the code holds it.
abbrev Z : tie.After-floor-i → ℤ
Z c = to_z w64 (of_z w64 c.floor-i.result)

whole : (c : tie.After-floor-i) → Z c ≡ floor_of c.before.before.before.before.args.position
whole c = to_z-of_z w64 c.floor-i.result (record { sfits = c.floor-i.type_inv }) ∙ c.floor-i.ensures

small : (c : tie.After-floor-i) → mag (Z c) ≤ 2 ^ 36
small c = rw (whole c) (floor-mag (2 ^ 36) _ (lit< tt) (position-at-most _ (in-range c.before)))

sub-run-start : tie.Need-overflow_sub-i
sub-run-start c = sum_fits (Z c.before) _ (omega (arith, small c.before))

-- The place where the run starts.
start : (c : tie.After-run_start-run) → let a = c.before.before.before.before.before.before.args in
    c.run_start-run.result ≡ start_of (length a.source.now) a.count (Z c.before.before -ℤ pos 3) 8
start c = rw (to_z-of_z w64 _ (sub-run-start c.before)) at c.run_start-run.ensures

add-if3 : tie.Need-overflow_add-p
add-if3 c =
    let r = c.before in
    let a = r.before.before.before.before.before.before.args in
    omega (
      arith,
      inside a.source.now a.count 8 (Z r.before.before -ℤ pos 3) r.run_start-run.result (start r)
          c.if-run.true (lit< tt),
    )

-- The value of Horner's rule over the sums of the eight taps, read side by side.
side_by_side : (c : tie.After-sums-s) {y : Float} → let m = c.before.before.before.before.before in
    y ≡ horner c.sums-s.result m.fraction-mu.result → let a = m.before.before.before.before.before.args in
    y ≡ read_of a.source.now a.count a.position
side_by_side c e =
    let x = c.before in
    let t = x.before in
    let r = t.before.before in
    let m = r.before in
    let n = m.before in
    rw (in-range n.before)
    (ways.side_by_side _ _ _ (Z n) (whole n) m.fraction-mu.ensures r.run_start-run.result (start r)
    t.before.if-run.true t.if-p-source.true
    (e ∙ horner-is x.side_by_side.result c.sums-s.result _ c.sums-s.ensures) x.side_by_side.ensures)

returns : tie.Need-returns-then-is_finite
returns c =
    let q = c.before.before in
    side_by_side q.before (sure q.quick-r.ensures c.before.is_finite.ensures c.if-is_finite.true)

returns-2 : tie.Need-returns-then-p-source
returns-2 c = side_by_side c.before.before.before.before c.slow.ensures

one-by-one-requires : tie.Need-one_by_one-requires
one-by-one-requires c κs = small c.before.before.before

returns-3 : tie.Need-returns-then-position_ok
returns-3 c =
    let s = c.before in
    let x = s.before in
    let m = x.before.before.before in
    let n = m.before in
    rw (in-range n.before)
    (ways.one_by_one _ _ _ (Z n) (whole n) m.fraction-mu.ensures (rw x.one_by_one.ensures at
    (c.over.ensures ∙ horner-is x.one_by_one.result s.sums.result _ s.sums.ensures)))

returns-4 : tie.Need-returns
unfolding of_bits
returns-4 c = rw (← c.before.position_ok.ensures, c.if-position_ok.false)

pub read_spec : {M : Type 1} → statement M
read_spec =
    tie.close (tie.spec (λ c κs. search rules) (λ c κs. search rules) (λ c κs. search rules) sub-run-start
    (λ c κs. search rules) add-if3 (λ c κs. search rules) (λ c κs. search rules) (λ c κs. search rules)
    (λ c κs. search rules) returns (λ c κs. search rules) returns-2 one-by-one-requires (λ c κs. search rules)
    (λ c κs. search rules) returns-3 returns-4)
