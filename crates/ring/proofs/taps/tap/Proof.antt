-- `ring::tap` meets its contract, by where `tap_place` says that the tap stands. Assumes nothing.
use borrow.Author.Rules.{rules, scaled_Fits}
use lib.Ieee.{of_bits}
use mir.Syntax.{w64}
use mir.ValLaws.{to_z-of_z}
use Rattle.ring.proofs.OneTap.{One, one-absent, one_inside, one_kept}
use Rattle.ring.proofs.taps.tap.Statement.{statement}
use Rattle.ring.proofs.taps.tap.Tie as tie

said : (c : tie.After-tap_place-start) → let a = c.before.before.args in
    One a.source.now a.count a.index c.tap_place-start.result
said c =
    record {
      start =
          rw (to_z-of_z w64 c.before.before.args.index c.before.before.ranges.index) at c.tap_place-start.ensures;
    }

mul-result : tie.Need-offset_bounds-source-at
mul-result c =
    let t = c.before in scaled_Fits _ _ 8 (one_inside (said t) c.if-start.true) t.before.before.well_formed.0.1

returns : tie.Need-returns-then-start
returns c = one_kept (said c.before.before) c.before.if-start.true

returns-2 : tie.Need-returns
unfolding of_bits
returns-2 c = one-absent (said c.before) c.if-start.false

pub tap_spec : {M : Type 1} → statement M
tap_spec =
    tie.close (tie.spec (λ c κs. search rules) mul-result
    (λ c. one_inside (said c.before.before) c.before.if-start.true) returns returns-2)
