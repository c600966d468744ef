-- `report_tests::all_24` meets its contract: before each turn `ok` says whether the values so far all have 24 bits.
-- Assumes nothing.
use mathlib.Core.Path.{ap, ◌∙◌}
use mathlib.Core.Bool.{Bool, ◌&&◌}
use native.Mathlib.Omega.{arith}
use lib.IntN.{pos}
use lib.ListN.{get_or}
use mir.Syntax.{w32}
use mir.ValLaws.{to_z-of_z}
use lib.Seq.{take_all}
use Rattle.report_tests.specs.Tests.{in24, all24}
use Rattle.report_tests.proofs.Values.{none-24, one-24}
use Rattle.report_tests.proofs.all_24.Goals as goal

pub loop-x-init : goal.loop-x-init
loop-x-init c = none-24 c.args.s.now

pub loop-x-preserved : goal.loop-x-preserved
loop-x-preserved c =
    let l = c.loop-x in
    let s = c.args.s.now in
    let held = to_z-of_z w32 (get_or s l.x-index (pos 0)) (record { sfits = c.in_24-arg-1.given }) in
    one-24 s l.x-index (omega arith) l.invariant
    (c.both-ok.ensures ∙ ap (λ (b : Bool). l.ok && b) (c.in_24.ensures ∙ ap in24 held))

pub returns : goal.returns
returns c = c.loop-x.invariant ∙ ap all24 (take_all c.loop-x.x-index _ (omega arith))

pub in_24-requires : goal.in_24-requires
in_24-requires c = tt

pub both-ok-requires : goal.both-ok-requires
both-ok-requires c = tt
