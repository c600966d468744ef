-- `sinc_read::kernel::at` meets its contract: each way gives the definition's value, by `BothWays`. Assumes nothing.
use mathlib.Core.Path.{◌≡◌, sym, ◌∙◌, subst}
use Prim.Native.Nat.{◌^◌, ◌≤◌}
use lib.IntN.{ℤ}
use lib.ListN.{length}
use lib.Signed.{mag}
use mir.Syntax.{w64}
use mir.Val.{to_z, of_z}
use mir.ValLaws.{to_z-of_z}
use Rattle.ring.proofs.HeldRuns as run
use Rattle.sinc_phases.specs.Phases.{first_tap}
use Rattle.sinc_read.proofs.AcceptedReading.{Readable, readable}
use Rattle.sinc_read.proofs.BothWays as ways
use Rattle.sinc_read.proofs.kernel.at.Goals as goal
use Rattle.sinc_read.proofs.kernel.at.Goals.{After-run_start-start}

-- Nothing is refused.
ok : (c : After-run_start-start) → let a = c.args in
    Readable a.taps a.phases (length a.table.now) a.position
ok c =
    readable c.args.taps c.args.phases (length c.args.table.now) c.args.position c.requires

-- The first tap, as the code holds it.
first : (c : After-run_start-start) → let a = c.args in
    to_z w64 (of_z w64 c.first_tap-first.result) ≡ first_tap a.position a.taps
first c =
    let f = c.first_tap-first in
    ways.first-is (ok c) (to_z-of_z w64 f.result (record { sfits = f.type_inv }) ∙ f.ensures)

pub held-requires : goal.held-requires
held-requires c =
    let a = c.args in
    let Z = to_z w64 (of_z w64 c.first_tap-first.result) in (
      ways.rows_fit (ok (goal.at.held-requires c).After-run_start-start) c.phase_at-between.ensures,
      run.fits a.source.now a.count a.taps Z c.run_start-start.result c.run_start-start.ensures c.if-start.true,
      run.inside a.source.now a.count a.taps Z c.run_start-start.result c.run_start-start.ensures c.if-start.true
          (ways.some (ok (goal.at.held-requires c).After-run_start-start)),
    )

pub one_by_one-requires : goal.one_by_one-requires
one_by_one-requires c = (
  ways.rows_fit (ok (goal.at.one_by_one-requires c).After-run_start-start) c.phase_at-between.ensures,
  ways.few (ok (goal.at.one_by_one-requires c).After-run_start-start),
  subst (λ (z : ℤ). mag z ≤ 2 ^ 37) (sym (first (goal.at.one_by_one-requires c).After-run_start-start))
      (ways.first-near (ok (goal.at.one_by_one-requires c).After-run_start-start)),
)

pub returns-then-start : goal.returns-then-start
returns-then-start c =
    let a = c.args in
    ways.held (ok (goal.at.returns-then-start c).After-run_start-start) a.table.now a.source.now a.count
    c.phase_at-between.ensures (first (goal.at.returns-then-start c).After-run_start-start)
    c.run_start-start.result c.run_start-start.ensures c.if-start.true c.held.ensures

pub returns-else-start : goal.returns-else-start
returns-else-start c =
    let a = c.args in
    ways.one_by_one (ok (goal.at.returns-else-start c).After-run_start-start) a.table.now a.source.now a.count
    c.phase_at-between.ensures
    (first (goal.at.returns-else-start c).After-run_start-start) c.one_by_one.ensures
