-- `lagrange::sums::start` meets its contract, by what `run_start` says of a run that is held. Assumes nothing.
use mathlib.Core.Path.{◌≡◌, sym}
use mathlib.Core.Bool.{true≢false}
use native.Mathlib.Omega.{arith}
use lib.ListN.{length}
use mir.Syntax.{w64}
use mir.ValLaws.{to_z-of_z}
use Rattle.ring.specs.Quick.{start_of}
use Rattle.ring.proofs.HeldRuns.{inside, straight}
use Rattle.lagrange.proofs.sums.start.Goals as goal
use Rattle.lagrange.proofs.sums.start.Goals.{After-run_start-s}

begun : (c : After-run_start-s) → let a = c.args in
    c.run_start-s.result ≡ start_of (length a.source.now) a.count a.base a.taps
begun c = rw (to_z-of_z w64 c.args.base c.ranges.base) at c.run_start-s.ensures

pub overflow_add-p : goal.overflow_add-p
overflow_add-p c =
    let a = c.args in
    omega (
      arith,
      inside a.source.now a.count a.taps a.base c.run_start-s.result
          (begun (goal.at.overflow_add-p c).After-run_start-s) c.if-s.true
          (omega arith),
    )

pub returns-then-p-taps : goal.returns-then-p-taps
returns-then-p-taps c = λ e.
    let a = c.args in
    record {
      fits = c.if-p-taps.true;
      tap =
          λ k h. sym
          (straight a.source.now a.count a.taps a.base c.run_start-s.result
          (begun (goal.at.returns-then-p-taps c).After-run_start-s)
          c.if-s.true k h (omega (arith, c.if-p-taps.true)));
    }

pub returns-else-p-taps : goal.returns-else-p-taps
returns-else-p-taps c = λ e. absurd (true≢false (sym e))

pub returns-else-s : goal.returns-else-s
returns-else-s c = λ e. absurd (true≢false (sym e))
