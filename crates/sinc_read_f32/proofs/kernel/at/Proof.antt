-- `sinc_read_f32::kernel::at` meets its contract: each path gives the definition's value, by `BothWays`. Assumes
-- nothing.
use borrow.Author.Rules.{rules}
use mathlib.Core.Path.{◌≡◌, sym, ◌∙◌, subst}
use Prim.Native.Nat.{◌^◌, ◌≤◌}
use native.Mathlib.Nat.{le_refl}
use lib.IntN.{ℤ}
use lib.ListN.{length}
use lib.Signed.{mag}
use mir.Syntax.{w64}
use mir.Val.{to_z, of_z}
use mir.ValLaws.{to_z-of_z}
use Rattle.ring.proofs.HeldRuns as run
use Rattle.sinc_phases.specs.Phases.{first_tap}
use Rattle.sinc_read.proofs.AcceptedReading.{Readable, readable}
use Rattle.sinc_read.proofs.BothWays as found
use Rattle.sinc_read_f32.proofs.BothWays as ways
use Rattle.sinc_read_f32.proofs.kernel.at.Statement.{statement}
use Rattle.sinc_read_f32.proofs.kernel.at.Tie as tie

abbrev begun : tie.After-run_start-start → tie.Start
begun c = c.before.before.before.before.before.before

-- Nothing is refused.
ok : (c : tie.After-run_start-start) → let a = (begun c).args in
    Readable a.taps a.phases (length a.table.now) a.position
ok c =
    let s = begun c in
    readable s.args.taps s.args.phases (length s.args.table.now) s.args.position s.requires

-- The first tap as the code holds it.
first : (c : tie.After-run_start-start) → let a = (begun c).args in
    to_z w64 (of_z w64 c.before.first_tap-first.result) ≡ first_tap a.position a.taps
first c =
    let f = c.before.first_tap-first in
    found.first-is (ok c) (to_z-of_z w64 f.result (record { sfits = f.type_inv }) ∙ f.ensures)

held-requires : tie.Need-held-requires
held-requires c κs =
    let r = c.before in
    let a = (begun r).args in
    let Z = to_z w64 (of_z w64 r.before.first_tap-first.result) in (
      found.rows_fit (ok r) r.before.before.before.phase_at-between.ensures,
      le_refl a.taps,
      run.fits a.source.now a.count a.taps Z r.run_start-start.result r.run_start-start.ensures c.if-start.true,
      run.inside a.source.now a.count a.taps Z r.run_start-start.result r.run_start-start.ensures c.if-start.true
          (found.some (ok r)),
    )

scattered-requires : tie.Need-scattered-requires
scattered-requires c κs =
    let r = c.before in (
      found.rows_fit (ok r) r.before.before.before.phase_at-between.ensures,
      found.few (ok r),
      subst (λ (z : ℤ). mag z ≤ 2 ^ 37) (sym (first r)) (found.first-near (ok r)),
    )

returns : tie.Need-returns-then-start
returns c =
    let r = c.before.before in
    let a = (begun r).args in
    let n = r.before.before in
    ways.held (ok r) a.table.now a.source.now a.count n.before.phase_at-between.ensures n.narrow-blend.ensures
    (first r) r.run_start-start.result r.run_start-start.ensures c.before.if-start.true c.held.ensures

returns-2 : tie.Need-returns-else-start
returns-2 c =
    let r = c.before.before in
    let a = (begun r).args in
    let n = r.before.before in
    ways.scattered (ok r) a.table.now a.source.now a.count n.before.phase_at-between.ensures
    n.narrow-blend.ensures (first r) c.scattered.ensures

pub at_spec : {M : Type 1} → statement M
at_spec =
    tie.close (tie.spec (λ c κs. search rules) (λ c κs. search rules) (λ c κs. search rules) (λ c κs. search rules)
    held-requires scattered-requires returns returns-2)
