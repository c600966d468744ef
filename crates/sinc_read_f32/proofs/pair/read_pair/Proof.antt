-- `sinc_read_f32::pair::read_pair` meets its contract: if nothing is refused and every tap is held, both tables are
-- read at once, by `BothWays`. Assumes nothing.
use borrow.Author.Rules.{rules}
use mathlib.Core.Path.{◌≡◌, sym, ◌∙◌, subst}
use Prim.Native.Nat.{ℕ}
use lib.ListN.{length}
use mir.Syntax.{w64}
use mir.Val.{to_z, of_z}
use mir.ValLaws.{to_z-of_z}
use Rattle.ring.proofs.HeldRuns as run
use Rattle.sinc_phases.specs.Phases.{first_tap}
use Rattle.sinc_read.specs.Reading.{sample_verdict}
use Rattle.sinc_read.proofs.AcceptedReading.{Readable, readable}
use Rattle.sinc_read.proofs.AnswerByRefusal.{read_is}
use Rattle.sinc_read.proofs.BothWays as found
use Rattle.sinc_read_f32.proofs.BothWays as ways
use Rattle.sinc_read_f32.proofs.pair.read_pair.Statement.{statement}
use Rattle.sinc_read_f32.proofs.pair.read_pair.Tie as tie

abbrev begun : tie.After-run_start-start → tie.Start
begun c = c.before.before.before.before.before.before.before.before.before.before

-- Neither table is refused.
due : (c : tie.After-run_start-start) → let a = (begun c).args in
    sample_verdict a.taps a.phases (length a.one.now) a.position ≡ 0
due c = let i = c.before.before.before.before in sym i.before.refusal.ensures ∙ i.if-refusal-eq0.true

due-two : (c : tie.After-run_start-start) → let a = (begun c).args in
    sample_verdict a.taps a.phases (length a.two.now) a.position ≡ 0
due-two c =
    let a = (begun c).args in
    subst (λ (n : ℕ). sample_verdict a.taps a.phases n a.position ≡ 0)
    c.before.before.before.before.before.before.if-one-two.true (due c)

ok : (c : tie.After-run_start-start) → let a = (begun c).args in
    Readable a.taps a.phases (length a.one.now) a.position
ok c = let a = (begun c).args in readable a.taps a.phases (length a.one.now) a.position (due c)

ok-two : (c : tie.After-run_start-start) → let a = (begun c).args in
    Readable a.taps a.phases (length a.two.now) a.position
ok-two c = let a = (begun c).args in readable a.taps a.phases (length a.two.now) a.position (due-two c)

-- The first tap as the code holds it.
first : (c : tie.After-run_start-start) → let a = (begun c).args in
    to_z w64 (of_z w64 c.before.first_tap-first.result) ≡ first_tap a.position a.taps
first c =
    let f = c.before.first_tap-first in
    found.first-is (ok c) (to_z-of_z w64 f.result (record { sfits = f.type_inv }) ∙ f.ensures)

held-requires : tie.Need-held-requires
held-requires c κs =
    let r = c.before in
    let a = (begun r).args in
    let Z = to_z w64 (of_z w64 r.before.first_tap-first.result) in (
      found.rows_fit (ok r) r.before.before.before.phase_at-between.ensures,
      found.rows_fit (ok-two r) r.before.before.before.phase_at-between.ensures,
      run.fits a.source.now a.count a.taps Z r.run_start-start.result r.run_start-start.ensures c.if-start.true,
      run.inside a.source.now a.count a.taps Z r.run_start-start.result r.run_start-start.ensures c.if-start.true
          (found.some (ok r)),
    )

returns : tie.Need-returns-then-start
returns c =
    let r = c.before.before in
    let a = (begun r).args in
    let n = r.before.before in
    let both = c.held.ensures in (
      ways.held (ok r) a.one.now a.source.now a.count n.before.phase_at-between.ensures n.narrow-blend.ensures
          (first r) r.run_start-start.result r.run_start-start.ensures c.before.if-start.true both.0
          ∙ read_is _ a.taps a.phases (length a.one.now) a.position (due r),
      ways.held (ok r) a.two.now a.source.now a.count n.before.phase_at-between.ensures n.narrow-blend.ensures
          (first r) r.run_start-start.result r.run_start-start.ensures c.before.if-start.true both.1
          ∙ read_is _ a.taps a.phases (length a.two.now) a.position (due-two r),
    )

pub read_pair_spec : {M : Type 1} → statement M
read_pair_spec =
    tie.close (tie.spec (λ c κs. search rules) (λ c κs. search rules) (λ c κs. search rules) (λ c κs. search rules)
    (λ c κs. search rules) held-requires returns (λ c κs. search rules) (λ c κs. search rules) (λ c. search rules))
